use Rattle.std.proofs.Common.{rules, ◌≡◌, ap, sym, ◌∙◌, [], ◌∷◌}
use Rattle.std.proofs.lemmas.List.{nil_from_length}
use Rattle.elab_state.specs.Wants.{answered}
use Rattle.earlier_items.specs.Before.{bound, or_answer}
use Rattle.earlier_items.proofs.Noted.{bound_next}
use Rattle.earlier_items.proofs.adding.bind_all.Goals as goal

pub bindings-preserved : goal.bindings-preserved
bindings-preserved c =
    let is : c.bindings.rest.now ≡ c.in-Some.binding.now ∷ c.in-Some.behind.now = c.in-Some.ensures.cases.0 in
    record {
      said = λ q. bound_next q c.bindings.known c.bind.new.known is (c.in_ok-bind.ensures.said q) (c.bindings.invariant.said q);
      others = search rules;
    }

pub returns-clause-said : goal.returns-clause-said
returns-clause-said c =
    let is : c.bindings.rest.now ≡ [] = nil_from_length c.bindings.rest.now c.in_default.ensures.cases in
    λ q. ap (λ bs. or_answer (bound q bs) (answered c.bindings.known q)) (sym is) ∙ c.bindings.invariant.said q
