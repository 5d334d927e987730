use Rattle.std.proofs.Common.{◌≡◌, ap, sym, ◌∙◌, [], ◌∷◌}
use Rattle.std.proofs.lemmas.List.{nil_from_length}
use Rattle.elab_state.specs.Wants.{answered}
use Rattle.earlier_items.specs.Before.{bound, members_only, or_answer}
use Rattle.earlier_items.proofs.Noted.{members_next, none_only}
use Rattle.earlier_items.proofs.adding.bind_members.Goals as goal

pub bindings-preserved : goal.bindings-preserved
bindings-preserved c =
    let is : c.bindings.rest.now ≡ c.in-Some.binding.now ∷ c.in-Some.behind.now = c.in-Some.ensures.cases.0 in
    λ q. members_next q c.bindings.known c.bind_member.new.known is (c.in_ok-bind_member.ensures.said q) (c.bindings.invariant q)

pub returns : goal.returns
returns c =
    let is : c.bindings.rest.now ≡ [] = nil_from_length c.bindings.rest.now c.in_default.ensures.cases in
    record { said = λ q. ap (λ o. or_answer o (answered c.bindings.known q)) (sym (none_only q.space)) ∙ ap (λ bs. or_answer (members_only q.space (bound q bs)) (answered c.bindings.known q)) (sym is) ∙ c.bindings.invariant q }
