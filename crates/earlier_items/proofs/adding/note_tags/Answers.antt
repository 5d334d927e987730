use Rattle.std.proofs.Common.{rules, ◌≡◌, ap, sym, ◌∙◌, [], ◌∷◌}
use Rattle.std.proofs.lemmas.List.{nil_from_length}
use Rattle.elab_state.specs.Wants.{answered}
use Rattle.earlier_items.specs.Before.{or_answer, tag}
use Rattle.earlier_items.proofs.Noted.{tags_next}
use Rattle.earlier_items.proofs.adding.note_tags.Goals as goal

pub entities-preserved : goal.entities-preserved
entities-preserved c =
    let is : c.entities.rest.now ≡ c.in-Some.entity.now ∷ c.in-Some.behind.now = c.in-Some.ensures.cases.0 in
    record {
      said = λ q. tags_next q c.entities.known c.note_tag.new.known is (c.in_ok-note_tag.ensures.said q) (c.entities.invariant.said q);
      others = search rules;
    }

pub returns-clause-said : goal.returns-clause-said
returns-clause-said c =
    let is : c.entities.rest.now ≡ [] = nil_from_length c.entities.rest.now c.in_default.ensures.cases in
    λ q. ap (λ es. or_answer (tag q es) (answered c.entities.known q)) (sym is) ∙ c.entities.invariant.said q
