use Rattle.std.proofs.Common.{ap, Some, None, ◌∙◌}
use Rattle.std.specs.List.{find}
use Rattle.unit_index.specs.Speaking.{is_named}
use Rattle.unit_index.proofs.LookLemmas.{found}
use Rattle.unit_index.proofs.indexed.Indexed.entity.Goals as goal

pub returns-in-Some : goal.returns-in-Some
returns-in-Some c = c.entity_at.ensures ∙ found (is_named c.args.anchor.now) _ (Some c.in-Some.place) c.in-Some.ensures
    ∙ ap (find (is_named c.args.anchor.now)) c.as_slice-entities.ensures ∙ ap (λ u. find (is_named c.args.anchor.now) u.meaning.entities) c.self.view_is

pub returns-in-None : goal.returns-in-None
returns-in-None c = found (is_named c.args.anchor.now) c.as_slice-entities.result.now None c.in-None.ensures
    ∙ ap (find (is_named c.args.anchor.now)) c.as_slice-entities.ensures ∙ ap (λ u. find (is_named c.args.anchor.now) u.meaning.entities) c.self.view_is
