use Rattle.std.proofs.Common.{rules, ◌≡◌, ap, ◌∙◌}
use Rattle.indexmap.specs.IndexMap.{insert_entry}
use Rattle.scope_tables.specs.Occurrences.{same_anchor}
use Rattle.unit_meaning.proofs.entities.ByAnchor.put.Goals as goal

pub returns : goal.returns
returns c =
    let is : c.in-Ok.anchor ≡ c.args.entity.anchor = search rules in
    c.in_ok-insert.ensures.entries
    ∙ ap (λ xs. insert_entry same_anchor xs c.in-Ok.anchor c.args.entity) c.self.view_is
    ∙ ap (λ a. insert_entry same_anchor c.args.self.now a c.args.entity) is
