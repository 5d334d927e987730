use Rattle.std.proofs.Common.{ap, ◌∙◌}
use Rattle.indexmap.specs.IndexMap.{insert_entry}
use Rattle.scope_tables.specs.Occurrences.{same_anchor}
use Rattle.meaning_lists.proofs.entities.Lasts.put.Goals as goal

pub returns : goal.returns
returns c = c.in_ok-insert.ensures.entries ∙ ap (λ xs. insert_entry same_anchor xs c.args.anchor c.args.entity) c.self.view_is
