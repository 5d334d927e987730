use Rattle.std.proofs.Common.{ap, ◌∙◌}
use Rattle.indexmap.specs.IndexMap.{insert_entry}
use Rattle.meaning_lists.specs.Bindings.{key_of, same_key}
use Rattle.meaning_lists.proofs.bindings.Ends.put.Goals as goal

pub returns : goal.returns
returns c = c.in_ok-insert.ensures.entries ∙ ap (λ xs. insert_entry same_key xs (key_of c.args.binding) c.args.binding.entity) c.self.view_is
