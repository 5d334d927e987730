use Rattle.std.proofs.Common.{sym, ◌∙◌}
use Rattle.type_data.proofs.AlikeLemmas.{entries_decide}
use Rattle.type_data.proofs.tags.Tags.are_alike.Goals as goal

pub returns : goal.returns
returns c = λ yes. (entries_decide c.args.self.now c.args.other.now).0 (sym c.has_same_entries.ensures ∙ yes)
