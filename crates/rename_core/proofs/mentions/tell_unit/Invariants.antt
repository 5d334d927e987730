use Rattle.std.proofs.Common.{◌≡◌, ◌++◌, length, map}
use Rattle.tok_data.specs.declared.sources.TokId.{TokId}
use Rattle.rename_core.specs.Ties.Lists.{listed}
use Rattle.rename_core.specs.Mentions.{told_in}
use Rattle.scope_tables.specs.Occurrences.{same_tok}
use Rattle.rename_core.specs.Occurrences.{anchors_at}
use Rattle.rename_core.proofs.mentions.tell_unit.Given as goal

abbrev pub invariant-occs : goal.invariant-occs
invariant-occs l = (q : TokId) → listed same_tok l.told q ++ map (told_in l.unit) (anchors_at q l.rest) ≡ listed same_tok l.fn.told q ++ map (told_in l.unit) (anchors_at q l.occs)

abbrev pub decreases-occs : goal.decreases-occs
decreases-occs l = length l.rest
