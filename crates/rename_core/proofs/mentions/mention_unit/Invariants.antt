use Rattle.std.proofs.Common.{◌≡◌, ◌++◌, length}
use Rattle.rename_core.specs.declared.mentions.Denoted.{Denoted}
use Rattle.rename_core.specs.Ties.Lists.{listed}
use Rattle.rename_core.specs.Mentions.{same_denoted, tokens_in}
use Rattle.rename_core.proofs.mentions.mention_unit.Given as goal

abbrev pub invariant-occs : goal.invariant-occs
invariant-occs l = (q : Denoted) → listed same_denoted l.mentioned q ++ tokens_in l.unit q l.rest ≡ listed same_denoted l.fn.mentioned q ++ tokens_in l.unit q l.occs

abbrev pub decreases-occs : goal.decreases-occs
decreases-occs l = length l.rest
