use Rattle.std.proofs.Common.{◌≡◌, ◌-◌, ◌++◌, length, drop, map}
use Rattle.rename_core.specs.declared.mentions.Denoted.{Denoted}
use Rattle.rename_core.specs.Ties.Lists.{listed}
use Rattle.rename_core.specs.Mentions.{same_denoted, tokens_of}
use Rattle.rename_core.proofs.mentions.mention_all.Given as goal

abbrev pub invariant-units : goal.invariant-units
invariant-units l = (q : Denoted) → listed same_denoted l.mentioned q ++ tokens_of l.unit q (drop l.unit (map (λ os. os.now) l.units)) ≡ tokens_of 0 q (map (λ os. os.now) l.units)

abbrev pub decreases-units : goal.decreases-units
decreases-units l = length l.units - l.unit
