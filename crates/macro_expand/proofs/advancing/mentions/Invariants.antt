use Rattle.std.proofs.Common.{length}
use Rattle.macro_expand.specs.Ties.Machine.{Unmentioned}
use Rattle.macro_expand.proofs.advancing.mentions.Given as goal

abbrev pub invariant-tokens : goal.invariant-tokens
invariant-tokens l = Unmentioned l.def l.args l.rest → Unmentioned l.def l.args l.list

abbrev pub decreases-tokens : goal.decreases-tokens
decreases-tokens l = length l.rest
