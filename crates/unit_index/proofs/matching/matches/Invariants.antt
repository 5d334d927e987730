use Rattle.std.proofs.Common.{◌-◌}
use Rattle.unit_index.proofs.MatchLemmas.{IsWalked}
use Rattle.unit_index.proofs.matching.matches.Given as goal

abbrev pub invariant-pairs : goal.invariant-pairs
invariant-pairs l = IsWalked l.left_tags l.right_tags l.left l.right l.place l.pairs

abbrev pub decreases-pairs : goal.decreases-pairs
decreases-pairs l = 9223372036854775808 - l.place
