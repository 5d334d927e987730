use Rattle.std.proofs.Common.{length}
use Rattle.stmt_checks.proofs.units.in_front.Given as goal

abbrev pub invariant-items : goal.invariant-items
invariant-items l = Unit {0}

abbrev pub decreases-items : goal.decreases-items
decreases-items l = length l.rest
