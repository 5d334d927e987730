use Rattle.std.proofs.Common.{length}
use Rattle.stmt_checks.proofs.Alike.{are_all, next_alike}
use Rattle.stmt_checks.proofs.units.are_alike.Given as goal
use Rattle.stmt_checks.specs.Last.{AreAlike}

abbrev pub invariant-tokens : goal.invariant-tokens
invariant-tokens l = AreAlike l.rest l.left → AreAlike l.tokens l.others

abbrev pub decreases-tokens : goal.decreases-tokens
decreases-tokens l = length l.rest
