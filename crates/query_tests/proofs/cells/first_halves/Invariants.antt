use Rattle.std.proofs.Common.{◌≡◌}
use Rattle.query_tests.specs.Cells.{halves}
use Rattle.query_tests.proofs.cells.first_halves.Given as goal

abbrev pub invariant-loop-i : goal.invariant-loop-i
invariant-loop-i l = l.cells.items ≡ halves l.i
