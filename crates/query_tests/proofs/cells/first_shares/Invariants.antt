use Rattle.std.proofs.Common.{◌≡◌}
use Rattle.query_tests.specs.Cells.{shares}
use Rattle.query_tests.proofs.cells.first_shares.Given as goal

abbrev pub invariant-loop-i : goal.invariant-loop-i
invariant-loop-i l = l.cells.items ≡ shares l.i
