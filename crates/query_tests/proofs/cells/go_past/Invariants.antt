use Rattle.std.proofs.Common.{◌-◌}
use Rattle.query_tests.specs.Cells.{AreAnswered}
use Rattle.query_tests.proofs.cells.go_past.Given as goal

abbrev pub invariant-halves : goal.invariant-halves
invariant-halves l = AreAnswered l.answers l.run

abbrev pub decreases-halves : goal.decreases-halves
decreases-halves l = l.number - l.run
