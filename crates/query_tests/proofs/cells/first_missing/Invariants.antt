use Rattle.std.proofs.Common.{◌≡◌, drop}
use Rattle.query_tests.specs.Cells.{rest_of}
use Rattle.query_tests.proofs.cells.first_missing.Given as goal

abbrev pub invariant-loop-place : goal.invariant-loop-place
invariant-loop-place l = rest_of l.answers (drop l.place l.reads) ≡ rest_of l.answers l.reads
