use Rattle.std.proofs.Common.{◌≤◌}
use Rattle.edge_tests.proofs.ends.sink_takes_few_bytes_and_fails_where_told.Given as goal

abbrev pub invariant-loop-bytes : goal.invariant-loop-bytes
invariant-loop-bytes g l = l.sink.faults ≤ l.bytes-index
