use Rattle.std.proofs.Common.{◌≤◌}
use Rattle.edge_tests.proofs.ends.sink_has_room_for_four_mebibytes.Given as goal

abbrev pub invariant-loop-want : goal.invariant-loop-want
invariant-loop-want g l = l.sink.faults ≤ l.want-index
