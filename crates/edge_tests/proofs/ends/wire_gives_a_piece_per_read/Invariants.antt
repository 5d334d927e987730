use Rattle.std.proofs.Common.{◌≡◌, ◌≤◌}
use Rattle.edge_tests.proofs.ends.wire_gives_a_piece_per_read.Given as goal

abbrev pub invariant-loop-want : goal.invariant-loop-want
invariant-loop-want g l = (l.wire.faults ≤ l.want-index) × (l.wire.sink.faults ≡ 0)
