use Rattle.std.proofs.Common.{◌≡◌, length}
use Rattle.edge_pipe.proofs.write_whole.Given as goal

abbrev pub invariant-loop-rest : goal.invariant-loop-rest
invariant-loop-rest l = l.wire ≡ l.fn.wire

abbrev pub decreases-loop-rest : goal.decreases-loop-rest
decreases-loop-rest l = length l.rest
