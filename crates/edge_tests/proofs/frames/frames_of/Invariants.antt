use Rattle.std.proofs.Common.{◌≡◌, ◌+◌, length}
use Rattle.edge_tests.proofs.frames.frames_of.Given as goal

abbrev pub invariant-loop-rest : goal.invariant-loop-rest
invariant-loop-rest l = l.frames.place + length l.frames.bytes + length l.rest ≡ length l.input

abbrev pub decreases-loop-rest : goal.decreases-loop-rest
decreases-loop-rest l = length l.rest
