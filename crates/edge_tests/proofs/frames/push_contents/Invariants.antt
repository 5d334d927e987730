use Rattle.std.proofs.Common.{◌≡◌, ◌+◌, length}
use Rattle.edge_tests.proofs.frames.push_contents.Given as goal

abbrev pub invariant-loop-content : goal.invariant-loop-content
invariant-loop-content l = l.frames.place + length l.frames.bytes ≡ l.initial.frames.place + length l.initial.frames.bytes

abbrev pub decreases-loop-content : goal.decreases-loop-content
decreases-loop-content l = length l.frames.bytes
