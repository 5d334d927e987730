use Rattle.std.proofs.Common.{◌≡◌, length}
use Rattle.pp_cond.specs.Frames.{reduced}
use Rattle.pp_cond.proofs.frames.Frames.reduced.Given as goal

abbrev pub invariant-loop-frame : goal.invariant-loop-frame
invariant-loop-frame l = reduced l.level l.frames l.operand ≡ reduced l.level l.fn.self l.fn.operand

abbrev pub decreases-loop-frame : goal.decreases-loop-frame
decreases-loop-frame l = length l.frames
