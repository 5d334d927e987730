use Rattle.std.proofs.Common.{◌≡◌, drop}
use Rattle.macro_expand.proofs.splicing.dropped.Given as goal

abbrev pub invariant-loop-left : goal.invariant-loop-left
invariant-loop-left l = drop l.left l.rest ≡ drop l.width l.fn.rest

abbrev pub decreases-loop-left : goal.decreases-loop-left
decreases-loop-left l = l.left
