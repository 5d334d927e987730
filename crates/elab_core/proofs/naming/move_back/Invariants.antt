use Rattle.std.proofs.Common.{◌≡◌, length}
use Rattle.elab_core.specs.Steps.{moved}
use Rattle.elab_core.proofs.naming.move_back.Given as goal

abbrev pub invariant-inner : goal.invariant-inner
invariant-inner l = moved l.left l.steps ≡ moved l.fn.inner l.fn.steps

abbrev pub decreases-inner : goal.decreases-inner
decreases-inner l = length l.left
