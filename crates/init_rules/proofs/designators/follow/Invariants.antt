use Rattle.std.proofs.Common.{◌≡◌, length}
use Rattle.init_rules.specs.Designators.{along, followed}
use Rattle.init_rules.proofs.designators.follow.Given as goal

abbrev pub invariant-loop-number : goal.invariant-loop-number
invariant-loop-number l = along l.tags l.left l.places ≡ followed l.tags l.fn.path l.fn.places

abbrev pub decreases-loop-number : goal.decreases-loop-number
decreases-loop-number l = length l.left
