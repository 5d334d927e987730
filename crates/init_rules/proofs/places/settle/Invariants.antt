use Rattle.std.proofs.Common.{◌≡◌, length}
use Rattle.init_rules.specs.Places.{settled}
use Rattle.init_rules.proofs.places.settle.Given as goal

abbrev pub invariant-loop-places : goal.invariant-loop-places
invariant-loop-places l = settled l.tags l.places ≡ settled l.tags l.fn.places

abbrev pub decreases-loop-places : goal.decreases-loop-places
decreases-loop-places l = length l.places
