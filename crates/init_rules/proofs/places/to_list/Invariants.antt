use Rattle.std.proofs.Common.{◌≡◌, length}
use Rattle.init_rules.specs.Places.{listed}
use Rattle.init_rules.proofs.places.to_list.Given as goal

abbrev pub invariant-loop-places : goal.invariant-loop-places
invariant-loop-places l = listed l.places ≡ listed l.fn.places

abbrev pub decreases-loop-places : goal.decreases-loop-places
decreases-loop-places l = length l.places
