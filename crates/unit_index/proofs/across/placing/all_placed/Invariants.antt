use Rattle.std.proofs.Common.{◌≡◌, ◌-◌, ◌++◌, drop}
use Rattle.unit_index.specs.Crossing as spec
use Rattle.unit_index.proofs.across.placing.all_placed.Given as goal

abbrev pub invariant-units : goal.invariant-units
invariant-units l = l.out.items ++ spec.all_placed (drop l.place l.units) (drop l.place l.crossings) ≡ spec.all_placed l.units l.crossings

abbrev pub decreases-units : goal.decreases-units
decreases-units l = 9223372036854775808 - l.place
