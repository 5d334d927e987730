use Rattle.std.proofs.Common.{◌≡◌, ◌-◌, length, drop, map}
use Rattle.rename_core.specs.Found.{pasted_from}
use Rattle.rename_core.proofs.marks.pasted.Given as goal

abbrev pub invariant-units : goal.invariant-units
invariant-units l = pasted_from l.unit l.walk.denoted (drop l.unit (map (λ os. os.now) l.units)) ≡ pasted_from 0 l.walk.denoted (map (λ os. os.now) l.units)

abbrev pub decreases-units : goal.decreases-units
decreases-units l = length l.units - l.unit
