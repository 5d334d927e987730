use Rattle.std.proofs.Common.{◌≡◌, ◌-◌, ℕ, List, drop}
use Rattle.unit_index.specs.Exported.{at, first}
use Rattle.unit_index.specs.Firsts.{or_else}
use Rattle.unit_index.proofs.across.faults.firsts.Given as goal

abbrev pub invariant-units : goal.invariant-units
invariant-units l = (q : List ℕ) → or_else (at l.found q) (first l.does (drop l.place l.units) q) ≡ first l.does l.units q

abbrev pub decreases-units : goal.decreases-units
decreases-units l = 9223372036854775808 - l.place
