use Rattle.std.proofs.Common.{◌≡◌, ◌-◌, ℕ, true, List, drop}
use Rattle.unit_index.specs.declared.exported.Does.TheVariants.{Declares, Defines}
use Rattle.unit_index.specs.Exported.{at, first}
use Rattle.unit_index.specs.Firsts.{or_else}
use Rattle.unit_index.specs.News.{has}
use Rattle.unit_index.proofs.across.renewing.firsts_among.Given as goal

abbrev pub invariant-units : goal.invariant-units
invariant-units l = (q : List ℕ) → has l.names q ≡ true →
    (or_else (at l.found.declared q) (first Declares (drop l.place l.units) q) ≡ first Declares l.units q)
    × (or_else (at l.found.defined q) (first Defines (drop l.place l.units) q) ≡ first Defines l.units q)

abbrev pub decreases-units : goal.decreases-units
decreases-units l = 9223372036854775808 - l.place
