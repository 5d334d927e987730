use Rattle.std.proofs.Common.{◌≡◌, ◌-◌, ℕ, List, drop, length}
use Rattle.rename_core.specs.Kept.{at}
use Rattle.rename_core.specs.Occurrences.{or_later}
use Rattle.rename_core.specs.Views.{occs_in}
use Rattle.rename_core.proofs.lookups.units_told.Given as goal

abbrev pub invariant-views : goal.invariant-views
invariant-views l = (q : List ℕ) → or_later (at l.units q) (occs_in (drop l.place l.views) q) ≡ occs_in l.views q

abbrev pub decreases-views : goal.decreases-views
decreases-views l = length l.views - l.place
