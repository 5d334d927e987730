use Rattle.std.proofs.Common.{◌≡◌, ◌-◌, drop, length}
use Rattle.rename_core.specs.Clashes.{named_in}
use Rattle.rename_core.specs.Occurrences.{first_some}
use Rattle.rename_core.proofs.comparing.first_named.Given as goal

abbrev pub invariant-views : goal.invariant-views
invariant-views l = first_some (named_in l.name) (drop l.place l.views) ≡ first_some (named_in l.name) l.views

abbrev pub decreases-views : goal.decreases-views
decreases-views l = length l.views - l.place
