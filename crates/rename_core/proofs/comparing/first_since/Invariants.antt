use Rattle.std.proofs.Common.{◌≡◌, ◌-◌, drop, length}
use Rattle.rename_core.specs.Kept.{at, other_at}
use Rattle.rename_core.specs.Occurrences.{first_some}
use Rattle.rename_core.proofs.comparing.first_since.Given as goal

abbrev pub invariant-views : goal.invariant-views
invariant-views l = first_some (other_at l.plan (at l.after)) (drop l.place l.before) ≡ first_some (other_at l.plan (at l.after)) l.before

abbrev pub decreases-views : goal.decreases-views
decreases-views l = length l.before - l.place
