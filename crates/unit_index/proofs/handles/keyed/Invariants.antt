use Rattle.std.proofs.Common.{◌≡◌, ℕ, List, length}
use Rattle.unit_index.specs.Firsts.{first_some, or_else}
use Rattle.unit_index.specs.Handles.{one, partner}
use Rattle.unit_index.specs.Keyed.{at}
use Rattle.unit_index.proofs.handles.keyed.Given as goal

abbrev pub invariant-members : goal.invariant-members
invariant-members l = (q : List ℕ) → or_else (at l.keyed q) (first_some (one l.tags q) l.rest) ≡ partner l.tags l.members q

abbrev pub decreases-members : goal.decreases-members
decreases-members l = length l.rest
