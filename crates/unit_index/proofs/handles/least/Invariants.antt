use Rattle.std.proofs.Common.{◌≡◌, None, length}
use Rattle.std.specs.Prelude.{option_map}
use Rattle.unit_index.specs.Handles.{least}
use Rattle.unit_index.proofs.handles.least.Given as goal

abbrev pub invariant-members : goal.invariant-members
invariant-members l = least (option_map (λ n. n.now) l.best) l.rest ≡ least None l.members

abbrev pub decreases-members : goal.decreases-members
decreases-members l = length l.rest
