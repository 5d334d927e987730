use Rattle.std.proofs.Common.{◌≡◌, ◌≤◌, length}
use Rattle.std.specs.List.{filter}
use Rattle.unit_index.specs.Handles.{is_nameless}
use Rattle.unit_index.proofs.handles.next_nameless.Given as goal

abbrev pub invariant-members : goal.invariant-members
invariant-members l = (filter (is_nameless l.tags) l.rest ≡ filter (is_nameless l.tags) l.members) × (length l.rest ≤ length l.members)

abbrev pub decreases-members : goal.decreases-members
decreases-members l = length l.rest
