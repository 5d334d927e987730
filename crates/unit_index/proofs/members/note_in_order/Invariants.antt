use Rattle.std.proofs.Common.{◌≡◌, length}
use Rattle.unit_index.specs.Members.{in_order}
use Rattle.unit_index.specs.Needs.{Needed, noted}
use Rattle.unit_index.proofs.members.note_in_order.Given as goal

abbrev pub invariant-members : goal.invariant-members
invariant-members l = (more : Needed) → noted l.pairs (in_order l.kind l.xs l.ys more) ≡ noted l.fn.pairs (in_order l.kind l.left l.right more)

abbrev pub decreases-members : goal.decreases-members
decreases-members l = length l.xs
