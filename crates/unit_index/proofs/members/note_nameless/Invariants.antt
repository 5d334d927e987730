use Rattle.std.proofs.Common.{◌≡◌, length}
use Rattle.unit_index.specs.Members.{in_order, nameless}
use Rattle.unit_index.specs.Needs.{Needed, noted}
use Rattle.unit_index.proofs.members.note_nameless.Given as goal

abbrev pub invariant-members : goal.invariant-members
invariant-members l = (more : Needed) → noted l.pairs (in_order l.kind (nameless l.left_tags l.xs) (nameless l.right_tags l.ys) more) ≡ noted l.fn.pairs (in_order l.kind (nameless l.left_tags l.left) (nameless l.right_tags l.right) more)

abbrev pub decreases-members : goal.decreases-members
decreases-members l = length l.xs
