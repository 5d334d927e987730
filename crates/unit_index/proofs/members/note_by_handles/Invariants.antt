use Rattle.std.proofs.Common.{◌≡◌, length}
use Rattle.unit_index.specs.Keyed.{at}
use Rattle.unit_index.specs.Members.{by_handles}
use Rattle.unit_index.specs.Needs.{Needed, noted}
use Rattle.unit_index.proofs.members.note_by_handles.Given as goal

abbrev pub invariant-members : goal.invariant-members
invariant-members l = (more : Needed) → noted l.pairs (by_handles l.kind l.tags (at l.others) l.rest more) ≡ noted l.fn.pairs (by_handles l.kind l.tags (at l.others) l.members more)

abbrev pub decreases-members : goal.decreases-members
decreases-members l = length l.rest
