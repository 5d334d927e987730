use Rattle.std.proofs.Common.{◌≡◌, ◌++◌, length}
use Rattle.unit_meaning.specs.Faults.{of_items}
use Rattle.unit_meaning.specs.Seen.{showing_of}
use Rattle.unit_meaning.proofs.faults.of_items.Given as goal

abbrev pub invariant-items : goal.invariant-items
invariant-items l = l.out.items ++ of_items (showing_of l.showing) l.rest l.later_heads l.later_bodies ≡ of_items (showing_of l.showing) l.items l.heads l.bodies

abbrev pub decreases-items : goal.decreases-items
decreases-items l = length l.rest
