use Rattle.std.proofs.Common.{◌≡◌, [], length}
use Rattle.unit_meaning.specs.Entities.{with_items}
use Rattle.unit_meaning.proofs.entities.with_items.Given as goal

abbrev pub invariant-items : goal.invariant-items
invariant-items l = with_items l.sources l.all l.rest l.later_heads l.later_bodies ≡ with_items l.sources [] l.items l.heads l.bodies

abbrev pub decreases-items : goal.decreases-items
decreases-items l = length l.rest
