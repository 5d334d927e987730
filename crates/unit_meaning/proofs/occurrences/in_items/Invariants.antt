use Rattle.std.proofs.Common.{◌≡◌, ◌++◌, length, map}
use Rattle.unit_meaning.specs.Occurrences.{in_items}
use Rattle.unit_meaning.proofs.occurrences.in_items.Given as goal

abbrev pub invariant-items : goal.invariant-items
invariant-items l = map (λ o. o.now) l.out.items ++ in_items l.rest l.later_heads l.later_bodies ≡ in_items l.items l.heads l.bodies

abbrev pub decreases-items : goal.decreases-items
decreases-items l = length l.rest
