use Rattle.std.proofs.Common.{[], length}
use Rattle.unit_items.specs.Items as spec
use Rattle.unit_items.specs.Maps.{counted}
use Rattle.unit_items.proofs.Labelled.{Names}
use Rattle.unit_items.proofs.naming.named.Given as goal

abbrev pub invariant-turn : goal.invariant-turn
invariant-turn l = Names (spec.named l.tokens [] l.places) l.out.items (counted l.labels) l.left l.rest

abbrev pub decreases-turn : goal.decreases-turn
decreases-turn l = length l.rest
