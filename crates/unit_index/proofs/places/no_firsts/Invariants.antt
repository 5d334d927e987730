use Rattle.unit_index.proofs.PlaceLemmas.{AreFilled}
use Rattle.unit_index.proofs.places.no_firsts.Given as goal

abbrev pub invariant-places : goal.invariant-places
invariant-places l = AreFilled l.count l.none l.left l.firsts.items

abbrev pub decreases-places : goal.decreases-places
decreases-places l = l.left
