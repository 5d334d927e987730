use Rattle.std.proofs.Common.{length}
use Rattle.unit_index.specs.Under.{AreApart}
use Rattle.unit_index.proofs.under.are_apart.Given as goal

abbrev pub invariant-places : goal.invariant-places
invariant-places l = record {
  back : AreApart l.from l.rest → AreApart 0 l.places;
  on : AreApart 0 l.places → AreApart l.from l.rest;
}

abbrev pub decreases-places : goal.decreases-places
decreases-places l = length l.rest
