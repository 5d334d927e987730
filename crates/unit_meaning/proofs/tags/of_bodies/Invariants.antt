use Rattle.std.proofs.Common.{◌≡◌, length}
use Rattle.unit_meaning.specs.Tags.{of_bodies}
use Rattle.unit_meaning.proofs.tags.of_bodies.Given as goal

abbrev pub invariant-bodies : goal.invariant-bodies
invariant-bodies l = of_bodies l.tags l.rest ≡ of_bodies l.fn.tags l.bodies

abbrev pub decreases-bodies : goal.decreases-bodies
decreases-bodies l = length l.rest
