use Rattle.std.proofs.Common.{◌≡◌, length}
use Rattle.unit_meaning.specs.Entities.{with_bodies}
use Rattle.unit_meaning.proofs.entities.with_bodies.Given as goal

abbrev pub invariant-bodies : goal.invariant-bodies
invariant-bodies l = with_bodies l.sources l.all l.rest ≡ with_bodies l.sources l.fn.all l.bodies

abbrev pub decreases-bodies : goal.decreases-bodies
decreases-bodies l = length l.rest
