use Rattle.std.proofs.Common.{◌≡◌, ◌++◌, length}
use Rattle.unit_meaning.specs.Faults.{of_bodies}
use Rattle.unit_meaning.specs.Seen.{showing_of}
use Rattle.unit_meaning.proofs.faults.add_bodies.Given as goal

abbrev pub invariant-bodies : goal.invariant-bodies
invariant-bodies l = l.out.items ++ of_bodies (showing_of l.showing) l.rest ≡ l.fn.out.items ++ of_bodies (showing_of l.showing) l.bodies

abbrev pub decreases-bodies : goal.decreases-bodies
decreases-bodies l = length l.rest
