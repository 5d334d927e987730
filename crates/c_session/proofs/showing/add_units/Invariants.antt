use Rattle.std.proofs.Common.{length}
use Rattle.c_session.proofs.Gathering.{Gathers}
use Rattle.c_session.proofs.showing.add_units.Given as goal

abbrev pub invariant-units : goal.invariant-units
invariant-units l = Gathers l.fn.gathered l.gathered l.fn.units l.rest

abbrev pub decreases-units : goal.decreases-units
decreases-units l = length l.rest
