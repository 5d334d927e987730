use Rattle.std.proofs.Common.{◌≡◌, length}
use Rattle.c_session.specs.Renewal.{stand_at}
use Rattle.c_session.proofs.analysis.stand_at.Given as goal

abbrev pub invariant-units : goal.invariant-units
invariant-units l = stand_at l.rest l.others ≡ stand_at l.fn.units l.fn.paths

abbrev pub decreases-units : goal.decreases-units
decreases-units l = length l.rest
