use Rattle.std.proofs.Common.{◌≡◌, length}
use Rattle.plain_mean.proofs.Told.{IsTelling}
use Rattle.plain_mean.proofs.answers.tell_all.Given as goal

abbrev pub invariant-wants : goal.invariant-wants
invariant-wants l = IsTelling l.fn.lexings l.fn.unit.answers l.unit.answers l.fn.wants l.rest × (l.unit.conf ≡ l.fn.unit.conf) × (l.lexings ≡ l.fn.lexings)

abbrev pub decreases-wants : goal.decreases-wants
decreases-wants l = length l.rest
