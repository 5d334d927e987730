use Rattle.std.proofs.Common.{◌≡◌, length}
use Rattle.include_units.specs.Literals.{is_closed}
use Rattle.include_units.proofs.literals.is_closed.Given as goal

abbrev pub invariant-loop-c : goal.invariant-loop-c
invariant-loop-c l = is_closed l.quote l.rest ≡ is_closed l.fn.quote l.fn.text

abbrev pub decreases-loop-c : goal.decreases-loop-c
decreases-loop-c l = length l.rest
