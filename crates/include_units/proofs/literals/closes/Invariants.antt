use Rattle.std.proofs.Common.{◌≡◌, false, length}
use Rattle.include_units.specs.Literals.{closes}
use Rattle.include_units.proofs.literals.closes.Given as goal

abbrev pub invariant-loop-c : goal.invariant-loop-c
invariant-loop-c l = closes l.quote l.escaped l.closed l.rest ≡ closes l.fn.quote false false l.fn.text

abbrev pub decreases-loop-c : goal.decreases-loop-c
decreases-loop-c l = length l.rest
