use Rattle.std.proofs.Common.{◌≡◌, length}
use Rattle.std.specs.Str.Parse.{digits_value_after, digits_value}
use Rattle.c_literals.proofs.digits.number.Given as goal

abbrev pub invariant-loop-c : goal.invariant-loop-c
invariant-loop-c l = digits_value_after l.base l.total l.rest ≡ digits_value l.base l.digits

abbrev pub decreases-loop-c : goal.decreases-loop-c
decreases-loop-c l = length l.rest
