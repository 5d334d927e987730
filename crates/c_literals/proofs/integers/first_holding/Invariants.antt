use Rattle.std.proofs.Common.{◌≡◌, length}
use Rattle.std.specs.List.{find}
use Rattle.c_literals.specs.Integer.{holds}
use Rattle.c_literals.proofs.integers.first_holding.Given as goal

abbrev pub invariant-loop-ty : goal.invariant-loop-ty
invariant-loop-ty l = find (holds l.value) l.rest ≡ find (holds l.value) l.types

abbrev pub decreases-loop-ty : goal.decreases-loop-ty
decreases-loop-ty l = length l.rest
