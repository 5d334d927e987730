use Rattle.std.proofs.Common.{◌≡◌, length}
use Rattle.include_units.specs.Literals.{all_open}
use Rattle.include_units.proofs.literals.all_open.Given as goal

abbrev pub invariant-loop-token : goal.invariant-loop-token
invariant-loop-token l = all_open l.rest l.made ≡ all_open l.fn.tokens l.fn.made

abbrev pub decreases-loop-token : goal.decreases-loop-token
decreases-loop-token l = length l.rest
