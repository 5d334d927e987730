use Rattle.std.proofs.Common.{◌≡◌, length}
use Rattle.include_units.specs.Runs.{with_output, without_pragmas}
use Rattle.include_units.proofs.runs.put_each.Given as goal

abbrev pub invariant-loop-token : goal.invariant-loop-token
invariant-loop-token l = with_output (without_pragmas l.skip l.rest) l.made ≡ with_output (without_pragmas 0 l.fn.tokens) l.fn.made

abbrev pub decreases-loop-token : goal.decreases-loop-token
decreases-loop-token l = length l.rest
