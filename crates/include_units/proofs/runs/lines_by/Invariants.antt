use Rattle.std.proofs.Common.{◌≡◌, ◌++◌, length}
use Rattle.include_units.specs.Runs.{lines_by}
use Rattle.include_units.proofs.runs.lines_by.Given as goal

abbrev pub invariant-loop-token : goal.invariant-loop-token
invariant-loop-token l = l.lines.items ++ lines_by l.places l.rest ≡ lines_by l.fn.places l.fn.tokens

abbrev pub decreases-loop-token : goal.decreases-loop-token
decreases-loop-token l = length l.rest
