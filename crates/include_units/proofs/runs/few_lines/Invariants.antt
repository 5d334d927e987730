use Rattle.std.proofs.Common.{◌≡◌, ◌++◌, length}
use Rattle.include_units.specs.Rooms.{few_lines}
use Rattle.include_units.proofs.runs.few_lines.Given as goal

abbrev pub invariant-loop-token : goal.invariant-loop-token
invariant-loop-token l = l.lines.items ++ few_lines l.places l.rest ≡ few_lines l.fn.places l.fn.tokens

abbrev pub decreases-loop-token : goal.decreases-loop-token
decreases-loop-token l = length l.rest
