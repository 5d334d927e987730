use Rattle.std.proofs.Common.{◌≡◌, true, ◌++◌, length}
use Rattle.include_units.specs.Definitions.{body_faults}
use Rattle.include_units.proofs.definitions.add_body_faults.Given as goal

abbrev pub invariant-loop-token : goal.invariant-loop-token
invariant-loop-token l = l.faults ++ body_faults l.head l.first l.rest ≡ l.fn.faults ++ body_faults l.fn.head true l.fn.head.body

abbrev pub decreases-loop-token : goal.decreases-loop-token
decreases-loop-token l = length l.rest
