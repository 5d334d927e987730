use Rattle.std.proofs.Common.{length}
use Rattle.unit_ends.specs.Ends.{ends}
use Rattle.unit_ends.proofs.WalkLemmas.{IsBetween}
use Rattle.unit_ends.proofs.faults.end_faults.Given as goal

abbrev pub invariant-loop-head : goal.invariant-loop-head
invariant-loop-head l = IsBetween (record { heads = l.heads; bodies = l.bodies }) l.rest l.passed l.faults.items (ends l.heads l.bodies)

abbrev pub decreases-loop-head : goal.decreases-loop-head
decreases-loop-head l = length l.rest
