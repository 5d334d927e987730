use Rattle.std.proofs.Common.{◌≡◌, ◌++◌, length}
use Rattle.head_rules.specs.Flexible.{faults}
use Rattle.head_rules.proofs.flexible.misplaced.Given as goal

abbrev pub invariant-members : goal.invariant-members
invariant-members l = l.out.items ++ faults l.rest ≡ faults l.members

abbrev pub decreases-members : goal.decreases-members
decreases-members l = length l.rest
