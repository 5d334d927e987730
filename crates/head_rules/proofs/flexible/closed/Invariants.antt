use Rattle.std.proofs.Common.{◌≡◌, ◌++◌, length}
use Rattle.head_rules.specs.Flexible.{closed}
use Rattle.head_rules.proofs.flexible.closed.Given as goal

abbrev pub invariant-members : goal.invariant-members
invariant-members l = l.out.items ++ closed l.rest ≡ closed l.members

abbrev pub decreases-members : goal.decreases-members
decreases-members l = length l.rest
