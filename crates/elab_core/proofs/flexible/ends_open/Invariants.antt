use Rattle.std.proofs.Common.{◌≡◌, length}
use Rattle.elab_core.specs.Flexible.{ends_open, open_behind}
use Rattle.elab_core.proofs.flexible.ends_open.Given as goal

abbrev pub invariant-members : goal.invariant-members
invariant-members l = open_behind l.open l.rest ≡ ends_open l.members

abbrev pub decreases-members : goal.decreases-members
decreases-members l = length l.rest
