use Rattle.std.proofs.Common.{◌≡◌, ◌+◌, ◌*◌, length}
use Rattle.elab_core.specs.Flexible.{flexible_in, holds_open}
use Rattle.elab_core.proofs.flexible.+flexible.Given as goal

abbrev pub decreases-flexible_in : goal.decreases-flexible_in
decreases-flexible_in l = 4 * l.walk.now.bound

abbrev pub decreases-of_type : goal.decreases-of_type
decreases-of_type l = 4 * l.walk.now.bound + 1

abbrev pub decreases-holds_open : goal.decreases-holds_open
decreases-holds_open l = 4 * l.walk.now.bound + 2

abbrev pub decreases-of_info : goal.decreases-of_info
decreases-of_info l = 4 * l.walk.now.bound + 3

abbrev pub invariant-holds_open-members : goal.invariant-holds_open-members
invariant-holds_open-members l =
    holds_open (λ id. flexible_in l.walk.bound l.walk.tags.now l.walk.inside.now id) l.rest
    ≡ holds_open (λ id. flexible_in l.walk.bound l.walk.tags.now l.walk.inside.now id) l.members

abbrev pub decreases-holds_open-members : goal.decreases-holds_open-members
decreases-holds_open-members l = length l.rest
