use Rattle.std.proofs.Common.{◌≡◌, ◌+◌, ◌*◌, length}
use Rattle.elab_core.specs.Members.{among, member_in}
use Rattle.elab_core.proofs.members.+members.Given as goal

abbrev pub decreases-member_in : goal.decreases-member_in
decreases-member_in l = 4 * l.walk.now.bound

abbrev pub decreases-of_type : goal.decreases-of_type
decreases-of_type l = 4 * l.walk.now.bound + 1

abbrev pub decreases-named : goal.decreases-named
decreases-named l = 4 * l.walk.now.bound + 2

abbrev pub decreases-among : goal.decreases-among
decreases-among l = 4 * l.walk.now.bound + 3

abbrev pub invariant-among-members : goal.invariant-among-members
invariant-among-members l =
    among (λ other. member_in l.walk.bound l.walk.tags.now l.walk.inside.now l.walk.name.now other) l.walk.name.now l.rest
    ≡ among (λ other. member_in l.walk.bound l.walk.tags.now l.walk.inside.now l.walk.name.now other) l.walk.name.now l.members

abbrev pub decreases-among-members : goal.decreases-among-members
decreases-among-members l = length l.rest
