use Rattle.std.proofs.Common.{◌≡◌, ◌+◌, ◌*◌, ◌++◌, length}
use Rattle.head_rules.specs.Anonymous.{names_from, names_in}
use Rattle.head_rules.proofs.anonymous.+anonymous.Given as goal

abbrev pub decreases-names_in : goal.decreases-names_in
decreases-names_in l = 4 * l.walk.now.bound

abbrev pub decreases-of_type : goal.decreases-of_type
decreases-of_type l = 4 * l.walk.now.bound + 1

abbrev pub decreases-of_member : goal.decreases-of_member
decreases-of_member l = 4 * l.walk.now.bound + 2

abbrev pub decreases-names_from : goal.decreases-names_from
decreases-names_from l = 4 * l.walk.now.bound + 3

abbrev pub invariant-names_from-members : goal.invariant-names_from-members
invariant-names_from-members l =
    l.out.items ++ names_from (λ other. names_in l.walk.bound l.walk.tags.now l.walk.inside.now other) l.rest
    ≡ l.fn.out.items ++ names_from (λ other. names_in l.walk.bound l.walk.tags.now l.walk.inside.now other) l.members

abbrev pub decreases-names_from-members : goal.decreases-names_from-members
decreases-names_from-members l = length l.rest
