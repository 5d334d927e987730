use Rattle.std.proofs.Common.{◌≡◌, ◌+◌, ◌*◌, length}
use Rattle.init_rules.specs.Paths.{among, path_in}
use Rattle.init_rules.proofs.paths.+members.Given as goal

abbrev pub decreases-path_in : goal.decreases-path_in
decreases-path_in l = 3 * l.walk.now.bound

abbrev pub decreases-named : goal.decreases-named
decreases-named l = 3 * l.walk.now.bound + 1

abbrev pub decreases-among : goal.decreases-among
decreases-among l = 3 * l.walk.now.bound + 2

abbrev pub invariant-among-members : goal.invariant-among-members
invariant-among-members l =
    among (λ other. path_in l.walk.bound l.walk.tags.now l.walk.inside.now l.walk.name.now other) l.walk.name.now l.at l.rest
    ≡ among (λ other. path_in l.walk.bound l.walk.tags.now l.walk.inside.now l.walk.name.now other) l.walk.name.now l.number l.members

abbrev pub decreases-among-members : goal.decreases-among-members
decreases-among-members l = length l.rest
