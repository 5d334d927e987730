use Rattle.std.proofs.Common.{◌+◌, ◌*◌}
use Rattle.init_rules.proofs.descents.+search.Given as goal

abbrev pub decreases-down_in : goal.decreases-down_in
decreases-down_in l = 2 * l.search.now.bound

abbrev pub decreases-down : goal.decreases-down
decreases-down l = 2 * l.search.now.bound + 1
