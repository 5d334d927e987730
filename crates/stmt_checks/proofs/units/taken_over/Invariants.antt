use Rattle.std.proofs.Common.{length}
use Rattle.std.specs.Vec.Iter.{into_iter_items}
use Rattle.stmt_checks.proofs.TakenOver.{Taking}
use Rattle.stmt_checks.proofs.units.taken_over.Given as goal

abbrev pub invariant-items : goal.invariant-items
invariant-items l = Taking l.tokens l.items l.before l.folding l.rest l.others (into_iter_items l.left.heads) (into_iter_items l.left.bodies)

abbrev pub decreases-items : goal.decreases-items
decreases-items l = length l.rest
