use Rattle.std.proofs.Common.{◌≡◌, ◌++◌}
use Rattle.tree_data.specs.Stated.{stmt_of}
use Rattle.stmt_acts.specs.Bodies as bodies
use Rattle.stmt_acts.specs.Shown as shown
use Rattle.stmt_acts.specs.Works.{acts_left, size_left}
use Rattle.stmt_acts.proofs.bodies.acts_of.Given as goal

abbrev pub invariant-works : goal.invariant-works
invariant-works l = shown.acts_of l.acts.items ++ acts_left l.works ≡ bodies.body (stmt_of l.fn.body)

abbrev pub decreases-works : goal.decreases-works
decreases-works l = size_left l.works
