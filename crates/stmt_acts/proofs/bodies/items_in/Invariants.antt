use Rattle.std.proofs.Common.{◌≡◌}
use Rattle.tree_data.specs.Stated.{stmt_of}
use Rattle.stmt_acts.specs.Bodies as bodies
use Rattle.stmt_acts.proofs.bodies.items_in.Given as goal

abbrev pub invariant-inward : goal.invariant-inward
invariant-inward l = bodies.items_in (stmt_of l.here) ≡ bodies.items_in (stmt_of l.fn.stmt)
