use Rattle.std.proofs.Common.{◌≡◌, [], length}
use Rattle.tree_data.specs.Seen.{pointers_of}
use Rattle.elab_state.specs.Seen.{context_of}
use Rattle.elab_core.specs.Expressions.{pointer_steps}
use Rattle.elab_core.proofs.naming.add_pointers.Given as goal

abbrev pub invariant-pointers : goal.invariant-pointers
invariant-pointers l =
    pointer_steps (context_of l.around) (pointers_of l.rest) l.steps l.made ≡ pointer_steps (context_of l.around) (pointers_of l.pointers) [] l.fn.made

abbrev pub decreases-pointers : goal.decreases-pointers
decreases-pointers l = length l.rest
