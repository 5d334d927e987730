use Rattle.std.proofs.Common.{◌≡◌, length}
use Rattle.asking.specs.LookUps.{run_by}
use Rattle.elab_state.specs.Seen.{context_of, told_of}
use Rattle.elab_state.specs.Wants.{answered}
use Rattle.elab_core.specs.Waits.{all_applied}
use Rattle.elab_core.proofs.unary.apply_all.Given as goal

abbrev pub invariant-waiting : goal.invariant-waiting
invariant-waiting l =
    run_by (answered (told_of l.around)) (all_applied (context_of l.around) l.left l.operand l.made)
    ≡ run_by (answered (told_of l.around)) (all_applied (context_of l.around) l.fn.waiting l.fn.last l.fn.made)

abbrev pub decreases-waiting : goal.decreases-waiting
decreases-waiting l = length l.left
