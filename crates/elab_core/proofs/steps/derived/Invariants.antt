use Rattle.std.proofs.Common.{◌≡◌, length}
use Rattle.asking.specs.LookUps.{run_by}
use Rattle.elab_state.specs.Seen.{context_of, told_of}
use Rattle.elab_state.specs.Wants.{answered}
use Rattle.elab_core.specs.Steps.{derived}
use Rattle.elab_core.proofs.steps.derived.Given as goal

abbrev pub invariant-steps : goal.invariant-steps
invariant-steps l =
    run_by (answered (told_of l.around)) (derived (context_of l.around) l.at l.parameter l.left l.typed l.made)
    ≡ run_by (answered (told_of l.around)) (derived (context_of l.around) l.at l.parameter l.fn.steps l.fn.base l.fn.made)

abbrev pub decreases-steps : goal.decreases-steps
decreases-steps l = length l.left
