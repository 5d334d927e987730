use Rattle.std.proofs.Common.{◌≡◌, length}
use Rattle.asking.specs.LookUps.{run_by}
use Rattle.elab_state.specs.Seen.{told_of}
use Rattle.elab_state.specs.Wants.{answered}
use Rattle.elab_core.specs.Tests.{stated}
use Rattle.elab_core.proofs.tests.look_at_stated.Given as goal

abbrev pub invariant-choices : goal.invariant-choices
invariant-choices l =
    run_by (answered (told_of l.around)) (stated l.around.item.now l.rest l.made)
    ≡ run_by (answered (told_of l.around)) (stated l.around.item.now l.choices l.fn.made)

abbrev pub decreases-choices : goal.decreases-choices
decreases-choices l = length l.rest
