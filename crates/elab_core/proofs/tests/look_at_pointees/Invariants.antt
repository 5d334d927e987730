use Rattle.std.proofs.Common.{◌≡◌, length}
use Rattle.asking.specs.LookUps.{run_by}
use Rattle.elab_state.specs.Seen.{told_of}
use Rattle.elab_state.specs.Wants.{answered}
use Rattle.elab_core.specs.Tests.{pointees}
use Rattle.elab_core.proofs.tests.look_at_pointees.Given as goal

abbrev pub invariant-parts : goal.invariant-parts
invariant-parts l =
    run_by (answered (told_of l.around)) (pointees l.around.item.now l.rest l.made)
    ≡ run_by (answered (told_of l.around)) (pointees l.around.item.now l.parts l.fn.made)

abbrev pub decreases-parts : goal.decreases-parts
decreases-parts l = length l.rest
