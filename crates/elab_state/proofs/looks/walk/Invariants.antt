use Rattle.std.proofs.Common.{◌≡◌, ◌-◌}
use Rattle.asking.specs.LookUps.{run_by}
use Rattle.type_rel.specs.Inside.{most_tags}
use Rattle.elab_state.specs.Looks.{walk_from, walked}
use Rattle.elab_state.specs.Seen.{told_of}
use Rattle.elab_state.specs.Ties.{leads}
use Rattle.elab_state.specs.Wants.{answered}
use Rattle.elab_state.proofs.looks.walk.Given as goal

abbrev pub invariant-tags : goal.invariant-tags
invariant-tags l =
    run_by (answered (told_of l.around)) (walked (most_tags - l.place) (leads l.through) l.around.item.now l.reached l.place l.made)
    ≡ run_by (answered (told_of l.around)) (walk_from (leads l.through) l.around.item.now l.id l.fn.made)

abbrev pub decreases-tags : goal.decreases-tags
decreases-tags l = 9223372036854775808 - l.place
