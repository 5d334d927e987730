use Rattle.std.proofs.Common.{rules, ◌≡◌, sym, ap, ◌∙◌}
use Rattle.asking.specs.Asking.{Gives, and_then}
use Rattle.asking.specs.LookUps.{Ends, run_by}
use Rattle.elab_state.specs.Seen.{context_of, told_of}
use Rattle.elab_state.specs.Wants.{answered}
use Rattle.elab_state.proofs.Runs.{run_then, stops_on}
use Rattle.elab_core.specs.TagBodies.{begun_as, tested}
use Rattle.elab_core.proofs.tag_bodies.begin_tested.Goals as goal

pub returns-in-Err : goal.returns-in-Err
returns-in-Err c = stops_on (answered (told_of c.args.around.now)) (tested (context_of c.args.around.now) c.args.kind c.args.entity c.args.made.now) (λ now. Gives (begun_as (context_of c.args.around.now) c.args.kind c.args.at c.args.entity now)) c.in-Err.halt c.in-Err.ensures

pub returns-in-Ok-begin_as : goal.returns-in-Ok-begin_as
returns-in-Ok-begin_as c =
    let first : run_by (answered (told_of c.args.around.now)) (tested (context_of c.args.around.now) c.args.kind c.args.entity c.args.made.now) ≡ Ends c.test.new.made = search rules in
    let is : (c.in-Ok-begin_as.open, c.begin_as.new.made) ≡ begun_as (context_of c.args.around.now) c.args.kind c.args.at c.args.entity c.test.new.made = search rules in
    run_then (answered (told_of c.args.around.now)) (tested (context_of c.args.around.now) c.args.kind c.args.entity c.args.made.now) (λ now. Gives (begun_as (context_of c.args.around.now) c.args.kind c.args.at c.args.entity now)) c.test.new.made first ∙ ap (λ r. Ends r) (sym is)
