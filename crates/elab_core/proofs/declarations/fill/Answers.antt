use Rattle.std.proofs.Common.{rules, ◌≡◌, ◌∙◌}
use Rattle.asking.specs.Asking.{and_then}
use Rattle.asking.specs.LookUps.{Ends, run_by}
use Rattle.tree_data.specs.Seen.{initial_of}
use Rattle.elab_state.specs.Seen.{context_of, told_of}
use Rattle.elab_state.specs.Wants.{answered}
use Rattle.elab_state.proofs.Runs.{run_then, stops_as, stops_on}
use Rattle.elab_core.specs.Declarations.{evaluated}
use Rattle.elab_core.specs.Declarators.{begun}
use Rattle.elab_core.specs.Expressions.{initial}
use Rattle.elab_core.proofs.declarations.fill.Goals as goal

pub returns-in-Err : goal.returns-in-Err
returns-in-Err c =
    stops_on (answered (told_of c.args.around.now)) (begun (context_of c.args.around.now) c.args.entity.now c.args.made.now) (λ r. initial (context_of c.args.around.now) evaluated (initial_of c.args.init.now) r.0 r.1) c.in-Err.halt c.in-Err.ensures

pub returns-in-Ok-initial : goal.returns-in-Ok-initial
returns-in-Ok-initial c =
    let first : run_by (answered (told_of c.args.around.now)) (begun (context_of c.args.around.now) c.args.entity.now c.args.made.now) ≡ Ends (c.in-Ok.filling, c.begin_init.new.made) = search rules in
    let second : run_by (answered (told_of c.args.around.now)) (initial (context_of c.args.around.now) evaluated (initial_of c.args.init.now) c.in-Ok.filling c.begin_init.new.made) ≡ Ends (c.initial.new.filling, c.initial.new.made) = search rules in
    run_then (answered (told_of c.args.around.now)) (begun (context_of c.args.around.now) c.args.entity.now c.args.made.now) (λ r. initial (context_of c.args.around.now) evaluated (initial_of c.args.init.now) r.0 r.1) (c.in-Ok.filling, c.begin_init.new.made) first ∙ second

pub returns-in-Err-initial : goal.returns-in-Err-initial
returns-in-Err-initial c =
    let first : run_by (answered (told_of c.args.around.now)) (begun (context_of c.args.around.now) c.args.entity.now c.args.made.now) ≡ Ends (c.in-Ok.filling, c.begin_init.new.made) = search rules in
    stops_as (run_by (answered (told_of c.args.around.now)) (and_then (begun (context_of c.args.around.now) c.args.entity.now c.args.made.now) (λ r. initial (context_of c.args.around.now) evaluated (initial_of c.args.init.now) r.0 r.1))) (run_by (answered (told_of c.args.around.now)) (initial (context_of c.args.around.now) evaluated (initial_of c.args.init.now) c.in-Ok.filling c.begin_init.new.made)) c.in-Err-initial.halt (run_then (answered (told_of c.args.around.now)) (begun (context_of c.args.around.now) c.args.entity.now c.args.made.now) (λ r. initial (context_of c.args.around.now) evaluated (initial_of c.args.init.now) r.0 r.1) (c.in-Ok.filling, c.begin_init.new.made) first) c.in-Err-initial.ensures
