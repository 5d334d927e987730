use Rattle.std.proofs.Common.{rules, ◌≡◌, sym, ap, ◌∙◌}
use Rattle.asking.specs.Asking.{Gives}
use Rattle.asking.specs.LookUps.{Ends, run_by}
use Rattle.tree_data.specs.Seen.{initial_of}
use Rattle.elab_state.specs.Seen.{context_of, told_of}
use Rattle.elab_state.specs.Wants.{answered}
use Rattle.elab_state.proofs.Runs.{run_then, stops_on}
use Rattle.elab_core.specs.Declarations.{filled}
use Rattle.elab_core.specs.Declarators.{initialized}
use Rattle.elab_core.proofs.declarations.initialize_by.Goals as goal

pub returns-in-Err : goal.returns-in-Err
returns-in-Err c =
    stops_on (answered (told_of c.args.around.now)) (filled (context_of c.args.around.now) (initial_of c.args.init.now) c.args.entity c.args.made.now) (λ r. Gives (initialized c.args.entity r.0 r.1)) c.in-Err.halt c.in-Err.ensures

pub returns-in-Ok-end_init : goal.returns-in-Ok-end_init
returns-in-Ok-end_init c =
    let first : run_by (answered (told_of c.args.around.now)) (filled (context_of c.args.around.now) (initial_of c.args.init.now) c.args.entity c.args.made.now) ≡ Ends (c.in-Ok.filling, c.fill.new.made) = search rules in
    let is : c.end_init.new.made ≡ initialized c.args.entity c.in-Ok.filling c.fill.new.made = search rules in
    run_then (answered (told_of c.args.around.now)) (filled (context_of c.args.around.now) (initial_of c.args.init.now) c.args.entity c.args.made.now) (λ r. Gives (initialized c.args.entity r.0 r.1)) (c.in-Ok.filling, c.fill.new.made) first ∙ ap (λ m. Ends m) (sym is)
