use Rattle.std.proofs.Common.{rules, ◌≡◌, sym, ap, ◌∙◌}
use Rattle.asking.specs.Asking.{Gives, and_then}
use Rattle.asking.specs.LookUps.{Ends, run_by}
use Rattle.elab_state.specs.Doings.{gives}
use Rattle.elab_state.specs.Seen.{context_of, told_of}
use Rattle.elab_state.specs.Wants.{answered}
use Rattle.elab_state.proofs.Runs.{run_then, stops_on}
use Rattle.elab_core.specs.Declarators.{first_filling, look_inside}
use Rattle.elab_core.proofs.declarators.begin_init.Goals as goal

pub returns-in-Err : goal.returns-in-Err
returns-in-Err c = stops_on (answered (told_of c.args.around.now)) (look_inside (context_of c.args.around.now) c.args.entity.now c.args.made.now) (λ now. gives (first_filling c.args.entity.now) now) c.in-Err.halt c.in-Err.ensures

pub returns-in-Ok-first_filling : goal.returns-in-Ok-first_filling
returns-in-Ok-first_filling c =
    let first : run_by (answered (told_of c.args.around.now)) (look_inside (context_of c.args.around.now) c.args.entity.now c.args.made.now) ≡ Ends c.look_inside.new.made = search rules in
    let is : c.in-Ok-first_filling.filling ≡ first_filling c.args.entity.now = search rules in
    run_then (answered (told_of c.args.around.now)) (look_inside (context_of c.args.around.now) c.args.entity.now c.args.made.now) (λ now. gives (first_filling c.args.entity.now) now) c.look_inside.new.made first ∙ ap (λ f. Ends (f, c.look_inside.new.made)) (sym is)
