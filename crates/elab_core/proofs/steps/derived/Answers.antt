use Rattle.std.proofs.Common.{rules, ◌≡◌, ◌∷◌, [], sym, ap, ◌∙◌, Some, None}
use Rattle.asking.specs.Asking.{Gives, and_then}
use Rattle.asking.specs.LookUps.{Ends, run_by}
use Rattle.elab_state.specs.Looks.{Anonymous, At, Deep, look, told}
use Rattle.elab_state.specs.Seen.{context_of, told_of}
use Rattle.elab_state.specs.Wants.{answered}
use Rattle.elab_state.proofs.Runs.{comes_on, leads_on, run_then, stops_as, stops_on}
use Rattle.std.specs.Prelude.{◌&&◌}
use Rattle.elab_state.specs.Comes.{Stops}
use Rattle.elab_core.specs.Steps.{derived, is_last, one_step}
use Rattle.elab_core.proofs.steps.derived.Goals as goal

pub returns-in-Err : goal.returns-in-Err
returns-in-Err c =
    let here : c.steps.left ≡ c.in-Some.step ∷ c.pop.new.self = search rules in
    let off : Stops (run_by (answered (told_of c.args.around.now)) (one_step (context_of c.args.around.now) c.args.at (c.args.parameter && is_last c.pop.new.self) c.in-Some.step c.steps.typed c.steps.made)) c.in-Err.halt = search rules in
    stops_as (run_by (answered (told_of c.args.around.now)) (derived (context_of c.args.around.now) c.args.at c.args.parameter c.args.steps c.args.base c.args.made.now)) (run_by (answered (told_of c.args.around.now)) (derived (context_of c.args.around.now) c.args.at c.args.parameter (c.in-Some.step ∷ c.pop.new.self) c.steps.typed c.steps.made)) c.in-Err.halt
    (sym c.steps.invariant ∙ ap (λ xs. run_by (answered (told_of c.args.around.now)) (derived (context_of c.args.around.now) c.args.at c.args.parameter xs c.steps.typed c.steps.made)) here)
    (stops_on (answered (told_of c.args.around.now)) (one_step (context_of c.args.around.now) c.args.at (c.args.parameter && is_last c.pop.new.self) c.in-Some.step c.steps.typed c.steps.made) (λ r. derived (context_of c.args.around.now) c.args.at c.args.parameter c.pop.new.self r.0 r.1) c.in-Err.halt off)

pub steps-preserved : goal.steps-preserved
steps-preserved c =
    let here : c.steps.left ≡ c.in-Some.step ∷ c.pop.new.self = search rules in
    let first : run_by (answered (told_of c.args.around.now)) (one_step (context_of c.args.around.now) c.args.at (c.args.parameter && is_last c.pop.new.self) c.in-Some.step c.steps.typed c.steps.made) ≡ Ends (c.in-Ok.done, c.one_step.new.made) = search rules in
    sym (run_then (answered (told_of c.args.around.now)) (one_step (context_of c.args.around.now) c.args.at (c.args.parameter && is_last c.pop.new.self) c.in-Some.step c.steps.typed c.steps.made) (λ r. derived (context_of c.args.around.now) c.args.at c.args.parameter c.pop.new.self r.0 r.1) (c.in-Ok.done, c.one_step.new.made) first)
    ∙ sym (ap (λ xs. run_by (answered (told_of c.args.around.now)) (derived (context_of c.args.around.now) c.args.at c.args.parameter xs c.steps.typed c.steps.made)) here)
    ∙ c.steps.invariant
