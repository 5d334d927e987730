use Rattle.std.proofs.Common.{rules, ◌≡◌, ◌∷◌, [], sym, ap, ◌∙◌, Some, None}
use Rattle.asking.specs.Asking.{Gives, and_then}
use Rattle.asking.specs.LookUps.{Ends, run_by}
use Rattle.elab_state.specs.Looks.{Anonymous, At, Deep, look, told}
use Rattle.elab_state.specs.Seen.{context_of, told_of}
use Rattle.elab_state.specs.Wants.{answered}
use Rattle.elab_state.proofs.Runs.{comes_on, leads_on, run_then, stops_as, stops_on}
use Rattle.elab_core.specs.Steps.{element_type, look_at_element}
use Rattle.elab_core.proofs.steps.arrayed.Goals as goal

pub returns-in-Err : goal.returns-in-Err
returns-in-Err c = stops_on (answered (told_of c.args.around.now)) (look_at_element (context_of c.args.around.now) c.args.typed.ty c.args.made.now) (λ now. Gives (element_type c.args.at c.args.extent c.args.typed now)) c.in-Err.halt c.in-Err.ensures

pub returns-in-Ok-element_type : goal.returns-in-Ok-element_type
returns-in-Ok-element_type c =
    let first : run_by (answered (told_of c.args.around.now)) (look_at_element (context_of c.args.around.now) c.args.typed.ty c.args.made.now) ≡ Ends c.look_at_element.new.made = search rules in
    let is : (c.in-Ok-element_type.typed, c.element_type.new.made) ≡ element_type c.args.at c.args.extent c.args.typed c.look_at_element.new.made = search rules in
    run_then (answered (told_of c.args.around.now)) (look_at_element (context_of c.args.around.now) c.args.typed.ty c.args.made.now) (λ now. Gives (element_type c.args.at c.args.extent c.args.typed now)) c.look_at_element.new.made first ∙ ap (λ r. Ends r) (sym is)
