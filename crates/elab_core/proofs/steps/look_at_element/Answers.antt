use Rattle.std.proofs.Common.{rules, ◌≡◌, ◌∷◌, [], sym, ap, ◌∙◌, Some, None}
use Rattle.asking.specs.Asking.{Gives, and_then}
use Rattle.asking.specs.LookUps.{Ends, run_by}
use Rattle.elab_state.specs.Looks.{Anonymous, At, Deep, look, told}
use Rattle.elab_state.specs.Seen.{context_of, told_of}
use Rattle.elab_state.specs.Wants.{answered}
use Rattle.elab_state.proofs.Runs.{comes_on, leads_on, run_then, stops_as, stops_on}
use Rattle.elab_core.specs.Steps.{look_inside}
use Rattle.elab_core.proofs.steps.look_at_element.Goals as goal

pub returns-in-Err : goal.returns-in-Err
returns-in-Err c = stops_on (answered (told_of c.args.around.now)) (look c.args.around.now.item.now (At c.args.ty.now) c.args.made.now) (λ known. look_inside (context_of c.args.around.now) c.args.ty.now known) c.in-Err.halt c.in-Err.ensures

pub returns : goal.returns
returns c =
    let first : run_by (answered (told_of c.args.around.now)) (look c.args.around.now.item.now (At c.args.ty.now) c.args.made.now) ≡ Ends c.look_at.new.made = search rules in
    leads_on (told_of c.args.around.now) (look c.args.around.now.item.now (At c.args.ty.now) c.args.made.now) (λ known. look_inside (context_of c.args.around.now) c.args.ty.now known) c.look_at.new.made c.look_inside.result c.look_inside.new.made first c.look_inside.ensures
