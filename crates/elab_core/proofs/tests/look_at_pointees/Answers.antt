use Rattle.std.proofs.Common.{rules, ◌≡◌, ◌∷◌, [], sym, ap, ◌∙◌, Some, None}
use Rattle.asking.specs.Asking.{Gives, and_then}
use Rattle.asking.specs.LookUps.{Ends, run_by}
use Rattle.elab_state.specs.Looks.{Anonymous, At, Deep, look, told}
use Rattle.elab_state.specs.Seen.{context_of, told_of}
use Rattle.elab_state.specs.Wants.{answered}
use Rattle.elab_state.proofs.Runs.{comes_on, leads_on, run_then, stops_as, stops_on}
use Rattle.elab_core.specs.Tests.{pointees, pointee}
use Rattle.elab_core.proofs.tests.look_at_pointees.Goals as goal

pub returns-in-Err : goal.returns-in-Err
returns-in-Err c =
    let here : run_by (answered (told_of c.args.around.now)) (pointees c.args.around.now.item.now c.args.parts.now c.args.made.now) ≡ run_by (answered (told_of c.args.around.now)) (and_then (pointee c.args.around.now.item.now c.in-Some.part.now.ty c.parts.made) (λ now. pointees c.args.around.now.item.now c.in-Some.others.now now)) = search rules in
    stops_as (run_by (answered (told_of c.args.around.now)) (pointees c.args.around.now.item.now c.args.parts.now c.args.made.now)) (run_by (answered (told_of c.args.around.now)) (and_then (pointee c.args.around.now.item.now c.in-Some.part.now.ty c.parts.made) (λ now. pointees c.args.around.now.item.now c.in-Some.others.now now))) c.in-Err.halt here
    (stops_on (answered (told_of c.args.around.now)) (pointee c.args.around.now.item.now c.in-Some.part.now.ty c.parts.made) (λ now. pointees c.args.around.now.item.now c.in-Some.others.now now) c.in-Err.halt c.in-Err.ensures)

pub parts-preserved : goal.parts-preserved
parts-preserved c =
    let here : run_by (answered (told_of c.args.around.now)) (and_then (pointee c.args.around.now.item.now c.in-Some.part.now.ty c.parts.made) (λ now. pointees c.args.around.now.item.now c.in-Some.others.now now)) ≡ run_by (answered (told_of c.args.around.now)) (pointees c.args.around.now.item.now c.args.parts.now c.args.made.now) = search rules in
    let first : run_by (answered (told_of c.args.around.now)) (pointee c.args.around.now.item.now c.in-Some.part.now.ty c.parts.made) ≡ Ends c.look_at_pointee.new.made = search rules in
    sym (run_then (answered (told_of c.args.around.now)) (pointee c.args.around.now.item.now c.in-Some.part.now.ty c.parts.made) (λ now. pointees c.args.around.now.item.now c.in-Some.others.now now) c.look_at_pointee.new.made first) ∙ here
