use Rattle.std.proofs.Common.{rules, ◌≡◌, ◌∷◌, [], sym, ap, ◌∙◌, Some, None}
use Rattle.asking.specs.Asking.{Gives, and_then}
use Rattle.asking.specs.LookUps.{Ends, run_by}
use Rattle.elab_state.specs.Looks.{Anonymous, At, Deep, look, told}
use Rattle.elab_state.specs.Seen.{context_of, told_of}
use Rattle.elab_state.specs.Wants.{answered}
use Rattle.elab_state.proofs.Runs.{comes_on, leads_on, run_then, stops_as, stops_on}
use Rattle.elab_core.specs.Rows.{judged_by}
use Rattle.elab_core.specs.Tests.{tests}
use Rattle.elab_core.proofs.rows.row_of.Goals as goal

pub returns-in-Err : goal.returns-in-Err
returns-in-Err c = stops_on (answered (told_of c.args.around.now)) (tests c.args.around.now.item.now c.args.operator.now.form c.args.parts.now c.args.made.now) (λ now. Gives (judged_by c.args.operator.now c.args.parts.now now)) c.in-Err.halt c.in-Err.ensures

pub returns-in-Ok-judged_now : goal.returns-in-Ok-judged_now
returns-in-Ok-judged_now c =
    let first : run_by (answered (told_of c.args.around.now)) (tests c.args.around.now.item.now c.args.operator.now.form c.args.parts.now c.args.made.now) ≡ Ends c.look_for.new.made = search rules in
    let is : (c.in-Ok-judged_now.judged, c.judged_now.new.made) ≡ judged_by c.args.operator.now c.args.parts.now c.look_for.new.made = search rules in
    run_then (answered (told_of c.args.around.now)) (tests c.args.around.now.item.now c.args.operator.now.form c.args.parts.now c.args.made.now) (λ now. Gives (judged_by c.args.operator.now c.args.parts.now now)) c.look_for.new.made first ∙ ap (λ r. Ends r) (sym is)
