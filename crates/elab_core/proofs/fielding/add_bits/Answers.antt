use Rattle.std.proofs.Common.{rules, ◌≡◌, sym, ap, ◌∙◌}
use Rattle.asking.specs.Asking.{Gives, and_then}
use Rattle.asking.specs.LookUps.{Ends, run_by}
use Rattle.elab_state.specs.Seen.{context_of, told_of}
use Rattle.elab_state.specs.Wants.{answered}
use Rattle.elab_state.proofs.Runs.{run_then, stops_on}
use Rattle.elab_state.specs.Looks.{At, look}
use Rattle.elab_core.specs.Fielding.{judged_width}
use Rattle.elab_core.proofs.fielding.add_bits.Goals as goal

pub returns-in-Err : goal.returns-in-Err
returns-in-Err c = stops_on (answered (told_of c.args.around.now)) (look c.args.around.now.item.now (At c.args.typed.now.ty) c.args.made.now) (λ now. Gives (judged_width (context_of c.args.around.now) c.args.gathered.now c.args.at c.args.own c.args.typed.now c.args.begins c.args.width.now c.args.fields.now now)) c.in-Err.halt c.in-Err.ensures

pub returns-in-Ok-add_judged : goal.returns-in-Ok-add_judged
returns-in-Ok-add_judged c =
    let first : run_by (answered (told_of c.args.around.now)) (look c.args.around.now.item.now (At c.args.typed.now.ty) c.args.made.now) ≡ Ends c.look_at.new.made = search rules in
    let is : (c.add_judged.new.fields, c.add_judged.new.made) ≡ judged_width (context_of c.args.around.now) c.args.gathered.now c.args.at c.args.own c.args.typed.now c.args.begins c.args.width.now c.args.fields.now c.look_at.new.made = search rules in
    run_then (answered (told_of c.args.around.now)) (look c.args.around.now.item.now (At c.args.typed.now.ty) c.args.made.now) (λ now. Gives (judged_width (context_of c.args.around.now) c.args.gathered.now c.args.at c.args.own c.args.typed.now c.args.begins c.args.width.now c.args.fields.now now)) c.look_at.new.made first ∙ ap (λ r. Ends r) (sym is)
