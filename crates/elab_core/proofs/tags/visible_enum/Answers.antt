use Rattle.std.proofs.Common.{rules, ◌≡◌, ◌∷◌, [], sym, ap, ◌∙◌, Some, None}
use Rattle.asking.specs.Asking.{Gives, and_then}
use Rattle.asking.specs.LookUps.{Ends, run_by}
use Rattle.elab_state.specs.Looks.{Anonymous, At, Deep, look, told}
use Rattle.elab_state.specs.Seen.{context_of, told_of}
use Rattle.elab_state.specs.Wants.{answered}
use Rattle.elab_state.proofs.Runs.{comes_on, leads_on, run_then, stops_as, stops_on}
use Rattle.elab_core.specs.Tags.{enum_now}
use Rattle.elab_core.proofs.tags.visible_enum.Goals as goal

pub returns-in-Err : goal.returns-in-Err
returns-in-Err c = stops_on (answered (told_of c.args.around.now)) (told c.args.around.now.item.now c.args.id.now c.args.made.now) (λ now. Gives (enum_now (context_of c.args.around.now) c.args.at c.args.id.now now)) c.in-Err.halt c.in-Err.ensures

pub returns-in-Ok-enum_now : goal.returns-in-Ok-enum_now
returns-in-Ok-enum_now c =
    let first : run_by (answered (told_of c.args.around.now)) (told c.args.around.now.item.now c.args.id.now c.args.made.now) ≡ Ends c.tell.new.made = search rules in
    let is : (c.in-Ok-enum_now.typed, c.enum_now.new.made) ≡ enum_now (context_of c.args.around.now) c.args.at c.args.id.now c.tell.new.made = search rules in
    run_then (answered (told_of c.args.around.now)) (told c.args.around.now.item.now c.args.id.now c.args.made.now) (λ now. Gives (enum_now (context_of c.args.around.now) c.args.at c.args.id.now now)) c.tell.new.made first ∙ ap (λ r. Ends r) (sym is)
