use Rattle.std.proofs.Common.{rules, ◌≡◌, sym, ap, ◌∙◌}
use Rattle.asking.specs.Asking.{Gives, and_then}
use Rattle.asking.specs.LookUps.{Ends, run_by}
use Rattle.elab_state.specs.Seen.{context_of, told_of}
use Rattle.elab_state.specs.Wants.{answered}
use Rattle.elab_state.proofs.Runs.{run_then, stops_on}
use Rattle.elab_core.specs.Fielding.{looked, with_type}
use Rattle.elab_core.proofs.fielding.add_member.Goals as goal

pub returns-in-Err : goal.returns-in-Err
returns-in-Err c = stops_on (answered (told_of c.args.around.now)) (looked (context_of c.args.around.now) c.args.typed.now c.args.made.now) (λ now. Gives (with_type (context_of c.args.around.now) c.args.gathered.now c.args.at c.args.own c.args.typed.now c.args.fields.now now)) c.in-Err.halt c.in-Err.ensures

pub returns-in-Ok-add_with_type : goal.returns-in-Ok-add_with_type
returns-in-Ok-add_with_type c =
    let first : run_by (answered (told_of c.args.around.now)) (looked (context_of c.args.around.now) c.args.typed.now c.args.made.now) ≡ Ends c.look.new.made = search rules in
    let is : (c.add_with_type.new.fields, c.add_with_type.new.made) ≡ with_type (context_of c.args.around.now) c.args.gathered.now c.args.at c.args.own c.args.typed.now c.args.fields.now c.look.new.made = search rules in
    run_then (answered (told_of c.args.around.now)) (looked (context_of c.args.around.now) c.args.typed.now c.args.made.now) (λ now. Gives (with_type (context_of c.args.around.now) c.args.gathered.now c.args.at c.args.own c.args.typed.now c.args.fields.now now)) c.look.new.made first ∙ ap (λ r. Ends r) (sym is)
