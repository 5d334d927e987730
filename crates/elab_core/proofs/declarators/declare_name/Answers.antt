use Rattle.std.proofs.Common.{rules, ◌≡◌, sym, ap, ◌∙◌}
use Rattle.asking.specs.Asking.{Gives, and_then}
use Rattle.asking.specs.LookUps.{Ends, run_by}
use Rattle.elab_state.specs.Seen.{context_of, told_of}
use Rattle.elab_state.specs.Wants.{answered}
use Rattle.elab_state.proofs.Runs.{run_then, stops_on}
use Rattle.elab_core.specs.Declarators.{declared, looked}
use Rattle.elab_core.proofs.declarators.declare_name.Goals as goal

pub returns-in-Err : goal.returns-in-Err
returns-in-Err c = stops_on (answered (told_of c.args.around.now)) (looked (context_of c.args.around.now) c.args.decl.now c.args.made.now) (λ now. Gives (declared (context_of c.args.around.now) c.args.places c.args.at c.args.decl.now now)) c.in-Err.halt c.in-Err.ensures

pub returns-in-Ok-declare : goal.returns-in-Ok-declare
returns-in-Ok-declare c =
    let first : run_by (answered (told_of c.args.around.now)) (looked (context_of c.args.around.now) c.args.decl.now c.args.made.now) ≡ Ends c.look.new.made = search rules in
    let is : (c.in-Ok-declare.entity, c.declare.new.made) ≡ declared (context_of c.args.around.now) c.args.places c.args.at c.args.decl.now c.look.new.made = search rules in
    run_then (answered (told_of c.args.around.now)) (looked (context_of c.args.around.now) c.args.decl.now c.args.made.now) (λ now. Gives (declared (context_of c.args.around.now) c.args.places c.args.at c.args.decl.now now)) c.look.new.made first ∙ ap (λ r. Ends r) (sym is)
