use Rattle.std.proofs.Common.{rules, ◌≡◌, sym, ap, ◌∙◌}
use Rattle.asking.specs.Asking.{Gives, and_then}
use Rattle.asking.specs.LookUps.{Ends, run_by}
use Rattle.elab_state.specs.Seen.{context_of, told_of}
use Rattle.elab_state.specs.Wants.{answered}
use Rattle.elab_state.proofs.Runs.{leads_on, stops_on}
use Rattle.elab_core.specs.Declarators.{look_result, look_type}
use Rattle.elab_core.proofs.declarators.look.Goals as goal

pub returns-in-Err : goal.returns-in-Err
returns-in-Err c = stops_on (answered (told_of c.args.around.now)) (look_type (context_of c.args.around.now) c.args.decl.now c.args.made.now) (λ now. look_result (context_of c.args.around.now) c.args.decl.now now) c.in-Err.halt c.in-Err.ensures

pub returns : goal.returns
returns c =
    let first : run_by (answered (told_of c.args.around.now)) (look_type (context_of c.args.around.now) c.args.decl.now c.args.made.now) ≡ Ends c.look_at_type.new.made = search rules in
    leads_on (told_of c.args.around.now) (look_type (context_of c.args.around.now) c.args.decl.now c.args.made.now) (λ now. look_result (context_of c.args.around.now) c.args.decl.now now) c.look_at_type.new.made c.look_at_result.result c.look_at_result.new.made first c.look_at_result.ensures
