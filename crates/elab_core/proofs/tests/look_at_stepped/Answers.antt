use Rattle.std.proofs.Common.{rules, ◌≡◌, ◌∷◌, [], sym, ap, ◌∙◌, Some, None}
use Rattle.asking.specs.Asking.{Gives, and_then}
use Rattle.asking.specs.LookUps.{Ends, run_by}
use Rattle.elab_state.specs.Looks.{Anonymous, At, Deep, look, told}
use Rattle.elab_state.specs.Seen.{context_of, told_of}
use Rattle.elab_state.specs.Wants.{answered}
use Rattle.elab_state.proofs.Runs.{comes_on, leads_on, run_then, stops_as, stops_on}
use Rattle.elab_core.specs.Tests.{pointee, written}
use Rattle.elab_core.proofs.tests.look_at_stepped.Goals as goal

pub returns-in-Err : goal.returns-in-Err
returns-in-Err c =
    stops_on (answered (told_of c.args.around.now)) (pointee c.args.around.now.item.now c.args.ty.now c.args.made.now) (λ now. written c.args.around.now.item.now c.args.ty.now now) c.in-Err.halt c.in-Err.ensures

pub returns : goal.returns
returns c =
    let first : run_by (answered (told_of c.args.around.now)) (pointee c.args.around.now.item.now c.args.ty.now c.args.made.now) ≡ Ends c.look_at_pointee.new.made = search rules in
    leads_on (told_of c.args.around.now) (pointee c.args.around.now.item.now c.args.ty.now c.args.made.now) (λ now. written c.args.around.now.item.now c.args.ty.now now) c.look_at_pointee.new.made c.look_at_written.result c.look_at_written.new.made first c.look_at_written.ensures
