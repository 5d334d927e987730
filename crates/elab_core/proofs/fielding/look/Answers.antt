use Rattle.std.proofs.Common.{rules, ◌≡◌, sym, ap, ◌∙◌}
use Rattle.asking.specs.Asking.{Gives, and_then}
use Rattle.asking.specs.LookUps.{Ends, run_by}
use Rattle.elab_state.specs.Seen.{context_of, told_of}
use Rattle.elab_state.specs.Wants.{answered}
use Rattle.elab_state.proofs.Runs.{leads_on, stops_on}
use Rattle.elab_state.specs.Looks.{At, Deep, look}
use Rattle.elab_core.proofs.fielding.look.Goals as goal

pub returns-in-Err : goal.returns-in-Err
returns-in-Err c = stops_on (answered (told_of c.args.around.now)) (look c.args.around.now.item.now (At c.args.typed.now.ty) c.args.made.now) (λ now. look c.args.around.now.item.now (Deep c.args.typed.now.ty) now) c.in-Err.halt c.in-Err.ensures

pub returns : goal.returns
returns c =
    let first : run_by (answered (told_of c.args.around.now)) (look c.args.around.now.item.now (At c.args.typed.now.ty) c.args.made.now) ≡ Ends c.look_at.new.made = search rules in
    leads_on (told_of c.args.around.now) (look c.args.around.now.item.now (At c.args.typed.now.ty) c.args.made.now) (λ now. look c.args.around.now.item.now (Deep c.args.typed.now.ty) now) c.look_at.new.made c.look_deep.result c.look_deep.new.made first c.look_deep.ensures
