use Rattle.std.proofs.Common.{rules, ◌≡◌, sym, ap, ◌∙◌}
use Rattle.asking.specs.LookUps.{Ends, run_by}
use Rattle.elab_state.specs.Doings.{gives, scope_kind}
use Rattle.elab_state.specs.Looks.{Deep, look}
use Rattle.elab_state.specs.Seen.{told_of}
use Rattle.elab_state.specs.Wants.{answered}
use Rattle.elab_state.proofs.Runs.{run_then, stops_on}
use Rattle.elab_core.specs.Braced.{empty}
use Rattle.elab_core.proofs.braces.begun.Goals as goal

pub returns-in-Err : goal.returns-in-Err
returns-in-Err c =
    stops_on (answered (told_of c.args.around.now)) (look c.args.around.now.item.now (Deep c.args.typed.now.ty) c.args.made.now) (λ known. gives (empty (scope_kind known) c.args.typed.now) known) c.in-Err.halt c.in-Err.ensures

pub returns : goal.returns
returns c =
    let first : run_by (answered (told_of c.args.around.now)) (look c.args.around.now.item.now (Deep c.args.typed.now.ty) c.args.made.now) ≡ Ends c.look_deep.new.made = search rules in
    let is : c.in-Ok-empty.filling ≡ empty (scope_kind c.look_deep.new.made) c.args.typed.now = search rules in
    run_then (answered (told_of c.args.around.now)) (look c.args.around.now.item.now (Deep c.args.typed.now.ty) c.args.made.now) (λ known. gives (empty (scope_kind known) c.args.typed.now) known) c.look_deep.new.made first
    ∙ ap (λ f. Ends (f, c.look_deep.new.made)) (sym is)
