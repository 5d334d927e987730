use Rattle.std.proofs.Common.{rules, ◌≡◌, sym, ap, ◌∙◌}
use Rattle.asking.specs.Asking.{Gives}
use Rattle.asking.specs.LookUps.{Ends, run_by}
use Rattle.elab_state.specs.Looks.{Deep, look}
use Rattle.elab_state.specs.Seen.{context_of, told_of}
use Rattle.elab_state.specs.Wants.{answered}
use Rattle.elab_state.proofs.Runs.{run_then, stops_on}
use Rattle.elab_core.specs.Offsets.{by_name, started}
use Rattle.elab_core.proofs.offsets.way_from.Goals as goal

pub returns-in-Err : goal.returns-in-Err
returns-in-Err c =
    stops_on (answered (told_of c.args.around.now)) (look c.args.around.now.item.now (Deep c.args.typed.now.ty) c.args.made.now) (λ known. Gives (by_name (context_of c.args.around.now) c.args.member (started c.args.typed.now) known)) c.in-Err.halt c.in-Err.ensures

pub returns : goal.returns
returns c =
    let first : run_by (answered (told_of c.args.around.now)) (look c.args.around.now.item.now (Deep c.args.typed.now.ty) c.args.made.now) ≡ Ends c.look_deep.new.made = search rules in
    let begins : c.in-Ok-started.way ≡ started c.args.typed.now = search rules in
    let is : (c.by_name.new.way, c.by_name.new.made) ≡ by_name (context_of c.args.around.now) c.args.member c.in-Ok-started.way c.look_deep.new.made = search rules in
    run_then (answered (told_of c.args.around.now)) (look c.args.around.now.item.now (Deep c.args.typed.now.ty) c.args.made.now) (λ known. Gives (by_name (context_of c.args.around.now) c.args.member (started c.args.typed.now) known)) c.look_deep.new.made first
    ∙ ap (λ r. Ends r) (sym (is ∙ ap (λ w. by_name (context_of c.args.around.now) c.args.member w c.look_deep.new.made) begins))
