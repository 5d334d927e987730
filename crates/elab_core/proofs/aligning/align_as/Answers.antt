use Rattle.std.proofs.Common.{rules, ◌≡◌, sym, ap, ◌∙◌}
use Rattle.asking.specs.Asking.{Gives, and_then}
use Rattle.asking.specs.LookUps.{Ends, run_by}
use Rattle.elab_state.specs.Seen.{context_of, told_of}
use Rattle.elab_state.specs.Wants.{answered}
use Rattle.elab_state.proofs.Runs.{run_then, stops_on}
use Rattle.elab_state.specs.Looks.{At, look}
use Rattle.head_rules.specs.Alignments.{by_type}
use Rattle.elab_core.specs.Aligning.{told}
use Rattle.elab_core.proofs.aligning.align_as.Goals as goal

pub returns-in-Err : goal.returns-in-Err
returns-in-Err c = stops_on (answered (told_of c.args.around.now)) (look c.args.around.now.item.now (At c.args.typed.now.ty) c.args.made.now) (λ now. Gives (told (by_type c.args.keyword now.tags c.args.typed.now.ty c.args.align) now)) c.in-Err.halt c.in-Err.ensures

pub returns-in-Ok-align_known : goal.returns-in-Ok-align_known
returns-in-Ok-align_known c =
    let first : run_by (answered (told_of c.args.around.now)) (look c.args.around.now.item.now (At c.args.typed.now.ty) c.args.made.now) ≡ Ends c.look_at.new.made = search rules in
    let is : (c.in-Ok-align_known.align, c.align_known.new.made) ≡ told (by_type c.args.keyword c.look_at.new.made.tags c.args.typed.now.ty c.args.align) c.look_at.new.made = search rules in
    run_then (answered (told_of c.args.around.now)) (look c.args.around.now.item.now (At c.args.typed.now.ty) c.args.made.now) (λ now. Gives (told (by_type c.args.keyword now.tags c.args.typed.now.ty c.args.align) now)) c.look_at.new.made first ∙ ap (λ r. Ends r) (sym is)
