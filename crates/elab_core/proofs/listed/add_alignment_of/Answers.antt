use Rattle.std.proofs.Common.{rules, ◌≡◌, sym, ap, ◌∙◌}
use Rattle.asking.specs.Asking.{Gives, and_then}
use Rattle.asking.specs.LookUps.{Ends, run_by}
use Rattle.elab_state.specs.Doings.{gives}
use Rattle.elab_state.specs.Seen.{context_of, told_of}
use Rattle.elab_state.specs.Wants.{answered}
use Rattle.elab_state.proofs.Runs.{run_then, stops_on}
use Rattle.elab_core.specs.Aligning.{aligned_as}
use Rattle.elab_core.specs.Listed.{with_alignment}
use Rattle.elab_core.proofs.listed.add_alignment_of.Goals as goal

pub returns-in-Err : goal.returns-in-Err
returns-in-Err c = stops_on (answered (told_of c.args.around.now)) (aligned_as (context_of c.args.around.now) c.args.keyword c.args.typed.now c.args.gathered.now.align c.args.made.now) (λ r. gives (with_alignment r.0 c.args.gathered.now) r.1) c.in-Err.halt c.in-Err.ensures

pub returns : goal.returns
returns c =
    let first : run_by (answered (told_of c.args.around.now)) (aligned_as (context_of c.args.around.now) c.args.keyword c.args.typed.now c.args.gathered.now.align c.args.made.now) ≡ Ends (c.in-Ok.align, c.align_as.new.made) = search rules in
    run_then (answered (told_of c.args.around.now)) (aligned_as (context_of c.args.around.now) c.args.keyword c.args.typed.now c.args.gathered.now.align c.args.made.now) (λ r. gives (with_alignment r.0 c.args.gathered.now) r.1) (c.in-Ok.align, c.align_as.new.made) first
