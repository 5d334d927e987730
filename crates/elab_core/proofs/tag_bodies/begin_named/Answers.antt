use Rattle.std.proofs.Common.{rules, ◌≡◌, sym, ap, ◌∙◌}
use Rattle.asking.specs.Asking.{Gives, and_then}
use Rattle.asking.specs.LookUps.{Ends, run_by}
use Rattle.elab_state.specs.Seen.{context_of, told_of}
use Rattle.elab_state.specs.Tokens.{spelling}
use Rattle.elab_state.specs.Wants.{answered}
use Rattle.elab_state.proofs.Runs.{comes_on, stops_on}
use Rattle.elab_core.specs.TagBodies.{before, begun_tested}
use Rattle.elab_core.proofs.tag_bodies.begin_named.Goals as goal

pub returns-in-Err : goal.returns-in-Err
returns-in-Err c = stops_on (answered (told_of c.args.around.now)) (before (context_of c.args.around.now) (spelling (context_of c.args.around.now).tokens c.args.at) c.args.made.now) (λ r. begun_tested (context_of c.args.around.now) c.args.kind c.args.at r.0 r.1) c.in-Err.halt c.in-Err.ensures

pub returns : goal.returns
returns c =
    let first : run_by (answered (told_of c.args.around.now)) (before (context_of c.args.around.now) (spelling (context_of c.args.around.now).tokens c.args.at) c.args.made.now) ≡ Ends (c.in-Ok.entity, c.args.made.now) = search rules in
    comes_on (told_of c.args.around.now) (before (context_of c.args.around.now) (spelling (context_of c.args.around.now).tokens c.args.at) c.args.made.now) (λ r. begun_tested (context_of c.args.around.now) c.args.kind c.args.at r.0 r.1) (λ o. o) (c.in-Ok.entity, c.args.made.now) c.begin_tested.result c.begin_tested.new.made first c.begin_tested.ensures
