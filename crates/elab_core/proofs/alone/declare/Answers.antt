use Rattle.std.proofs.Common.{rules, ◌≡◌, sym, ap, ◌∙◌}
use Rattle.asking.specs.Asking.{Gives, and_then}
use Rattle.asking.specs.LookUps.{Ends, run_by}
use Rattle.elab_state.specs.Seen.{context_of, told_of}
use Rattle.elab_state.specs.Tokens.{spelling}
use Rattle.elab_state.specs.Wants.{answered}
use Rattle.elab_state.proofs.Runs.{run_then, stops_on}
use Rattle.elab_core.specs.Alone.{known}
use Rattle.elab_core.specs.TagBodies.{before}
use Rattle.elab_core.specs.Tags.{mention_of}
use Rattle.elab_core.proofs.alone.declare.Goals as goal

pub returns-in-Err : goal.returns-in-Err
returns-in-Err c = stops_on (answered (told_of c.args.around.now)) (before (context_of c.args.around.now) (spelling (context_of c.args.around.now).tokens c.args.at) c.args.made.now) (λ r. Gives (known (context_of c.args.around.now) c.args.kind c.args.at (mention_of r.0) r.1)) c.in-Err.halt c.in-Err.ensures

pub returns-in-Ok-know_found : goal.returns-in-Ok-know_found
returns-in-Ok-know_found c =
    let first : run_by (answered (told_of c.args.around.now)) (before (context_of c.args.around.now) (spelling (context_of c.args.around.now).tokens c.args.at) c.args.made.now) ≡ Ends (c.in-Ok.entity, c.args.made.now) = search rules in
    let is : c.know_found.new.made ≡ known (context_of c.args.around.now) c.args.kind c.args.at (mention_of c.in-Ok.entity) c.args.made.now = search rules in
    run_then (answered (told_of c.args.around.now)) (before (context_of c.args.around.now) (spelling (context_of c.args.around.now).tokens c.args.at) c.args.made.now) (λ r. Gives (known (context_of c.args.around.now) c.args.kind c.args.at (mention_of r.0) r.1)) (c.in-Ok.entity, c.args.made.now) first ∙ ap (λ r. Ends r) (sym is)
