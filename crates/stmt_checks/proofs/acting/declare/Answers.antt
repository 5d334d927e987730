use Rattle.std.proofs.Common.{false}
use Rattle.asking.specs.Asking.{Gives}
use Rattle.elab_core.specs.Declarations.{declaration}
use Rattle.elab_state.proofs.Runs.{run_then, stops_on}
use Rattle.elab_state.specs.Seen.{context_of, told_of}
use Rattle.elab_state.specs.Wants.{answered}
use Rattle.stmt_checks.specs.Acting.{known_by}
use Rattle.stmt_checks.proofs.acting.declare.Goals as goal
use Rattle.tree_data.specs.Heads.{heading_of}

pub returns : goal.returns
returns c =
    run_then (answered (told_of c.args.around.now)) (declaration (context_of c.args.around.now) false (heading_of c.args.head.now) c.args.standing.now.made) (λ r. Gives (known_by c.args.standing.now r))
    (c.in-Ok.declaration, c.declare_in.new.made) c.in-Ok.ensures

pub returns-in-Err : goal.returns-in-Err
returns-in-Err c =
    stops_on (answered (told_of c.args.around.now)) (declaration (context_of c.args.around.now) false (heading_of c.args.head.now) c.args.standing.now.made) (λ r. Gives (known_by c.args.standing.now r))
    c.in-Err.stop c.in-Err.ensures
