use Rattle.std.proofs.Common.{sym, ap, ◌∙◌}
use Rattle.asking.specs.LookUps.{Ends, run_by}
use Rattle.elab_state.proofs.Runs.{run_then, stops_on}
use Rattle.elab_state.specs.Seen.{context_of, told_of}
use Rattle.elab_state.specs.Wants.{answered}
use Rattle.stmt_checks.proofs.Bodies.{needs_as}
use Rattle.stmt_checks.proofs.checking.judge.Goals as goal
use Rattle.stmt_checks.specs.Meanings.{checked, judged, meaning_by}
use Rattle.tree_data.specs.Stated.{stmt_of}

pub returns-in-Err : goal.returns-in-Err
returns-in-Err c =
    let look = answered (told_of c.args.around.now) in
    let d = checked (context_of c.args.around.now) c.args.head.now (stmt_of c.args.body.now) c.args.standing.now in
    let k = meaning_by (context_of c.args.around.now) in
    needs_as (run_by look (judged (context_of c.args.around.now) c.args.head.now (stmt_of c.args.body.now) c.args.standing.now)) c.in-Err.halt c.in_ok-asked-in-Err.asked
    (stops_on look d k c.in-Err.halt c.in-Err.ensures) c.in_ok-asked-in-Err.ensures

pub returns : goal.returns
returns c =
    let look = answered (told_of c.args.around.now) in
    let d = checked (context_of c.args.around.now) c.args.head.now (stmt_of c.args.body.now) c.args.standing.now in
    run_then look d (meaning_by (context_of c.args.around.now)) c.check.new.standing c.in-Ok.ensures ∙ ap (λ x. Ends x) (sym c.in_ok-meaning.ensures)
