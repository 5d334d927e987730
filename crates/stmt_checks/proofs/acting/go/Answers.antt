use Rattle.asking.specs.LookUps.{run_by}
use Rattle.elab_state.specs.Seen.{context_of, told_of}
use Rattle.elab_state.specs.Wants.{answered}
use Rattle.stmt_acts.specs.Shown.{acts_of}
use Rattle.stmt_checks.specs.Acting.{all_acts}
use Rattle.stmt_checks.proofs.Moving.{go_stops, go_turns}
use Rattle.stmt_checks.proofs.acting.go.Goals as goal

pub returns-in-Err : goal.returns-in-Err
returns-in-Err c =
    let look = answered (told_of c.args.around.now) in
    let around = context_of c.args.around.now in
    go_stops look around c.args.function.now.ty c.args.function.now.labels c.args.acts.now c.acts.one-index c.one-item.result c.acts.standing c.act.new.standing
    (run_by look (all_acts around c.args.function.now.ty c.args.function.now.labels (acts_of c.args.acts.now) c.args.standing.now))
    c.acts-test.true c.one-item.is c.acts.invariant c.in-Err.stop c.in-Err.ensures

pub acts-preserved : goal.acts-preserved
acts-preserved c =
    let look = answered (told_of c.args.around.now) in
    let around = context_of c.args.around.now in
    go_turns look around c.args.function.now.ty c.args.function.now.labels c.args.acts.now c.acts.one-index c.one-item.result c.acts.standing c.act.new.standing
    (run_by look (all_acts around c.args.function.now.ty c.args.function.now.labels (acts_of c.args.acts.now) c.args.standing.now))
    c.acts-test.true c.one-item.is c.acts.invariant c.in-Ok.ensures
