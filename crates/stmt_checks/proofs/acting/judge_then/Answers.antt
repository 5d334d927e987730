use Rattle.std.proofs.Common.{rules, ◌≡◌, sym, subst}
use Rattle.asking.specs.LookUps.{Ends, run_by}
use Rattle.elab_core.specs.Expressions.{judge}
use Rattle.elab_state.proofs.Runs.{stops_on}
use Rattle.elab_state.specs.Seen.{context_of, told_of}
use Rattle.elab_state.specs.Wants.{answered}
use Rattle.stmt_checks.specs.Acting as spec
use Rattle.stmt_checks.specs.Acting.{behind}
use Rattle.stmt_checks.specs.Moves.{Moves}
use Rattle.stmt_checks.specs.Standings.{with_made}
use Rattle.stmt_checks.specs.Then.{done}
use Rattle.stmt_checks.proofs.Moving.{moves_on, quiet}
use Rattle.tree_data.specs.Seen.{tree_of}
use Rattle.stmt_checks.proofs.acting.judge_then.Goals as goal

pub returns-in-Err : goal.returns-in-Err
returns-in-Err c =
    stops_on (answered (told_of c.args.around.now)) (judge (context_of c.args.around.now) spec.evaluated (tree_of c.args.expr.now) c.args.standing.now.made)
    (behind (done c.args.function.now.ty c.args.then) c.args.standing.now) c.in-Err.stop c.in-Err.ensures

pub returns : goal.returns
returns c =
    let told = told_of c.args.around.now in
    let asked = judge (context_of c.args.around.now) spec.evaluated (tree_of c.args.expr.now) c.args.standing.now.made in
    let f = done c.args.function.now.ty c.args.then in
    let st = c.args.standing.now in
    let first : run_by (answered told) asked ≡ Ends (c.in-Ok.value, c.judged.new.made) = search rules in
    subst (λ r. Moves told (spec.judged (context_of c.args.around.now) (tree_of c.args.expr.now) f st) r c.done.new.standing) (sym c.halt.ensures)
    (moves_on told asked (behind f st) (c.in-Ok.value, c.judged.new.made) _ c.done.new.standing first
    (quiet told (f c.in-Ok.value (with_made c.judged.new.made st)) c.done.new.standing c.done.result c.done.ensures))
