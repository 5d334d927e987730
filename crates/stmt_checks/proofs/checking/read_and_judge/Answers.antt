use Rattle.std.proofs.Common.{subst}
use Rattle.asking.specs.LookUps.{run_by}
use Rattle.elab_state.specs.Seen.{context_of, told_of}
use Rattle.elab_state.specs.Wants.{answered}
use Rattle.stmt_checks.proofs.checking.read_and_judge.Goals as goal
use Rattle.stmt_checks.specs.Meanings.{Means, by_reading}

pub returns-in-Ok : goal.returns-in-Ok
returns-in-Ok c = λ r is.
    subst (λ x. Means (run_by (answered (told_of c.args.around.now)) (by_reading (context_of c.args.around.now) c.args.head.now x c.args.standing.now)) c.in-Ok.elab)
    (c.in_ok-reading.ensures r is) c.in-Ok.ensures
