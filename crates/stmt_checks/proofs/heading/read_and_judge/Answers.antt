use Rattle.std.proofs.Common.{subst}
use Rattle.asking.specs.LookUps.{run_by}
use Rattle.elab_state.specs.Seen.{context_of, told_of}
use Rattle.elab_state.specs.Wants.{answered}
use Rattle.stmt_checks.proofs.heading.read_and_judge.Goals as goal
use Rattle.stmt_checks.specs.Heads.{by_reading}
use Rattle.stmt_checks.specs.Meanings.{Means}

pub returns-in-Ok : goal.returns-in-Ok
returns-in-Ok c = λ r is.
    subst (λ x. Means (run_by (answered (told_of c.args.around.now)) (by_reading (context_of c.args.around.now) x c.args.made.now)) c.in-Ok.elab)
    (c.in_ok-reading.ensures r is) c.in-Ok.ensures
