use Rattle.std.proofs.Common.{subst}
use Rattle.asking.specs.LookUps.{run_by}
use Rattle.elab_state.specs.Seen.{context_of, told_of}
use Rattle.elab_state.specs.Wants.{answered}
use Rattle.item_readings.specs.Readings.{Reader, IsReader}
use Rattle.stmt_checks.proofs.checking.answered.Goals as goal
use Rattle.stmt_checks.specs.Meanings.{Means, body_in}

pub returns-in-Ok-read_and_judge : goal.returns-in-Ok-read_and_judge
returns-in-Ok-read_and_judge c =
    subst (λ st. (r : Reader) → IsReader r → Means (run_by (answered (told_of c.args.around.now)) (body_in r (context_of c.args.around.now) c.args.head.now st)) c.in-Ok-read_and_judge.elab)
    c.in-Ok.ensures c.in-Ok-read_and_judge.ensures
