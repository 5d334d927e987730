use Rattle.std.proofs.Common.{◌≡◌, drop}
use Rattle.asking.specs.LookUps.{run_by}
use Rattle.elab_state.specs.Seen.{context_of, told_of}
use Rattle.elab_state.specs.Wants.{answered}
use Rattle.stmt_acts.specs.Shown.{acts_of}
use Rattle.stmt_checks.specs.Acting.{all_acts}
use Rattle.stmt_checks.proofs.acting.go.Given as goal

abbrev pub invariant-acts : goal.invariant-acts
invariant-acts l =
    run_by (answered (told_of l.around)) (all_acts (context_of l.around) l.function.ty l.function.labels (acts_of (drop l.one-index l.acts)) l.standing)
    ≡ run_by (answered (told_of l.around)) (all_acts (context_of l.around) l.function.ty l.function.labels (acts_of l.acts) l.fn.standing)
