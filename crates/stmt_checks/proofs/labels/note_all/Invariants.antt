use Rattle.std.proofs.Common.{◌≡◌, drop}
use Rattle.elab_state.specs.Seen.{context_of}
use Rattle.stmt_acts.specs.Shown.{acts_of}
use Rattle.stmt_checks.specs.Labels.{all_labels}
use Rattle.stmt_checks.proofs.labels.note_all.Given as goal

abbrev pub invariant-acts : goal.invariant-acts
invariant-acts l =
    all_labels (context_of l.around) (acts_of (drop l.act-index l.acts)) l.labels
    ≡ all_labels (context_of l.around) (acts_of l.acts) l.fn.labels
