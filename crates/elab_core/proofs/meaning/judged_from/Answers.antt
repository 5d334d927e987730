use Rattle.std.proofs.Common.{true, sym, ap, ◌∙◌, false}
use Rattle.asking.specs.Asking.{Gives, and_then}
use Rattle.asking.specs.LookUps.{Ends, run_by}
use Rattle.tree_data.specs.Seen.{tree_of}
use Rattle.elab_state.specs.Seen.{context_of, told_of}
use Rattle.elab_state.specs.Wants.{answered}
use Rattle.elab_state.proofs.Runs.{run_then, stops_on}
use Rattle.elab_core.specs.Expressions.{judge}
use Rattle.elab_core.specs.Meanings.{meaning_of}
use Rattle.elab_core.proofs.meaning.judged_from.Goals as goal

pub returns-in-Ok : goal.returns-in-Ok
returns-in-Ok c =
    run_then (answered (told_of c.args.around.now)) (judge (context_of c.args.around.now) (record { counted = true; defining = false }) (tree_of c.args.expr.now) c.args.made) (λ r. Gives (meaning_of r)) (c.in-Ok.judged, c.judged.new.made) c.in-Ok.ensures
    ∙ ap (λ x. Ends x) (sym c.meaning_of.ensures)

pub returns-in-Err : goal.returns-in-Err
returns-in-Err c =
    c.halted.ensures (run_by (answered (told_of c.args.around.now)) (and_then (judge (context_of c.args.around.now) (record { counted = true; defining = false }) (tree_of c.args.expr.now) c.args.made) (λ r. Gives (meaning_of r))))
    (stops_on (answered (told_of c.args.around.now)) (judge (context_of c.args.around.now) (record { counted = true; defining = false }) (tree_of c.args.expr.now) c.args.made) (λ r. Gives (meaning_of r)) c.in-Err.halt c.in-Err.ensures)
