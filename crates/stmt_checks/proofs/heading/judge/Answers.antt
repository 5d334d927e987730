use Rattle.std.proofs.Common.{false, sym, ap, ◌∙◌}
use Rattle.asking.specs.LookUps.{Ends, run_by}
use Rattle.elab_core.specs.Declarations.{declaration}
use Rattle.elab_state.proofs.Runs.{run_then, stops_on}
use Rattle.elab_state.specs.Seen.{context_of, told_of}
use Rattle.elab_state.specs.Wants.{answered}
use Rattle.meaning_lists.specs.Found.{head_of}
use Rattle.stmt_checks.proofs.Bodies.{needs_as}
use Rattle.stmt_checks.proofs.heading.judge.Goals as goal
use Rattle.stmt_checks.specs.Heads.{judged, meaning_by}
use Rattle.tree_data.specs.Heads.{heading_of}

pub returns-in-Err : goal.returns-in-Err
returns-in-Err c =
    let look = answered (told_of c.args.around.now) in
    let around = context_of c.args.around.now in
    let h = heading_of c.args.head.now in
    needs_as (run_by look (judged around h c.args.made.now)) c.in-Err.halt c.in_ok-asked-in-Err.asked
    (stops_on look (declaration around false h c.args.made.now) (meaning_by around) c.in-Err.halt c.in-Err.ensures) c.in_ok-asked-in-Err.ensures

pub returns : goal.returns
returns c =
    let around = context_of c.args.around.now in
    run_then (answered (told_of c.args.around.now)) (declaration around false (heading_of c.args.head.now) c.args.made.now) (meaning_by around) (c.in-Ok.declaration, c.declare_in.new.made) c.in-Ok.ensures
    ∙ ap (λ x. Ends x) (sym (c.in-Ok-meaning.ensures ∙ ap (λ f. head_of around.item f) c.in_ok-found.ensures))
