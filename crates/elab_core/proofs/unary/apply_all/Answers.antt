use Rattle.std.proofs.Common.{rules, ◌≡◌, ◌∷◌, sym, ap, ◌∙◌}
use Rattle.asking.specs.LookUps.{Ends, run_by}
use Rattle.elab_state.specs.Comes.{Stops}
use Rattle.elab_state.specs.Seen.{context_of, told_of}
use Rattle.elab_state.specs.Wants.{answered}
use Rattle.elab_state.proofs.Runs.{run_then, stops_as, stops_on}
use Rattle.elab_core.specs.Waits.{all_applied, applied}
use Rattle.elab_core.proofs.unary.apply_all.Goals as goal

pub returns-in-Err : goal.returns-in-Err
returns-in-Err c =
    let here : c.waiting.left ≡ c.in-Some.next ∷ c.pop.new.self = search rules in
    stops_as (run_by (answered (told_of c.args.around.now)) (all_applied (context_of c.args.around.now) c.args.waiting c.args.last c.args.made.now)) (run_by (answered (told_of c.args.around.now)) (all_applied (context_of c.args.around.now) (c.in-Some.next ∷ c.pop.new.self) c.waiting.operand c.waiting.made)) c.in-Err.halt
    (sym c.waiting.invariant ∙ ap (λ xs. run_by (answered (told_of c.args.around.now)) (all_applied (context_of c.args.around.now) xs c.waiting.operand c.waiting.made)) here)
    (stops_on (answered (told_of c.args.around.now)) (applied (context_of c.args.around.now) c.in-Some.next c.waiting.operand c.waiting.made) (λ r. all_applied (context_of c.args.around.now) c.pop.new.self r.0 r.1) c.in-Err.halt c.in-Err.ensures)

pub waiting-preserved : goal.waiting-preserved
waiting-preserved c =
    let here : c.waiting.left ≡ c.in-Some.next ∷ c.pop.new.self = search rules in
    sym (run_then (answered (told_of c.args.around.now)) (applied (context_of c.args.around.now) c.in-Some.next c.waiting.operand c.waiting.made) (λ r. all_applied (context_of c.args.around.now) c.pop.new.self r.0 r.1) (c.in-Ok.done, c.apply.new.made) c.in-Ok.ensures)
    ∙ sym (ap (λ xs. run_by (answered (told_of c.args.around.now)) (all_applied (context_of c.args.around.now) xs c.waiting.operand c.waiting.made)) here)
    ∙ c.waiting.invariant
