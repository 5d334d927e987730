use Rattle.std.proofs.Common.{rules, ◌≡◌, ◌∷◌, [], sym, ap, ◌∙◌, Some, None}
use Rattle.asking.specs.Asking.{Gives, and_then}
use Rattle.asking.specs.LookUps.{Ends, run_by}
use Rattle.elab_state.specs.Looks.{Anonymous, At, Deep, look, told}
use Rattle.elab_state.specs.Seen.{context_of, told_of}
use Rattle.elab_state.specs.Wants.{answered}
use Rattle.elab_state.proofs.Runs.{comes_on, leads_on, run_then, stops_as, stops_on}
use Rattle.elab_core.specs.Accesses.{used_row}
use Rattle.elab_core.specs.Tests.{tests}
use Rattle.elab_core.proofs.accesses.accessed.Goals as goal

pub returns-in-Err : goal.returns-in-Err
returns-in-Err c = stops_on (answered (told_of c.args.around.now)) (tests c.args.around.now.item.now c.args.operator.now.form c.args.parts.now c.args.made.now) (λ now. used_row (context_of c.args.around.now) c.args.operator.now c.args.name c.args.dot c.args.parts.now c.args.operand.now now) c.in-Err.halt c.in-Err.ensures

pub returns : goal.returns
returns c =
    let first : run_by (answered (told_of c.args.around.now)) (tests c.args.around.now.item.now c.args.operator.now.form c.args.parts.now c.args.made.now) ≡ Ends c.look_for.new.made = search rules in
    comes_on (told_of c.args.around.now) (tests c.args.around.now.item.now c.args.operator.now.form c.args.parts.now c.args.made.now) (λ now. used_row (context_of c.args.around.now) c.args.operator.now c.args.name c.args.dot c.args.parts.now c.args.operand.now now) (λ j. j) c.look_for.new.made c.used_row.result c.used_row.new.made first c.used_row.ensures
