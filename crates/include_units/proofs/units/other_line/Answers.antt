use Rattle.std.proofs.Common.{ap, sym, ◌∙◌}
use Rattle.asking.specs.Asking.{Gives, and_then}
use Rattle.asking.specs.LookUps.{look_up, run_by}
use Rattle.include_units.specs.Files.{files}
use Rattle.include_units.specs.Left.{next_left}
use Rattle.include_units.specs.Rests.{rest_of}
use Rattle.include_units.specs.Units.{other_line, control_line, within_group}
use Rattle.include_units.proofs.Resting.{and_same}
use Rattle.include_units.proofs.Runnings.{stops_on, stops_same}
use Rattle.include_units.proofs.Walking.{other_taken}
use Rattle.include_units.proofs.units.other_line.Goals as goal

pub returns-in-Ok-clause-left : goal.returns-in-Ok-clause-left
returns-in-Ok-clause-left c =
    ap (rest_of (look_up files c.args.files.now)) (other_taken c.args.folders.now c.args.deep c.args.text.now c.args.name.now c.args.tokens.now c.args.opens.now c.args.made.now (sym c.is_taken.ensures ∙ c.if-is_taken.true))
    ∙ and_same (look_up files c.args.files.now) (control_line c.args.folders.now c.args.deep c.args.text.now c.args.name.now c.args.tokens.now c.args.made.now) (next_left c.in-Ok.next c.control_line.new.made) (λ l. Gives (within_group c.args.opens.now l)) c.in-Ok.ensures.left

pub returns-in-Err-clause-left : goal.returns-in-Err-clause-left
returns-in-Err-clause-left c =
    stops_same c.args.files.now (and_then (control_line c.args.folders.now c.args.deep c.args.text.now c.args.name.now c.args.tokens.now c.args.made.now) (λ l. Gives (within_group c.args.opens.now l))) (other_line c.args.folders.now c.args.deep c.args.text.now c.args.name.now c.args.tokens.now c.args.opens.now c.args.made.now) c.in-Err.stop
    (sym (ap (run_by (look_up files c.args.files.now)) (other_taken c.args.folders.now c.args.deep c.args.text.now c.args.name.now c.args.tokens.now c.args.opens.now c.args.made.now (sym c.is_taken.ensures ∙ c.if-is_taken.true))))
    (stops_on c.args.files.now (control_line c.args.folders.now c.args.deep c.args.text.now c.args.name.now c.args.tokens.now c.args.made.now) (λ l. Gives (within_group c.args.opens.now l)) c.in-Err.stop c.in-Err.ensures.left)
