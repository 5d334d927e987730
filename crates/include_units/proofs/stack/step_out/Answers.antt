use Rattle.std.proofs.Common.{◌∙◌, sym, subst}
use Rattle.include_units.specs.Coming.{Stops}
use Rattle.include_units.specs.Units.{tokens_of}
use Rattle.include_units.specs.declared.stack.Step.TheVariants.{Need}
use Rattle.include_units.specs.Stack.{IsStep, reading_left}
use Rattle.include_units.proofs.Stepping.{out_goes, out_waits, out_ends}
use Rattle.include_units.proofs.stack.step_out.Goals as goal

pub returns-in_ok-push-in-Ok : goal.returns-in_ok-push-in-Ok
returns-in_ok-push-in-Ok c = λ folders.
    out_goes c.args.files.now folders c.args.reading.now c.requires
    c.in-Some.text c.in-Ok.tokens c.first_frame.result c.push.new.self c.replace.new.dest (sym c.replace.ensures.value ∙ c.in-Some.is) c.replace.ensures.after
    c.in-Ok.ensures.value (c.first_frame.ensures folders c.args.reading.now.made) c.in_ok-push-in-Ok.ensures

pub returns-in-Err-Need : goal.returns-in-Err-Need
returns-in-Err-Need c = λ folders.
    rw c.in-Err-Need.field-0-is (
    subst (λ r. IsStep c.args.files.now folders (reading_left folders c.args.reading.now) r (Need c.in-Err-Need.want)) (sym c.put_back.ensures)
    (out_waits c.args.files.now folders c.args.reading.now c.requires
    c.in-Some.text c.in-Err-Need.want (sym c.replace.ensures.value ∙ c.in-Some.is)
    (subst (λ s. Stops c.args.files.now (tokens_of c.in-Some.text.source) s) c.in-Err-Need.field-0-is c.in-Err-Need.ensures.value)))

pub returns-in-None : goal.returns-in-None
returns-in-None c = λ folders.
    out_ends c.args.files.now folders c.args.reading.now c.requires (sym c.replace.ensures.value ∙ c.in-None.is)
