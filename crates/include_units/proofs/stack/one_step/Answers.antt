use Rattle.std.proofs.Common.{sym, subst, ◌∙◌}
use Rattle.include_units.specs.Left.{stack_left}
use Rattle.include_units.specs.Stack.{IsStep}
use Rattle.include_units.proofs.stack.one_step.Goals as goal

pub returns-in_ok-step-in-Some : goal.returns-in_ok-step-in-Some
returns-in_ok-step-in-Some c =
    subst (λ fs. IsStep c.args.files.now c.args.folders.now (stack_left c.args.folders.now fs c.args.reading.now.later c.args.reading.now.made) c.step_in.new.reading c.in_ok-step-in-Some.step) (sym c.in-Some.ensures.some)
    c.in_ok-step-in-Some.ensures

pub returns-in_ok-step-in-None : goal.returns-in_ok-step-in-None
returns-in_ok-step-in-None c =
    subst (λ fs. IsStep c.args.files.now c.args.folders.now (stack_left c.args.folders.now fs c.args.reading.now.later c.args.reading.now.made) c.step_out.new.reading c.in_ok-step-in-None.step) (c.in-None.ensures.left ∙ sym c.in-None.ensures.none)
    (c.in_ok-step-in-None.ensures c.args.folders.now)
