use Rattle.std.proofs.Common.{subst, ◌∙◌}
use Rattle.include_units.specs.declared.stack.Step.TheVariants.{Need}
use Rattle.include_units.specs.Stack.{IsStep, reading_left}
use Rattle.include_units.proofs.stack.read_on.Goals as goal

pub steps-preserved : goal.steps-preserved
steps-preserved c =
    c.steps.invariant ∙ subst (λ s. IsStep c.args.files.now c.args.folders.now (reading_left c.args.folders.now c.steps.reading) c.one_step.new.reading s) c.in-On.is c.in_ok-step.ensures

pub returns-in-Need : goal.returns-in-Need
returns-in-Need c =
    let s : IsStep c.args.files.now c.args.folders.now (reading_left c.args.folders.now c.steps.reading) c.one_step.new.reading (Need c.in-Need.want) =
    subst (λ s. IsStep c.args.files.now c.args.folders.now (reading_left c.args.folders.now c.steps.reading) c.one_step.new.reading s) c.in-Need.is c.in_ok-step.ensures in
    (c.steps.invariant ∙ s.0, s.1)

pub returns-in-Done : goal.returns-in-Done
returns-in-Done c =
    c.steps.invariant ∙ subst (λ s. IsStep c.args.files.now c.args.folders.now (reading_left c.args.folders.now c.steps.reading) c.one_step.new.reading s) c.in-Done.is c.in_ok-step.ensures
