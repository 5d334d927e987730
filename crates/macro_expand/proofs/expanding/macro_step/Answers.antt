use Rattle.std.proofs.Common.{ap, sym, ◌∙◌}
use Rattle.macro_expand.specs.Expansion as spec
use Rattle.macro_expand.specs.Ties.Numbers.{real, reals}
use Rattle.macro_expand.specs.Ties.Steps as steps
use Rattle.macro_expand.specs.Ties.Steps.{found_of}
use Rattle.macro_expand.proofs.MachineLemmas.{replaced_is}
use Rattle.macro_expand.proofs.expanding.macro_step.Goals as goal

pub returns-in-Replaced-clause-value : goal.returns-in-Replaced-clause-value
returns-in-Replaced-clause-value c = λ f h again.
    replaced_is f again c.macro_found.new.progress c.args.token c.in_ok-rest.rest c.dropped.result c.args.def.now
    c.in-Replaced.args (f c.in-Replaced.names) c.in-Replaced.width _ c.dropped.ensures
    (ap (found_of f c.args.def.now c.macro_found.new.progress) (sym c.in-Replaced.is) ∙ c.in_ok-found.ensures.value f h)
    ∙ ap (λ ts. steps.after again (steps.step_by again (real f c.args.token) (reals f ts)
    (spec.macro_found c.args.progress (real f c.args.token) (reals f ts) c.args.def.now c.args.def.now.params)))
    c.in_ok-rest.ensures
