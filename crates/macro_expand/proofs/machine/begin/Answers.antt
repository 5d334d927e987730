use Rattle.std.proofs.Common.{ap, ◌∙◌}
use Rattle.macro_expand.specs.declared.building.Building.{Building}
use Rattle.macro_expand.specs.Ties.Machine.{resume, ended}
use Rattle.macro_expand.proofs.MachineLemmas.{begun_is}
use Rattle.macro_expand.proofs.machine.begin.Goals as goal

pub returns-clause-grows : goal.returns-clause-grows
returns-clause-grows c = λ f h. c.in_ok-advance.ensures.grows f (c.in_ok-settled.ensures.grows f h)

pub returns-clause-value : goal.returns-clause-value
returns-clause-value c = λ f h again.
    c.in_ok-settled.ensures.value f h again
    ∙ ap (λ (b : Building). resume f again c.args.frames.items (ended f again c.args.call b))
    (begun_is f again c.args.call.def.now c.args.call.args c.as_slice.result.now c.args.call.token.token.site
    c.in_ok-advance.advance c.as_slice-2.result.now c.args.progress c.args.call.token.token.space_before
    c.begun-begun.result c.as_slice.ensures c.as_slice-2.ensures c.begun-begun.ensures
    (c.in_ok-advance.ensures.value f (c.in_ok-settled.ensures.grows f h) again))
