use Rattle.std.proofs.Common.{◌++◌, ap, ◌∙◌}
use Rattle.macro_expand.specs.Ties.Codes.{Names}
use Rattle.macro_expand.proofs.sets.Sets.with.Goals as goal

pub returns-clause-grows : goal.returns-clause-grows
returns-clause-grows c = λ f h. c.only.ensures.grows f (c.in_ok-all.ensures.grows f h)

pub returns-clause-value : goal.returns-clause-value
returns-clause-value c = λ f h.
    c.in_ok-all.ensures.value f h
    ∙ ap (λ (x : Names). x ++ f c.args.set.now) (c.in_ok-one.ensures.value f (c.in_ok-all.ensures.grows f h))
