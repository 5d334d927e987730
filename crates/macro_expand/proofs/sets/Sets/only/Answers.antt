use Rattle.std.proofs.Common.{◌∙◌}
use Rattle.macro_expand.proofs.sets.Sets.only.Goals as goal

pub returns-clause-value : goal.returns-clause-value
returns-clause-value c = λ f h. c.in_ok-one.ensures.value f h ∙ c.in_ok-names.ensures
