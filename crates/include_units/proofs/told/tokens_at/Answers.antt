use Rattle.std.proofs.Common.{◌∙◌}
use Rattle.include_units.proofs.TellLemmas.{told_short}
use Rattle.include_units.proofs.told.tokens_at.Goals as goal

pub returns-in-Some-clause-short : goal.returns-in-Some-clause-short
returns-in-Some-clause-short c =
    told_short c.files.inside.answers.items c.as_str.result.now c.in-Some.tokens.now c.files.invariant.3 (c.in-Some.ensures.value ∙ c.files.invariant.1 c.as_str.result.now)
