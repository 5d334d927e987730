use Rattle.std.proofs.Common.{ap, unwrap_or, []}
use Rattle.plain_mean.proofs.Followed.{same_units, same_meaning, same_questions}
use Rattle.plain_mean.proofs.laws.meanings_follow.Goals as goal

pub returns-clause-units : goal.returns-clause-units
returns-clause-units c = λ t t' conf same units. same_units c.paths_are_sets.ensures.members t t' same conf units

pub returns-clause-meaning : goal.returns-clause-meaning
returns-clause-meaning c = λ t t' conf same unit. same_meaning c.paths_are_sets.ensures.members t t' same conf unit

pub returns-clause-questions : goal.returns-clause-questions
returns-clause-questions c = λ t t' conf same unit. same_questions c.paths_are_sets.ensures.members t t' same conf unit

pub returns-clause-text : goal.returns-clause-text
returns-clause-text c = λ t t' same path. ap (λ o. unwrap_or o []) (same path)
