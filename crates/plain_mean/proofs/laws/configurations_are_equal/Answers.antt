use Rattle.std.proofs.Common.{refl}
use Rattle.plain_mean.proofs.Sameness.{conf_is}
use Rattle.plain_mean.proofs.laws.configurations_are_equal.Goals as goal

pub returns-clause-same : goal.returns-clause-same
returns-clause-same c = λ a b same. (conf_is a b).0 same

pub returns-clause-itself : goal.returns-clause-itself
returns-clause-itself c = λ a. (conf_is a a).1 refl
