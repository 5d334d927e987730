use Rattle.stmt_rules.proofs.ApartLemmas.{apart}
use Rattle.stmt_rules.proofs.laws.cases_are_apart.Goals as goal

pub returns : goal.returns
returns c = apart
