use Rattle.unit_index.specs.Matching.{matched}
use Rattle.unit_index.proofs.CrossLemmas.{exact_tells, matched_tells}
use Rattle.unit_index.proofs.across.Index.crossings.Goals as goal

pub returns-clause-meant : goal.returns-clause-meant
returns-clause-meant c = λ test exact. c.in_ok-all.ensures test (exact_tells test exact)

pub returns-clause-value : goal.returns-clause-value
returns-clause-value c = c.in_ok-all.ensures matched matched_tells
