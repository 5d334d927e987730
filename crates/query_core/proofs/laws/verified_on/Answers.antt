use Rattle.query_core.proofs.Composing.{verified_on}
use Rattle.query_core.proofs.laws.verified_on.Goals as goal

pub returns : goal.returns
returns g c = verified_on g.R.Rules.queries g.met.R.Rules.lawful
