use Rattle.query_core.proofs.Composing.{verified_holds}
use Rattle.query_core.proofs.laws.verified_holds.Goals as goal

pub returns : goal.returns
returns g c = verified_holds g.R.Rules.queries g.met.R.Rules.lawful
