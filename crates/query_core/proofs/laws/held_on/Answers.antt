use Rattle.query_core.proofs.Composing.{held_on}
use Rattle.query_core.proofs.laws.held_on.Goals as goal

pub returns : goal.returns
returns g c = held_on g.R.Rules.queries g.met.R.Rules.lawful
