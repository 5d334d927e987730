use Rattle.query_core.proofs.Composing.{demands_go_on}
use Rattle.query_core.proofs.laws.demands_go_on.Goals as goal

pub returns : goal.returns
returns g c = demands_go_on g.R.Rules.queries g.met.R.Rules.lawful
