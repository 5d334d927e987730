use Rattle.query_core.proofs.Composing.{due_before_demands}
use Rattle.query_core.proofs.laws.due_before_demands.Goals as goal

pub returns : goal.returns
returns g c = due_before_demands g.R.Rules.queries g.met.R.Rules.lawful
