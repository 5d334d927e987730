use Rattle.query_core.proofs.Composing.{demands_begin}
use Rattle.query_core.proofs.laws.demands_begin.Goals as goal

pub returns : goal.returns
returns g c = demands_begin g.R.Rules.queries g.met.R.Rules.lawful
