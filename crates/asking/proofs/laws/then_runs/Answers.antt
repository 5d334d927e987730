use Rattle.asking.proofs.InTurn.{then_runs}
use Rattle.asking.proofs.laws.then_runs.Goals as goal

pub returns : goal.returns
returns g c = then_runs
