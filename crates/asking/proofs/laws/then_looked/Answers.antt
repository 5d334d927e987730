use Rattle.asking.proofs.LookUps.{then_runs, then_results, then_asks}
use Rattle.asking.proofs.laws.then_looked.Goals as goal

pub returns : goal.returns
returns g c = record { runs = then_runs; results = then_results; asks = then_asks }
