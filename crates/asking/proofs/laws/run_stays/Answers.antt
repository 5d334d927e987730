use Rattle.asking.proofs.InTurn.{run_stays}
use Rattle.asking.proofs.laws.run_stays.Goals as goal

pub returns : goal.returns
returns g c = run_stays
