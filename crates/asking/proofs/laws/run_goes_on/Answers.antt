use Rattle.asking.proofs.InTurn.{run_goes_on}
use Rattle.asking.proofs.laws.run_goes_on.Goals as goal

pub returns : goal.returns
returns g c = run_goes_on
