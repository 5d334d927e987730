use Rattle.asking.proofs.LookUps.{looked_stays}
use Rattle.asking.proofs.laws.looked_stays.Goals as goal

pub returns : goal.returns
returns g c = looked_stays
