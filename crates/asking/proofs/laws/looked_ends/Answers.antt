use Rattle.asking.proofs.LookUps.{looked_ends}
use Rattle.asking.proofs.laws.looked_ends.Goals as goal

pub returns : goal.returns
returns g c = looked_ends
