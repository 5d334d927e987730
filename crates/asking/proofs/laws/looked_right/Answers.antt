use Rattle.asking.proofs.LookUps.{looked_right}
use Rattle.asking.proofs.laws.looked_right.Goals as goal

pub returns : goal.returns
returns g c = looked_right
