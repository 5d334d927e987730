use Rattle.asking.proofs.InTurn.{then_answered}
use Rattle.asking.proofs.laws.then_answered.Goals as goal

pub returns : goal.returns
returns g c = then_answered
