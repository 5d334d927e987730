use Rattle.asking.proofs.InOrder.{looked_in_order}
use Rattle.asking.proofs.laws.looked_in_order.Goals as goal

pub returns : goal.returns
returns g c = looked_in_order
