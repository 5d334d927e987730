use Rattle.plain_mean.proofs.UnitsStay.{gone_by}
use Rattle.plain_mean.proofs.laws.grounds_hold.Goals as goal

pub returns : goal.returns
returns c = λ prior t now conf conf' unit grounds same is. gone_by prior t now same conf conf' unit grounds is
