use Rattle.plain_mean.proofs.UnitsStay.{none_other}
use Rattle.plain_mean.proofs.laws.answers_stay.Goals as goal

pub returns : goal.returns
returns c = λ t t' same q. none_other t t' same q
