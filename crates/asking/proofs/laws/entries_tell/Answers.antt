use Rattle.asking.proofs.LookUps.{entries_tell}
use Rattle.asking.proofs.laws.entries_tell.Goals as goal

pub returns : goal.returns
returns g c = entries_tell g.K.Questions.kind
