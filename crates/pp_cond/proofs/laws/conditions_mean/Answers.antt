use Rattle.pp_cond.proofs.Answering.{says}
use Rattle.pp_cond.proofs.laws.conditions_mean.Goals as goal

pub returns : goal.returns
returns c = says
