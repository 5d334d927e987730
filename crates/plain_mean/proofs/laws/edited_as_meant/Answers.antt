use Rattle.plain_mean.proofs.Ranging.{edited_is}
use Rattle.plain_mean.proofs.laws.edited_as_meant.Goals as goal

pub returns : goal.returns
returns c = λ texts edits name. edited_is texts edits name
