use Rattle.asking.proofs.InTurn.{after_append}
use Rattle.asking.proofs.laws.answers_join.Goals as goal

pub returns : goal.returns
returns g c = after_append
