use Rattle.c_session.proofs.Keeping.{none_renewed}
use Rattle.c_session.proofs.unrenewed.nothing_is_renewed.Goals as goal

pub returns : goal.returns
returns c = none_renewed c.answers_stay.ensures c.configurations_are_equal.ensures.itself
