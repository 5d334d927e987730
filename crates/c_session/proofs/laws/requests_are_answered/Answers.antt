use Rattle.c_session.proofs.Responses.{react_answered}
use Rattle.c_session.proofs.laws.requests_are_answered.Goals as goal

pub returns : goal.returns
returns c = react_answered
