use Rattle.c11ls.proofs.Serving.{serves_it}
use Rattle.c11ls.proofs.serve.serve.Goals as goal

pub returns-clause-served : goal.returns-clause-served
returns-clause-served g c = λ serves.
    serves_it (record { answered = c.requests_are_answered.ensures; exits = c.exits_alone_end.ensures.alone; ends = c.exits_alone_end.ensures.end }) _ _ _ _ _ _ (c.answer-status.ensures.ended serves)
