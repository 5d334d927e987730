use Rattle.c11ls.proofs.Exchanging.{plain_answered}
use Rattle.c11ls.proofs.laws.plain_answers.Goals as goal

pub returns : goal.returns
returns c = plain_answered (record { answered = c.requests_are_answered.ensures; exits = c.exits_alone_end.ensures.alone; ends = c.exits_alone_end.ensures.end })
