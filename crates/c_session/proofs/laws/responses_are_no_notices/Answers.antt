use Rattle.c_session.proofs.Unlike.{no_notices}
use Rattle.c_session.proofs.laws.responses_are_no_notices.Goals as goal

pub returns : goal.returns
returns c = no_notices
