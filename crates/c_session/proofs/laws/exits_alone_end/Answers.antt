use Rattle.c_session.proofs.Responses.{exit_ended, exit_ends}
use Rattle.c_session.proofs.laws.exits_alone_end.Goals as goal

pub returns : goal.returns
returns c = record { alone = exit_ended; end = exit_ends }
