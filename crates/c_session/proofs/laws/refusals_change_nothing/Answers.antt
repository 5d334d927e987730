use Rattle.c_session.proofs.Responses.{react_kept, watched_keeps}
use Rattle.c_session.proofs.laws.refusals_change_nothing.Goals as goal

pub returns : goal.returns
returns c = record { state = react_kept; watched = watched_keeps }
