use Rattle.std.proofs.Common.{refl}
use Rattle.c_session.specs.Ties.Sessions.{current_state}
use Rattle.c_session.proofs.Asking.{gave_up, stays}
use Rattle.c_session.proofs.Reasoning.{params_refused_by}
use Rattle.c_session.proofs.Telling.{not_watched}
use Rattle.c_session.proofs.Keeping.{no_work}
use Rattle.c_session.proofs.current.Current.on_watch.Goals as goal

pub returns-in-Ok-refuse-clause-handled : goal.returns-in-Ok-refuse-clause-handled
returns-in-Ok-refuse-clause-handled g c = not_watched (current_state c.args.self.now) _ c.of_params.result c.in-Ok-refuse.bytes.items _
    (params_refused_by c.in-Err.error c.of_params.result _ c.of_params.ensures c.in-Err.ensures c.in-Ok-refuse.ensures.refused) c.in-Ok-refuse.ensures.log

pub returns-clause-refused : goal.returns-clause-refused
returns-clause-refused g c = (refl, gave_up (stays _ _))

pub returns-in-Ok-refuse-clause-steps : goal.returns-in-Ok-refuse-clause-steps
returns-in-Ok-refuse-clause-steps g c = no_work (current_state c.args.self.now) _
