use Rattle.std.proofs.Common.{refl}
use Rattle.c_session.specs.Ties.Sessions.{current_state}
use Rattle.c_session.proofs.Asking.{gave_up, stays}
use Rattle.c_session.proofs.Keeping.{no_work}
use Rattle.c_session.proofs.current.Current.on_running_notification.Goals as goal

pub returns-in-Err-clause-refused : goal.returns-in-Err-clause-refused
returns-in-Err-clause-refused g c = (refl, gave_up (stays _ _))

pub returns-in-Err-on_change-clause-refused : goal.returns-in-Err-on_change-clause-refused
returns-in-Err-on_change-clause-refused g c = (refl, gave_up (stays _ _))

pub returns-clause-steps : goal.returns-clause-steps
returns-clause-steps g c = no_work (current_state c.args.self.now) _
