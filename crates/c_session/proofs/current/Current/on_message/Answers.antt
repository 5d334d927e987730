use Rattle.std.proofs.Common.{refl, sym, ap}
use Rattle.c_session.specs.Handled.{rename_work}
use Rattle.c_session.specs.Ties.Seen.{seen}
use Rattle.c_session.specs.Ties.Sessions.{current_state}
use Rattle.c_session.proofs.Asking.{gave_up, stays}
use Rattle.c_session.proofs.Keeping.{is_work, is_work_ok, no_work, others_work, works_alone}
use Rattle.c_session.proofs.current.Current.on_message.Goals as goal

pub returns-in-Err-on_other : goal.returns-in-Err-on_other
returns-in-Err-on_other g c = record { handled = tt; kept = tt; steps = tt; counted = tt; refused = (refl, gave_up (stays _ _)) }

pub returns-in-Ok-on_other-clause-steps : goal.returns-in-Ok-on_other-clause-steps
returns-in-Ok-on_other-clause-steps g c = is_work c.nothing_is_renewed.ensures (seen c.args.message.now) (current_state c.args.self.now) (current_state c.args.self.now) 0 _ _ (others_work (current_state c.args.self.now) c.args.message.now c.in_default.not-Request)
    (works_alone (current_state c.args.self.now) (current_state c.args.self.now) _ _ (no_work (current_state c.args.self.now) _))

pub returns-in-Ok-clause-steps : goal.returns-in-Ok-clause-steps
returns-in-Ok-clause-steps g c = is_work c.nothing_is_renewed.ensures (seen c.args.message.now) (current_state c.args.self.now) (current_state c.on_request.new.self) _ _ _ (ap (λ m. rename_work (current_state c.args.self.now) (seen m)) (sym c.in-Request.is)) c.in-Ok.ensures.steps

pub returns-in-Notification-clause-steps : goal.returns-in-Notification-clause-steps
returns-in-Notification-clause-steps g c = is_work_ok c.nothing_is_renewed.ensures (seen c.args.message.now) c.on_notification.result (current_state c.args.self.now) (current_state c.on_notification.new.self) _ _ (ap (λ m. rename_work (current_state c.args.self.now) (seen m)) (sym c.in-Notification.is))
    c.on_notification.ensures.steps
