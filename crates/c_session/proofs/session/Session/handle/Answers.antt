use Rattle.std.proofs.Common.{None, refl, sym, ap, subst, ◌∙◌}
use Rattle.doc_texts.specs.Short.{AllShort}
use Rattle.c_session.specs.Message.{of_read}
use Rattle.c_session.specs.Ties.Sessions.{SessionView, state_of, is_whole, current_state}
use Rattle.c_session.proofs.Asking.{gave_up, stays}
use Rattle.c_session.proofs.Responses.{handled_answered, handled_kept}
use Rattle.c_session.proofs.Telling.{asked_handled, asked_refused}
use Rattle.c_session.proofs.Keeping.{handled_works}
use Rattle.c_session.proofs.session.Session.handle.Goals as goal

pub returns-in-Err-clause-refused : goal.returns-in-Err-clause-refused
returns-in-Err-clause-refused g c = (refl, gave_up (stays _ _))

pub returns-in-Err-message_of-clause-refused : goal.returns-in-Err-message_of-clause-refused
returns-in-Err-message_of-clause-refused g c = (refl, gave_up (stays _ _))

pub returns-in-Ok-on_message-clause-handled : goal.returns-in-Ok-on_message-clause-handled
returns-in-Ok-on_message-clause-handled g c = asked_handled (state_of c.args.self.now) (current_state c.ready.new.current) _ _ _ _ _ _ (c.in-Ok-ready.ensures.same ∙ ap state_of c.self.view_is) c.in-Ok.ensures c.in-Ok-message_of.ensures c.in-Ok-on_message.ensures.handled

pub returns-in-Ok-on_message-clause-answered : goal.returns-in-Ok-on_message-clause-answered
returns-in-Ok-on_message-clause-answered g c = handled_answered (state_of c.args.self.now) _ _ _ _
    (asked_handled (state_of c.args.self.now) (current_state c.ready.new.current) _ _ _ _ _ _ (c.in-Ok-ready.ensures.same ∙ ap state_of c.self.view_is) c.in-Ok.ensures c.in-Ok-message_of.ensures c.in-Ok-on_message.ensures.handled)

pub returns-in-Ok-on_message-clause-kept : goal.returns-in-Ok-on_message-clause-kept
returns-in-Ok-on_message-clause-kept g c = handled_kept (state_of c.args.self.now) _ _ _ _
    (asked_handled (state_of c.args.self.now) (current_state c.ready.new.current) _ _ _ _ _ _ (c.in-Ok-ready.ensures.same ∙ ap state_of c.self.view_is) c.in-Ok.ensures c.in-Ok-message_of.ensures c.in-Ok-on_message.ensures.handled)

pub returns-in-Err-on_message-clause-refused : goal.returns-in-Err-on_message-clause-refused
returns-in-Err-on_message-clause-refused g c = asked_refused (state_of c.args.self.now) (current_state c.ready.new.current) _ _ _ _ _ _ _ c.in-Err-on_message.error (c.in-Ok-ready.ensures.same ∙ ap state_of c.self.view_is) c.in-Ok.ensures c.in-Ok-message_of.ensures c.in-Err-on_message.ensures.refused

pub returns-in-Err-ready-clause-refused : goal.returns-in-Err-ready-clause-refused
returns-in-Err-ready-clause-refused g c = (refl, gave_up (stays _ _))

pub returns-in-Ok-on_message-clause-steps : goal.returns-in-Ok-on_message-clause-steps
returns-in-Ok-on_message-clause-steps g c = λ whole. handled_works _ _ (state_of c.args.self.now) (current_state c.ready.new.current) (current_state c.on_message.new.self) _ _ _ (c.in-Ok-message_of.ensures ∙ ap of_read c.in-Ok.ensures) (c.in-Ok-ready.ensures.same ∙ ap state_of c.self.view_is)
    (c.in-Ok-ready.ensures.steps (ap is_whole c.self.view_is ∙ whole)) c.in-Ok-on_message.ensures.steps

-- `ready` failed: the texts stay
pub invariant_of-self : goal.invariant_of-self
invariant_of-self g c = ((λ e. let bad : ⊥ = cc e in absurd bad), subst AllShort (sym c.ready.ensures.docs) c.self.invariant.1)

-- the texts behind `ready` are those before it
pub on_message-requires-clause-short : goal.on_message-requires-clause-short
on_message-requires-clause-short g c = subst AllShort (sym c.ready.ensures.docs) c.self.invariant.1

-- the reply: no content makes a text long
pub invariant_of-self-in-Ok-on_message : goal.invariant_of-self-in-Ok-on_message
invariant_of-self-in-Ok-on_message g c = (
  (λ e. c.in-Ok-on_message.ensures.kept),
  c.contents_keep_limits.ensures (state_of c.args.self.now) (current_state c.on_message.new.self) _ _ _ _ _
      (asked_handled (state_of c.args.self.now) (current_state c.ready.new.current) _ _ _ _ _ _ (c.in-Ok-ready.ensures.same ∙ ap state_of c.self.view_is) c.in-Ok.ensures c.in-Ok-message_of.ensures c.in-Ok-on_message.ensures.handled)
      (subst (λ (v : SessionView). AllShort (state_of v).texts) c.self.view_is c.self.invariant.1),
)

-- an error: the texts are dropped
pub invariant_of-self-in-Err-on_message : goal.invariant_of-self-in-Err-on_message
invariant_of-self-in-Err-on_message g c = ((λ e. let bad : ⊥ = cc e in absurd bad), subst AllShort (sym c.forget.ensures) (c.texts_stay_short.ensures.under None))
