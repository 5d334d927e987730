use Rattle.std.proofs.Common.{refl}
use Rattle.plain_mean.specs.Lists.{shown_in}
use Rattle.c_session.specs.Shown.{conf_in}
use Rattle.c_session.specs.Ties.Sessions.{Worked, current_state}
use Rattle.c_session.proofs.Asking.{gave_up, stays}
use Rattle.c_session.proofs.Telling.{with_docs, closes_tells, closed_refused, not_closed}
use Rattle.c_session.proofs.Keeping.{first_kept, left_works}
use Rattle.c_session.proofs.Readings.{was_read}
use Rattle.c_session.proofs.current.Current.on_close.Goals as goal

pub returns-in-Ok-after_close-clause-handled : goal.returns-in-Ok-after_close-clause-handled
returns-in-Ok-after_close-clause-handled g c = closes_tells (current_state c.args.self.now) _ (current_state c.after_close.new.self) _ c.in-Ok.path c.in-Ok-after_close.bytes.items
    (shown_in c.args.self.now.kept.shown) (shown_in c.after_close.new.self.kept.shown) c.new-prior.result c.close_document.new.prior _ _ c.in-Ok.ensures.meant refl c.new-prior.ensures c.in-Ok.ensures.prior c.requires.kept.0.shown.right c.in-Ok-after_close.ensures.kept.0.shown.right c.in-Ok-after_close.ensures.handled

pub returns-in-Ok-clause-refused : goal.returns-in-Ok-clause-refused
returns-in-Ok-clause-refused g c = closed_refused (current_state c.args.self.now) c.close_document.new.docs _ c.in-Ok.path _ _ _ _ c.in-Err-after_close.error
    c.in-Ok.ensures.meant c.in-Err-after_close.ensures.refused

pub returns-in-Ok-refuse-clause-handled : goal.returns-in-Ok-refuse-clause-handled
returns-in-Ok-refuse-clause-handled g c = not_closed (current_state c.args.self.now) c.close_document.new.docs _ c.in-Err.refusal c.in-Ok-refuse.bytes.items _
    c.in-Err.ensures.meant c.in-Err.ensures.kept c.in-Ok-refuse.ensures.refused c.in-Ok-refuse.ensures.log

pub returns-clause-refused : goal.returns-clause-refused
returns-clause-refused g c = (refl, gave_up (stays _ _))

pub returns-in-Ok-after_close-clause-steps : goal.returns-in-Ok-after_close-clause-steps
returns-in-Ok-after_close-clause-steps g c = Worked (c.in-Ok-after_close.ensures.steps c.args.self.now.docs (conf_in (current_state c.args.self.now))
    (first_kept c.args.self.now.docs c.close_document.new.docs c.new-prior.result c.close_document.new.prior c.new-prior.ensures c.in-Ok.ensures.prior) c.requires.kept.0)

pub after_close-requires-clause-kept : goal.after_close-requires-clause-kept
after_close-requires-clause-kept g c = record {
  before = c.args.self.now.docs;
  read = conf_in (current_state c.args.self.now);
  since = first_kept c.args.self.now.docs c.close_document.new.docs c.new-prior.result c.close_document.new.prior c.new-prior.ensures c.in-Ok.ensures.prior;
  were = c.requires.kept.0;
}

pub after_close-requires-clause-read : goal.after_close-requires-clause-read
after_close-requires-clause-read g c = was_read c.args.self.now.words c.args.self.now.docs c.close_document.new.docs c.close_document.new.prior c.args.self.now.read
    (first_kept c.args.self.now.docs c.close_document.new.docs c.new-prior.result c.close_document.new.prior c.new-prior.ensures c.in-Ok.ensures.prior) c.in-Ok.ensures.prior.root c.requires.kept.1

pub returns-in-Ok-refuse-clause-steps : goal.returns-in-Ok-refuse-clause-steps
returns-in-Ok-refuse-clause-steps g c = left_works (current_state c.args.self.now) (current_state (with_docs c.close_document.new.docs c.args.self.now)) c.close_document.new.docs _ _ refl c.in-Err.ensures.kept refl
