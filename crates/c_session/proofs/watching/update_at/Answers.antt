use Rattle.std.proofs.Common.{refl, subst, sym}
use Rattle.c_session.specs.Ties.News.{KeepsPrior}
use Rattle.c_session.proofs.Asking.{stays, gave_up}
use Rattle.c_session.proofs.Priors.{keeps_prior}
use Rattle.c_session.proofs.watching.update_at.Goals as goal

pub returns-in-Err-push_refusal-clause-refused : goal.returns-in-Err-push_refusal-clause-refused
returns-in-Err-push_refusal-clause-refused g c = (refl, gave_up (stays _ _))

pub returns-in-Err-is_read-clause-refused : goal.returns-in-Err-is_read-clause-refused
returns-in-Err-is_read-clause-refused g c = (refl, gave_up (stays _ _))

pub returns-in-Err-remember-clause-refused : goal.returns-in-Err-remember-clause-refused
returns-in-Err-remember-clause-refused g c = (refl, gave_up (stays _ _))

pub returns-in-Ok-update-clause-prior : goal.returns-in-Ok-update-clause-prior
returns-in-Ok-update-clause-prior g c =
    subst (λ m. KeepsPrior c.args.prior.now c.args.docs.now m c.update.new.docs) (sym c.in-Ok-remember.ensures.ok)
    (keeps_prior _ _ _ c.in-Ok.path c.in-Ok-update.ensures.others)

pub returns-in-Err-push_refusal-2-clause-refused : goal.returns-in-Err-push_refusal-2-clause-refused
returns-in-Err-push_refusal-2-clause-refused g c = (refl, gave_up (stays _ _))
