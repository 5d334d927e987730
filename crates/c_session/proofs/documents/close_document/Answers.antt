use Rattle.std.proofs.Common.{subst, sym}
use Rattle.c_session.specs.Ties.News.{KeepsPrior}
use Rattle.c_session.proofs.Priors.{keeps_prior, closed_differs}
use Rattle.c_session.proofs.documents.close_document.Goals as goal

pub returns-in-Ok-close_doc-clause-prior : goal.returns-in-Ok-close_doc-clause-prior
returns-in-Ok-close_doc-clause-prior c =
    subst (λ m. KeepsPrior c.args.prior.now c.args.docs.now m c.close_doc.new.self) (sym c.in-Ok-remember.ensures.ok)
    (keeps_prior _ _ _ c.in-Ok.path (closed_differs _ _ _ c.in-Ok-close_doc.ensures.done))
