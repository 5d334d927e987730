use Rattle.std.proofs.Common.{subst, sym}
use Rattle.c_session.specs.Loading.{load_log}
use Rattle.c_session.specs.Ties.News.{KeepsPrior}
use Rattle.c_session.specs.Ties.Sessions.{loading}
use Rattle.c_session.proofs.Priors.{keeps_prior, settled_differs, found_differs}
use Rattle.c_session.proofs.loading.take_back.Goals as goal

pub returns-in-Ok-load_found-clause-prior : goal.returns-in-Ok-load_found-clause-prior
returns-in-Ok-load_found-clause-prior c =
    subst (λ m. KeepsPrior c.args.prior.now c.args.docs.now m c.load_found.new.docs) (sym c.in-Ok.ensures.ok)
    (keeps_prior _ _ _ c.args.path.now
    (settled_differs (load_log c.args.path.now) (loading c.args.docs.now c.args.logs.now.items) (loading c.load_found.new.docs c.load_found.new.logs.items) c.args.path.now _
    (λ t is. found_differs c.args.docs.now t c.args.path.now c.args.found.now is) c.in-Ok-load_found.ensures))
