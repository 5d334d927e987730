use Rattle.std.proofs.Common.{refl, None}
use Rattle.c_session.specs.Loading.{watched_log}
use Rattle.c_session.specs.Reasons.{ByTexts}
use Rattle.c_session.specs.Ties.Sessions.{loading}
use Rattle.c_session.proofs.Asking.{stays, gave_up}
use Rattle.c_session.proofs.Priors.{settled_differs, loaded_differs}
use Rattle.c_session.proofs.watching.update.Goals as goal

pub returns-in-Ok-clause-others : goal.returns-in-Ok-clause-others
returns-in-Ok-clause-others g c =
    settled_differs (λ e. watched_log (ByTexts e)) (loading c.args.docs.now c.args.logs.now.items) (loading c.take_away.new.docs c.take_away.new.logs.items) c.args.path.now _
    (λ t is. loaded_differs c.args.docs.now t c.args.path.now None is) c.in-Ok.ensures

pub returns-in-Err-clause-refused : goal.returns-in-Err-clause-refused
returns-in-Err-clause-refused g c = (refl, gave_up (stays _ _))
