use Rattle.std.proofs.Common.{refl}
use Rattle.c_session.specs.Files.{with_found}
use Rattle.c_session.specs.Loading.{watched_log, settles}
use Rattle.c_session.specs.Reasons.{ByTexts}
use Rattle.c_session.specs.Ties.Sessions.{loading}
use Rattle.c_session.proofs.Asking.{read_stops, read_gives, gave_up}
use Rattle.c_session.proofs.Priors.{settled_differs, found_differs}
use Rattle.c_session.proofs.watching.reread.Goals as goal

pub returns-in-Err-clause-refused : goal.returns-in-Err-clause-refused
returns-in-Err-clause-refused g c = read_stops _ _ c.in-Err.error _ _ _ _ c.in-Err.ensures.failed c.in-Err.ensures.counted

pub returns-in-Ok-take_found-clause-updated : goal.returns-in-Ok-take_found-clause-updated
returns-in-Ok-take_found-clause-updated g c =
    read_gives c.args.path.now (λ o. settles (λ e. watched_log (ByTexts e)) (loading c.args.docs.now c.args.logs.now.items) (with_found c.args.docs.now c.args.path.now o))
    c.in-Ok.found _ _ _ c.in-Ok.ensures.found c.in-Ok-take_found.ensures

pub returns-in-Ok-take_found-clause-others : goal.returns-in-Ok-take_found-clause-others
returns-in-Ok-take_found-clause-others g c =
    settled_differs (λ e. watched_log (ByTexts e)) (loading c.args.docs.now c.args.logs.now.items) (loading c.take_found.new.docs c.take_found.new.logs.items) c.args.path.now _
    (λ t is. found_differs c.args.docs.now t c.args.path.now c.in-Ok.found is) c.in-Ok-take_found.ensures

pub returns-clause-refused : goal.returns-clause-refused
returns-clause-refused g c = (
  c.in-Ok.ensures.counted,
  gave_up
      (read_gives c.args.path.now (λ o. settles (λ e. watched_log (ByTexts e)) (loading c.args.docs.now c.args.logs.now.items) (with_found c.args.docs.now c.args.path.now o))
      c.in-Ok.found _ _ _ c.in-Ok.ensures.found refl),
)
