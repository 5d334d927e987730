use Rattle.std.proofs.Common.{Some, refl, sym, ap, ◌∙◌}
use Rattle.c_session.specs.Renewal.{OnKept}
use Rattle.c_session.proofs.renewal.kept_or_worked.Goals as goal

pub returns-clause-grounds : goal.returns-clause-grounds
returns-clause-grounds g c = OnKept c.args.held refl (sym c.in_ok-gone.ensures.gone ∙ c.if-gone.false) refl

pub returns-then-gone-clause-seen : goal.returns-then-gone-clause-seen
returns-then-gone-clause-seen g c = λ s saw. ap Some (sym (c.earlier_as-earlier.ensures s saw))

pub returns-clause-seen : goal.returns-clause-seen
returns-clause-seen g c = λ s saw. saw
