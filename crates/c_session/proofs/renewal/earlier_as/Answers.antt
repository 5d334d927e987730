use Rattle.std.proofs.Common.{sym, ◌∙◌}
use Rattle.c_session.proofs.Seeing.{was_at}
use Rattle.c_session.proofs.renewal.earlier_as.Goals as goal

pub returns-then-at : goal.returns-then-at
returns-then-at c = λ s saw. was_at c.args.now.now c.args.before s (sym c.same_path-at.ensures ∙ c.if-at.true) saw

pub returns : goal.returns
returns c = λ s saw. absurd (cc saw)
