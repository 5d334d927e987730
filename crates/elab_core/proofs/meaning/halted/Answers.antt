use Rattle.std.proofs.Common.{sym, subst, IfOk}
use Rattle.elab_state.specs.Comes.{Stops}
use Rattle.elab_core.specs.Meanings.{Means}
use Rattle.elab_core.proofs.meaning.halted.Goals as goal

pub returns-in-Wants : goal.returns-in-Wants
returns-in-Wants c = λ run h. subst (λ r. IfOk c.needs.result (λ elab. Means r elab)) (sym (subst (λ halt. Stops run halt) c.in-Wants.is h)) c.needs.ensures
