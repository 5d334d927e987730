use Rattle.std.proofs.Common.{◌≡◌, true, false, refl}
use Rattle.c11ls.proofs.run.end_of_input.Goals as goal

no_longer : false ≡ true → ⊥
no_longer h = cc

pub returns-then-idle : goal.returns-then-idle
returns-then-idle c = λ fed given follows. ((c.if-idle.ensures.idle fed given follows).0 refl).1

pub returns : goal.returns
returns c = (refl, refl, λ fed given follows all empty. no_longer ((c.if-idle.ensures.idle fed given follows).1 (all, empty)))
