use Rattle.std.proofs.Common.{refl}
use Rattle.c11ls.specs.Calls.{IfTold}
use Rattle.c11ls.specs.Generated.{Generated}
use Rattle.c11ls.proofs.Asked.{asks_not, asks_run, ends_no_usage, serves_none}
use Rattle.c11ls.proofs.Generating.{printed_nothing}
use Rattle.c11ls.proofs.Running.{ends_at_once}
use Rattle.c11ls.proofs.Serving.{not_usage}
use Rattle.c11ls.proofs.serve.answer.Goals as goal

pub returns-in-Err-NoMemory-clause-ended : goal.returns-in-Err-NoMemory-clause-ended
returns-in-Err-NoMemory-clause-ended g c = λ serves. ends_at_once _ _ _

pub returns-in-Err-NoMemory-clause-run : goal.returns-in-Err-NoMemory-clause-run
returns-in-Err-NoMemory-clause-run g c = λ n asked. (tt, printed_nothing _ _ _ _ refl)

pub returns-in-None-clause-usage : goal.returns-in-None-clause-usage
returns-in-None-clause-usage g c = λ is. absurd (not_usage _ _ _ _ _ _ c.run.ensures.ended is)

pub returns-in-None-clause-run : goal.returns-in-None-clause-run
returns-in-None-clause-run g c = λ n asked. absurd (asks_not _ _ n c.in-Ok.ensures.grammatical c.in-Ok.ensures.options c.in-None.is asked)

pub returns-in-None-clause-unread : goal.returns-in-None-clause-unread
returns-in-None-clause-unread g c = λ n asked. absurd (asks_not _ _ n c.in-Ok.ensures.grammatical c.in-Ok.ensures.options c.in-None.is asked)

pub returns-in-Some-clause-usage : goal.returns-in-Some-clause-usage
returns-in-Some-clause-usage g c = λ is. absurd (ends_no_usage _ c.run_generated.ensures.ended is)

pub returns-in-Some-clause-ended : goal.returns-in-Some-clause-ended
returns-in-Some-clause-ended g c = λ serves. absurd (serves_none _ _ c.in-Some.number c.in-Ok.ensures.grammatical c.in-Ok.ensures.options c.in-Some.is serves)

pub returns-in-Some-clause-run : goal.returns-in-Some-clause-run
returns-in-Some-clause-run g c = λ n asked. (
  c.run_generated.ensures.ended,
  asks_run _ _ c.in-Some.number n (λ o m. IfTold (g.W.Wire.told c.args.wire.now) (g.W.Wire.told c.run_generated.new.wire) (Generated o m c.run_generated.result))
      c.in-Ok.ensures.grammatical c.in-Ok.ensures.options c.in-Some.is asked c.run_generated.ensures.generated,
)

pub returns-in-Some-clause-unread : goal.returns-in-Some-clause-unread
returns-in-Some-clause-unread g c = λ n asked. (c.run_generated.ensures.unread, refl, refl)
