use Rattle.macro_expand.specs.Ties.Numbers.{real}
use Rattle.macro_expand.specs.Ties.Steps.{found_of}
use Rattle.macro_expand.proofs.FindingLemmas.{macro_calls}
use Rattle.macro_expand.proofs.finding.macro_found.Goals as goal

pub returns-in_ok-found-in-Some-clause-value : goal.returns-in_ok-found-in-Some-clause-value
returns-in_ok-found-in-Some-clause-value c = λ f h.
    macro_calls f c.args.progress.now (real f c.args.token.now) c.args.rest.now c.args.def.now c.args.def.now.params _
    c.in_ok-called-in-Some.called
    (found_of f c.args.def.now c.call_found.new.progress c.in_ok-found-in-Some.found) c.in-Some.is
    c.in_ok-called-in-Some.ensures (c.in_ok-found-in-Some.ensures.value f h)
