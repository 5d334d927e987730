use Rattle.std.proofs.Common.{ap, ◌∙◌}
use Rattle.macro_expand.specs.Expansion.{Stays}
use Rattle.macro_expand.specs.Ties.Numbers.{real}
use Rattle.macro_expand.specs.Ties.Steps.{found_of}
use Rattle.macro_expand.proofs.FindingLemmas.{closed_fits, closed_fails}
use Rattle.macro_expand.proofs.finding.closed_found.Goals as goal

pub returns-in_ok-found-in-Some-clause-value : goal.returns-in_ok-found-in-Some-clause-value
returns-in_ok-found-in-Some-clause-value c = λ f h.
    closed_fits f c.args.progress.now (real f c.args.token.now) c.args.def.now c.lacks_variable-lacks.result c.args.args
    c.in-Some.fit (f c.args.names) c.args.width c.in_ok-fit.fit
    (found_of f c.args.def.now c.fit_found.new.progress c.in_ok-found-in-Some.found)
    c.lacks_variable-lacks.ensures c.in_ok-fit.ensures c.in-Some.is (c.in_ok-found-in-Some.ensures.value f h)

pub returns-in_ok-found-in-None-clause-value : goal.returns-in_ok-found-in-None-clause-value
returns-in_ok-found-in-None-clause-value c = λ f h.
    closed_fails f c.args.progress.now (real f c.args.token.now) c.args.def.now c.args.args
    (f c.args.names) c.args.width c.in_ok-fit.fit
    (found_of f c.args.def.now c.faulty_found.new.progress c.in_ok-found-in-None.found) c.in_ok-fit.ensures c.in-None.is
    (ap (found_of f c.args.def.now c.faulty_found.new.progress) c.in_ok-found-in-None.ensures.stays
    ∙ ap Stays c.in_ok-found-in-None.ensures.noted)
