use Rattle.std.proofs.Common.{rules, ◌≡◌, ◌==◌, false}
use Rattle.macro_expand.specs.Ties.Numbers.{real, real_args}
use Rattle.macro_expand.proofs.FindingLemmas.{fit_replaced}
use Rattle.macro_expand.proofs.finding.fit_found.Goals as goal

pub returns-clause-grows : goal.returns-clause-grows
returns-clause-grows c = λ f h. c.in_ok-both.ensures.grows f (c.in_ok-hidden.ensures.grows f h)

pub returns-clause-value : goal.returns-clause-value
returns-clause-value c = λ f h.
    let some : (c.args.progress.now.left == 0) ≡ false = search rules in
    fit_replaced c.args.progress.now c.counted_call.new.progress (real f c.args.token.now) c.args.def.now c.args.lacks
    (real_args f c.args.args) (f c.args.names) (f c.in_ok-both.both) (f c.in_ok-hidden.hidden) c.args.width some
    c.in_ok-counted_call.ensures (c.in_ok-hidden.ensures.value f h)
    (c.in_ok-both.ensures.value f (c.in_ok-hidden.ensures.grows f h))
