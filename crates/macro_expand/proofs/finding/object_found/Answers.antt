use Rattle.std.proofs.Common.{rules, ◌≡◌, ◌==◌, false, ap}
use Rattle.std.specs.Prelude.{Some}
use Rattle.macro_expand.specs.Progress as made
use Rattle.macro_expand.specs.Ties.Numbers.{real, real_args}
use Rattle.macro_expand.proofs.FindingLemmas.{object_replaced}
use Rattle.macro_expand.proofs.finding.object_found.Goals as goal

pub returns-clause-value : goal.returns-clause-value
returns-clause-value c = λ f h.
    let some : (c.args.progress.now.left == 0) ≡ false = search rules in
    let after : c.counted.new.self ≡ made.counted c.args.token.now (Some c.args.def.now.tok) c.args.progress.now =
    search rules in
    object_replaced c.args.progress.now c.counted.new.self (real f c.args.token.now) c.args.def.now
    (real_args f c.new.result) (f c.in_ok-names.names) some after (ap (real_args f) c.new.ensures)
    (c.in_ok-names.ensures.value f h)
