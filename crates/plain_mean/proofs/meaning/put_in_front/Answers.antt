use Rattle.std.proofs.Common.{◌++◌, ap, ◌∙◌}
use Rattle.plain_mean.proofs.meaning.put_in_front.Goals as goal

pub returns : goal.returns
returns c =
    ap (λ faults. record c.args.meaning.now { faults = faults })
    (c.in_ok-all.ensures ∙ ap (λ items. c.args.faults.items ++ items) c.replace-items.ensures.value)
