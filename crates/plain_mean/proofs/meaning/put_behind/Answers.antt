use Rattle.std.proofs.Common.{◌++◌, ap, ◌∙◌}
use Rattle.plain_mean.proofs.meaning.put_behind.Goals as goal

pub returns : goal.returns
returns c =
    ap (λ occs. record c.args.meaning.now { occs = occs })
    (c.in_ok-all.ensures ∙ ap (λ items. items ++ c.args.marks.items) c.replace-occs.ensures.value)
