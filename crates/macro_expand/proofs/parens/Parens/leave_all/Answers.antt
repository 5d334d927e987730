use Rattle.std.proofs.Common.{ap, ◌∙◌, ◌+◌, drop, map}
use Rattle.macro_expand.specs.Tokens.{plain}
use Rattle.macro_expand.specs.Ties.Parens.{all_before}
use Rattle.macro_expand.proofs.ListLemmas.{drop_next}
use Rattle.macro_expand.proofs.parens.Parens.leave_all.Goals as goal

pub loop-token-preserved : goal.loop-token-preserved
loop-token-preserved c = λ p is.
    let all = c.args.tokens.now in
    let at = c.loop-token.token-index in
    c.leave.ensures (all_before (map plain (drop (at + 1) all)) p)
    (c.loop-token.invariant p is
    ∙ ap (λ ts. all_before (map plain ts) p) (drop_next all at c.token-item.result c.loop-token-test.true c.token-item.is))
