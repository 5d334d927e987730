use Rattle.std.proofs.Common.{ap, ◌∙◌, drop, ◌-◌}
use Rattle.macro_expand.proofs.ListLemmas.{drop_more}
use Rattle.macro_expand.proofs.splicing.dropped.Goals as goal

pub loop-left-preserved : goal.loop-left-preserved
loop-left-preserved c =
    ap (drop (c.loop-left.left - 1)) c.skip.ensures ∙ drop_more c.loop-left.left c.loop-left.rest
    c.loop-left-test.true ∙ c.loop-left.invariant
