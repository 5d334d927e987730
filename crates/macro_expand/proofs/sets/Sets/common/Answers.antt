use Rattle.std.proofs.Common.{sym, ap, ◌∙◌}
use Rattle.macro_expand.specs.Ties.Codes.{Names}
use Rattle.macro_expand.specs.HideSets.{common}
use Rattle.macro_expand.proofs.SetLemmas.{common_nothing, stands_empty}
use Rattle.macro_expand.proofs.sets.Sets.common.Goals as goal

pub returns-then-is_empty-clause-value : goal.returns-then-is_empty-clause-value
returns-then-is_empty-clause-value c = λ f h.
    ap f c.empty.ensures ∙ h.none ∙ common_nothing (f c.args.others.now)
    ∙ ap (λ (x : Names). common x (f c.args.others.now))
    (sym (stands_empty f c.args.self.now c.args.set.now h (c.is_empty.ensures c.if-is_empty.true)))
