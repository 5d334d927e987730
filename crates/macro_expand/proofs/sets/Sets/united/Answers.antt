use Rattle.std.proofs.Common.{sym, ap, ◌∙◌}
use Rattle.macro_expand.specs.Ties.Codes.{Names}
use Rattle.macro_expand.specs.HideSets.{united}
use Rattle.macro_expand.proofs.SetLemmas.{united_nothing, stands_empty}
use Rattle.macro_expand.proofs.sets.Sets.united.Goals as goal

pub returns-then-is_empty-clause-value : goal.returns-then-is_empty-clause-value
returns-then-is_empty-clause-value c = λ f h.
    ap f c.copy.ensures ∙ united_nothing (f c.args.more.now)
    ∙ ap (λ (x : Names). united x (f c.args.more.now))
    (sym (stands_empty f c.args.self.now c.args.set.now h (c.is_empty.ensures c.if-is_empty.true)))
