use Rattle.std.proofs.Common.{sym, ap, ◌∙◌}
use Rattle.macro_expand.proofs.JoinLemmas.{same_names}
use Rattle.macro_expand.proofs.sets.Table.set.Goals as goal

pub returns-clause-value : goal.returns-clause-value
returns-clause-value c = λ f h.
    let stored = c.in_ok-number.ensures.stored in
    ap f c.numbered.ensures ∙ h.each c.in_ok-number.number stored.0 stored.1
    ∙ sym (same_names c.from_vec.result stored.0 stored.2) ∙ c.from_vec.ensures
