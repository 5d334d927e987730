use Rattle.std.proofs.Common.{ap, sym, ◌∙◌}
use Rattle.rename_core.specs.Kept.{at}
use Rattle.rename_core.specs.Occurrences.{or_later}
use Rattle.rename_core.specs.Views.{same_text, kinds_of}
use Rattle.rename_core.proofs.LookupLemmas.{entry_more}
use Rattle.rename_core.proofs.lookups.add_all.Goals as goal

pub kinds-preserved : goal.kinds-preserved
kinds-preserved c =
    let one = c.in-Some.one.now in
    λ q. entry_more (same_text q one.file) one.kinds (at c.kinds.told q) _ (kinds_of q c.in-Some.behind.now) _ (c.in_ok-add_kinds.ensures q)
    (ap (λ l. or_later (at c.kinds.told q) (kinds_of q l)) (sym c.in-Some.ensures.cases.0) ∙ c.kinds.invariant q)
