use Rattle.std.proofs.Common.{◌+◌, drop, ap, sym, ◌∙◌}
use Rattle.rename_core.specs.Kept.{at}
use Rattle.rename_core.specs.Occurrences.{or_later}
use Rattle.rename_core.specs.Views.{kinds_of, kinds_in}
use Rattle.rename_core.proofs.LookupLemmas.{entries_more, rest_here, there}
use Rattle.rename_core.proofs.lookups.kinds_told.Goals as goal

pub views-init : goal.views-init
views-init c = λ q. ap (λ o. or_later o (kinds_in c.args.views.now q)) (c.no_kinds-told.ensures q)

pub views-preserved : goal.views-preserved
views-preserved c =
    let l = c.in-Some.ensures.lookup in
    let here = there c.args.views.now c.views.place c.in-Some.view.now l.3.0 l.1 in
    λ q. entries_more (kinds_of q c.in-Some.view.now.kinds) (at c.views.told q) _ (kinds_in (drop (c.views.place + 1) c.args.views.now) q) _ (c.in_ok-add_all.ensures q ∙ ap (λ l. or_later (at c.views.told q) (kinds_of q l)) c.kinds.ensures)
    (ap (λ vs. or_later (at c.views.told q) (kinds_in vs q)) (sym (rest_here c.args.views.now c.views.place c.in-Some.view.now here)) ∙ c.views.invariant q)
