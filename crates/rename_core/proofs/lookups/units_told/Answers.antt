use Rattle.std.proofs.Common.{◌+◌, drop, ap, sym, ◌∙◌}
use Rattle.rename_core.specs.Kept.{at}
use Rattle.rename_core.specs.Occurrences.{or_later}
use Rattle.rename_core.specs.Views.{same_text, occs_in}
use Rattle.rename_core.proofs.LookupLemmas.{entry_more, rest_here, there}
use Rattle.rename_core.proofs.lookups.units_told.Goals as goal

pub views-init : goal.views-init
views-init c = λ q. ap (λ o. or_later o (occs_in c.args.views.now q)) (c.no_occs-units.ensures q)

pub views-preserved : goal.views-preserved
views-preserved c =
    let v = c.in-Some.view.now in
    let l = c.in-Some.ensures.lookup in
    let here = there c.args.views.now c.views.place v l.3.0 l.1 in
    λ q. entry_more (same_text q v.path) v.occs (at c.views.units q) _ (occs_in (drop (c.views.place + 1) c.args.views.now) q) _ (c.in_ok-add_unit.ensures q)
    (ap (λ vs. or_later (at c.views.units q) (occs_in vs q)) (sym (rest_here c.args.views.now c.views.place v here)) ∙ c.views.invariant q)
