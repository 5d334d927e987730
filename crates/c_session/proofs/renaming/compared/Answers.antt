use Rattle.std.proofs.Common.{◌≡◌, List, None, map, ap, ◌∙◌}
use Rattle.rename_core.specs.Clashes.{confirmed}
use Rattle.rename_core.specs.declared.views.FileKinds.{FileKinds}
use Rattle.unit_index.specs.Known.{Known}
use Rattle.c_session.specs.Ties.Renamings.{view_by, views_by}
use Rattle.c_session.proofs.renaming.compared.Goals as goal

pub views_before-requires : goal.views_before-requires
views_before-requires c = c.as_slice.ensures.value ∙ c.in-Ok.ensures

pub views_after-requires : goal.views_after-requires
views_after-requires c = c.as_slice-3.ensures.value ∙ c.in-Ok.ensures

pub returns : goal.returns
returns c = λ told.
    let before : c.as_slice-6.result.now ≡ map (λ (u : Known). view_by c.args.effect.now.kinds.items u None) c.args.units.now =
    c.as_slice-6.ensures.value ∙ c.in-Ok-views_before.ensures ∙ ap (λ (ks : List FileKinds). map (λ (u : Known). view_by ks u None) c.args.units.now) c.as_slice-2.ensures.value in
    let behind : c.as_slice-7.result.now ≡ views_by c.args.effect.now.kinds_after.items c.args.units.now c.args.effect.now.anew.items =
    c.as_slice-7.ensures.value ∙ c.in-Ok-views_after.ensures ∙ (λ i. views_by (c.as_slice-5.ensures.value i) c.args.units.now (c.as_slice-4.ensures.value i)) in
    c.confirm.ensures.outcome told ∙ (λ i. confirmed c.args.plan (before i) (behind i))
