use Rattle.std.proofs.Common.{refl, ap, sym, ◌∙◌, map}
use Rattle.meaning_lists.specs.Firsts.{placed_occ}
use Rattle.meaning_lists.specs.Found.{occs_in_order}
use Rattle.meaning_lists.specs.Order.{ascends_from}
use Rattle.meaning_lists.proofs.InOrder.{stays}
use Rattle.meaning_lists.proofs.found.occs_in_order.Goals as goal

pub returns-then-occs_ascend : goal.returns-then-occs_ascend
unfolding occs_in_order
returns-then-occs_ascend c =
    stays placed_occ (λ o. refl) c.args.occs
    (ap (λ os. ascends_from 0 (map placed_occ os)) (sym c.as_slice.ensures) ∙ sym c.occs_ascend.ensures ∙ c.if-occs_ascend.true)
