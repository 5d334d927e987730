use Rattle.std.proofs.Common.{refl, ap, sym, ◌∙◌, map}
use Rattle.meaning_lists.specs.Bindings.{last_bindings}
use Rattle.meaning_lists.specs.Firsts.{placed_binding}
use Rattle.meaning_lists.specs.Found.{bindings_in_order}
use Rattle.meaning_lists.specs.Order.{ascends_from, by_place}
use Rattle.meaning_lists.proofs.InOrder.{stays}
use Rattle.meaning_lists.proofs.found.bindings_in_order.Goals as goal

pub returns-then-bindings_ascend : goal.returns-then-bindings_ascend
unfolding bindings_in_order
returns-then-bindings_ascend c =
    c.from_vec.ensures
    ∙ stays (placed_binding c.args.firsts.now) (λ b. refl) c.in_ok-last.last.items
    (ap (λ bs. ascends_from 0 (map (placed_binding c.args.firsts.now) bs)) (sym c.as_slice.ensures.value) ∙ sym c.bindings_ascend.ensures ∙ c.if-bindings_ascend.true)
    ∙ ap (λ bs. by_place (map (placed_binding c.args.firsts.now) bs)) (c.in_ok-last.ensures ∙ ap last_bindings c.into_vec.ensures)
