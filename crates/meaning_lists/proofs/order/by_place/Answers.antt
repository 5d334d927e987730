use Rattle.std.proofs.Common.{ap, sym, ◌∙◌}
use Rattle.meaning_lists.specs.Order.{ascends_from}
use Rattle.meaning_lists.proofs.InOrder.{in_order}
use Rattle.meaning_lists.proofs.order.by_place.Goals as goal

pub returns-then-ascends : goal.returns-then-ascends
returns-then-ascends g c =
    c.in_ok-out.ensures
    ∙ in_order c.args.items.items (ap (ascends_from 0) (sym c.as_slice.ensures.value) ∙ sym c.ascends.ensures ∙ c.if-ascends.true)
