use Rattle.std.proofs.Common.{◌≡◌, ◌++◌}
use Rattle.meaning_lists.specs.Order.{by_place}
use Rattle.meaning_lists.proofs.Placing.{IsPlaced}
use Rattle.meaning_lists.proofs.order.sorted.Given as goal

abbrev pub invariant-items : goal.invariant-items
invariant-items g l = IsPlaced l.placed.entries l.item-iterator.rest.items l.fn.items.items

abbrev pub invariant-out : goal.invariant-out
invariant-out g l = l.out.items ++ l.item-iterator ≡ by_place l.fn.items.items
