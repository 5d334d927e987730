use Rattle.std.proofs.Common.{◌≡◌, length}
use Rattle.meaning_lists.specs.Order.{ascends_from}
use Rattle.meaning_lists.proofs.order.ascends.Given as goal

abbrev pub invariant-items : goal.invariant-items
invariant-items g l = ascends_from l.last l.rest ≡ ascends_from 0 l.items

abbrev pub decreases-items : goal.decreases-items
decreases-items g l = length l.rest
