use Rattle.std.proofs.Common.{◌≡◌, map, ◌++◌}
use Rattle.meaning_lists.proofs.order.unplaced.Given as goal

abbrev pub invariant-items : goal.invariant-items
invariant-items g l = l.out.items ++ map (λ p. p.1) l.item-iterator.rest.items ≡ map (λ p. p.1) l.fn.items.items
