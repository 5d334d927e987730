use Rattle.std.proofs.Common.{◌≡◌, length, map}
use Rattle.meaning_lists.specs.Firsts.{placed_binding}
use Rattle.meaning_lists.specs.Order.{ascends_from}
use Rattle.meaning_lists.proofs.firsts.bindings_ascend.Given as goal

abbrev pub invariant-bindings : goal.invariant-bindings
invariant-bindings l = ascends_from l.last (map (placed_binding l.fn.firsts) l.rest) ≡ ascends_from 0 (map (placed_binding l.fn.firsts) l.fn.bindings)

abbrev pub decreases-bindings : goal.decreases-bindings
decreases-bindings l = length l.rest
