use Rattle.std.proofs.Common.{◌≡◌, length, map}
use Rattle.meaning_lists.specs.Firsts.{placed_entity}
use Rattle.meaning_lists.specs.Order.{ascends_from}
use Rattle.meaning_lists.proofs.firsts.entities_ascend.Given as goal

abbrev pub invariant-entities : goal.invariant-entities
invariant-entities l = ascends_from l.last (map (placed_entity l.fn.firsts) l.rest) ≡ ascends_from 0 (map (placed_entity l.fn.firsts) l.fn.entities)

abbrev pub decreases-entities : goal.decreases-entities
decreases-entities l = length l.rest
