use Rattle.std.proofs.Common.{◌≡◌, ◌++◌, map}
use Rattle.meaning_lists.specs.Firsts.{placed_entity}
use Rattle.meaning_lists.proofs.firsts.placed_entities.Given as goal

abbrev pub invariant-entities : goal.invariant-entities
invariant-entities l = l.out.items ++ map (placed_entity l.firsts) l.entity-iterator.rest.items ≡ map (placed_entity l.fn.firsts) l.fn.entities.items
