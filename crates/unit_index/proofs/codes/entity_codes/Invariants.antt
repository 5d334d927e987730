use Rattle.std.proofs.Common.{◌≡◌, ◌++◌, map, length}
use Rattle.unit_index.specs.Codes.{by_name}
use Rattle.unit_index.proofs.codes.entity_codes.Given as goal

abbrev pub invariant-entities : goal.invariant-entities
invariant-entities l = l.codes.items ++ map by_name l.rest ≡ map by_name l.entities

abbrev pub decreases-entities : goal.decreases-entities
decreases-entities l = length l.rest
