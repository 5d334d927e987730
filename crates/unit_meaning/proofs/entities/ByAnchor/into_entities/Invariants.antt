use Rattle.std.proofs.Common.{◌≡◌, ◌++◌}
use Rattle.std.specs.Map.{values_of}
use Rattle.unit_meaning.proofs.entities.ByAnchor.into_entities.Given as goal

abbrev pub invariant-entities : goal.invariant-entities
invariant-entities l = l.out.items ++ l.entity-iterator ≡ values_of l.fn.self
