use Rattle.std.proofs.Common.{◌≡◌, ◌++◌}
use Rattle.meaning_lists.specs.Entities.{last_entities}
use Rattle.meaning_lists.proofs.entities.last_entities.Given as goal

abbrev pub invariant-lasts : goal.invariant-lasts
invariant-lasts l = l.out.items ++ l.entity-iterator ≡ last_entities l.fn.entities.items
