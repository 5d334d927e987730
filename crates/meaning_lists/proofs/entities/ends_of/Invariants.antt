use Rattle.std.proofs.Common.{◌≡◌}
use Rattle.meaning_lists.specs.Entities.{none_last, with_all}
use Rattle.meaning_lists.proofs.entities.ends_of.Given as goal

abbrev pub invariant-entities : goal.invariant-entities
invariant-entities l = with_all l.lasts l.entity-iterator.rest.items ≡ with_all none_last l.fn.entities.items
