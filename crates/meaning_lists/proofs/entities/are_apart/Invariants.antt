use Rattle.std.proofs.Common.{◌≡◌, length}
use Rattle.meaning_lists.specs.Entities.{are_apart}
use Rattle.meaning_lists.proofs.entities.are_apart.Given as goal

abbrev pub invariant-entities : goal.invariant-entities
invariant-entities l = are_apart l.rest ≡ are_apart l.fn.entities

abbrev pub decreases-entities : goal.decreases-entities
decreases-entities l = length l.rest
