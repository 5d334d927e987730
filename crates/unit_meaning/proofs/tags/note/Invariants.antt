use Rattle.std.proofs.Common.{◌≡◌, length}
use Rattle.unit_meaning.specs.Tags.{noted}
use Rattle.unit_meaning.proofs.tags.note.Given as goal

abbrev pub invariant-entities : goal.invariant-entities
invariant-entities l = noted l.tags l.rest ≡ noted l.fn.tags l.entities

abbrev pub decreases-entities : goal.decreases-entities
decreases-entities l = length l.rest
