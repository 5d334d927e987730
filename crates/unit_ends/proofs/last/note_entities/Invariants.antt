use Rattle.std.proofs.Common.{◌≡◌, ◌||◌, length}
use Rattle.type_data.specs.declared.names.TagId.{TagId}
use Rattle.unit_ends.specs.Kept.{has_tag}
use Rattle.unit_ends.specs.Last.{completed}
use Rattle.unit_ends.proofs.last.note_entities.Given as goal

abbrev pub invariant-loop-entity : goal.invariant-loop-entity
invariant-loop-entity l = (q : TagId) → (has_tag l.tags q || completed q l.rest) ≡ (has_tag l.fn.tags q || completed q l.entities)

abbrev pub decreases-loop-entity : goal.decreases-loop-entity
decreases-loop-entity l = length l.rest
