use Rattle.std.proofs.Common.{◌≡◌, ◌||◌, ℕ, List, length}
use Rattle.unit_ends.specs.Ends.{declare_external}
use Rattle.unit_ends.specs.Kept.{has}
use Rattle.unit_ends.proofs.names.note_externals.Given as goal

abbrev pub invariant-loop-entity : goal.invariant-loop-entity
invariant-loop-entity l = (q : List ℕ) → (has l.names q || declare_external q l.rest) ≡ (has l.fn.names q || declare_external q l.entities)

abbrev pub decreases-loop-entity : goal.decreases-loop-entity
decreases-loop-entity l = length l.rest
