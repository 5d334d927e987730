use Rattle.std.proofs.Common.{◌≡◌, ◌||◌, ℕ, List, length}
use Rattle.unit_ends.specs.Ends.{bodies_use}
use Rattle.unit_ends.specs.Kept.{has}
use Rattle.unit_ends.proofs.names.note_bodies.Given as goal

abbrev pub invariant-loop-body : goal.invariant-loop-body
invariant-loop-body l = (q : List ℕ) → (has l.names q || bodies_use q l.rest) ≡ (has l.fn.names q || bodies_use q l.bodies)

abbrev pub decreases-loop-body : goal.decreases-loop-body
decreases-loop-body l = length l.rest
