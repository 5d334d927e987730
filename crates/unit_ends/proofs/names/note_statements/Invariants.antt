use Rattle.std.proofs.Common.{◌≡◌, ◌||◌, ℕ, List, length}
use Rattle.unit_ends.specs.Ends.{states}
use Rattle.unit_ends.specs.Kept.{asks, has}
use Rattle.unit_ends.proofs.names.note_statements.Given as goal

abbrev pub invariant-loop-stated : goal.invariant-loop-stated
invariant-loop-stated l = (q : List ℕ) → (has l.names q || states (asks l.asked) q l.rest) ≡ (has l.fn.names q || states (asks l.asked) q l.list)

abbrev pub decreases-loop-stated : goal.decreases-loop-stated
decreases-loop-stated l = length l.rest
