use Rattle.std.proofs.Common.{◌≡◌, ◌||◌, ℕ, List, length}
use Rattle.unit_ends.specs.Ends.{uses}
use Rattle.unit_ends.specs.Kept.{has}
use Rattle.unit_ends.proofs.names.note_all.Given as goal

abbrev pub invariant-loop-name : goal.invariant-loop-name
invariant-loop-name l = (q : List ℕ) → (has l.names q || uses q l.rest) ≡ (has l.fn.names q || uses q l.used)

abbrev pub decreases-loop-name : goal.decreases-loop-name
decreases-loop-name l = length l.rest
