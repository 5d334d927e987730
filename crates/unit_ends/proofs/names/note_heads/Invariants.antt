use Rattle.std.proofs.Common.{◌≡◌, ◌||◌, ℕ, List, length}
use Rattle.unit_ends.specs.Ends.{heads_use}
use Rattle.unit_ends.specs.Kept.{has}
use Rattle.unit_ends.proofs.names.note_heads.Given as goal

abbrev pub invariant-loop-head : goal.invariant-loop-head
invariant-loop-head l = (q : List ℕ) → (has l.names q || heads_use q l.rest) ≡ (has l.fn.names q || heads_use q l.heads)

abbrev pub decreases-loop-head : goal.decreases-loop-head
decreases-loop-head l = length l.rest
