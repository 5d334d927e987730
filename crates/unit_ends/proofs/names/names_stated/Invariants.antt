use Rattle.std.proofs.Common.{◌≡◌, ◌||◌, ℕ, List, length}
use Rattle.unit_ends.specs.Ends.{stated}
use Rattle.unit_ends.specs.Kept.{asks, has}
use Rattle.unit_ends.proofs.names.names_stated.Given as goal

abbrev pub invariant-loop-head : goal.invariant-loop-head
invariant-loop-head l = (q : List ℕ) → (has l.names q || stated (asks l.asked) q l.rest) ≡ stated (asks l.asked) q l.heads

abbrev pub decreases-loop-head : goal.decreases-loop-head
decreases-loop-head l = length l.rest
