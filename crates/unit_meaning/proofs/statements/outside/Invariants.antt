use Rattle.std.proofs.Common.{◌≡◌, ◌||◌, ℕ, List, is_some, length}
use Rattle.unit_meaning.specs.Kept.{has}
use Rattle.unit_meaning.specs.Exports.{outside}
use Rattle.unit_meaning.proofs.statements.outside.Given as goal

abbrev pub invariant-heads : goal.invariant-heads
invariant-heads l = (q : List ℕ) → (has l.names q || is_some (outside q l.rest)) ≡ is_some (outside q l.heads)

abbrev pub decreases-heads : goal.decreases-heads
decreases-heads l = length l.rest
