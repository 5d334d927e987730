use Rattle.std.proofs.Common.{◌≡◌, ℕ, List, length}
use Rattle.scope_tables.specs.Scopes.{or_outside}
use Rattle.unit_ends.specs.Kept.{at}
use Rattle.unit_ends.specs.Last.{last}
use Rattle.unit_ends.proofs.last.entities_at_end.Given as goal

abbrev pub invariant-loop-head : goal.invariant-loop-head
invariant-loop-head l = (q : List ℕ) → or_outside (last q l.rest) (at l.entities q) ≡ last q l.heads

abbrev pub decreases-loop-head : goal.decreases-loop-head
decreases-loop-head l = length l.rest
