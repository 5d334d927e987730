use Rattle.std.proofs.Common.{◌≡◌, ℕ, List, length}
use Rattle.scope_tables.specs.Scopes.{or_outside}
use Rattle.unit_ends.specs.Kept.{at}
use Rattle.unit_ends.specs.Last.{last_here}
use Rattle.unit_ends.proofs.last.bind_all.Given as goal

abbrev pub invariant-loop-binding : goal.invariant-loop-binding
invariant-loop-binding l = (q : List ℕ) → or_outside (last_here q l.rest) (at l.entities q) ≡ or_outside (last_here q l.bindings) (at l.fn.entities q)

abbrev pub decreases-loop-binding : goal.decreases-loop-binding
decreases-loop-binding l = length l.rest
