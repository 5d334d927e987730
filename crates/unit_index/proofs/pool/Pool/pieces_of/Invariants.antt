use Rattle.std.proofs.Common.{◌≡◌, ◌++◌, length}
use Rattle.std.specs.List.{flat_map}
use Rattle.unit_index.proofs.pool.Pool.pieces_of.Given as goal

abbrev pub invariant-runs : goal.invariant-runs
invariant-runs l = flat_map (λ p. p.value) l.pieces.items ++ l.rest ≡ l.fn.occs

abbrev pub decreases-runs : goal.decreases-runs
decreases-runs l = length l.rest
