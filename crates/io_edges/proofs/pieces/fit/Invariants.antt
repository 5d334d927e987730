use Rattle.std.proofs.Common.{◌≡◌, ◌+◌, length, map}
use Rattle.std.specs.List.{concat}
use Rattle.io_edges.proofs.pieces.fit.Given as goal

abbrev pub invariant-loop-piece : goal.invariant-loop-piece
invariant-loop-piece l = l.room + length (concat (map (λ p. p.items) l.pieces)) ≡ 4294967296 + length (concat (map (λ p. p.items) l.rest))

abbrev pub decreases-loop-piece : goal.decreases-loop-piece
decreases-loop-piece l = length l.rest
