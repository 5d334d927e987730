use Rattle.std.proofs.Common.{◌≡◌, ◌+◌, length, map}
use Rattle.std.specs.List.{concat}
use Rattle.io_edges.proofs.pieces.count_bytes.Given as goal

abbrev pub invariant-loop-piece : goal.invariant-loop-piece
invariant-loop-piece l = l.count + length (concat (map (λ p. p.items) l.rest)) ≡ length (concat (map (λ p. p.items) l.pieces))

abbrev pub decreases-loop-piece : goal.decreases-loop-piece
decreases-loop-piece l = length l.rest
