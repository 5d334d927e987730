use Rattle.std.proofs.Common.{◌≡◌, ◌-◌, ◌≤◌, drop, length, map}
use Rattle.io_edges.specs.Memory.{skip_empty, cut_head, head_piece}
use Rattle.io_edges.proofs.pieces.Pieces.skip_empty.Given as goal

abbrev pub invariant-loop-self : goal.invariant-loop-self
invariant-loop-self l = record {
  skipped : skip_empty (cut_head l.self-inside.at (drop l.self-inside.next (map (λ p. p.items) l.self-inside.pieces.items))) ≡ skip_empty l.fn.self;
  within : l.self-inside.at ≤ length (head_piece (drop l.self-inside.next (map (λ p. p.items) l.self-inside.pieces.items)));
}

abbrev pub decreases-loop-self : goal.decreases-loop-self
decreases-loop-self l = length l.self-inside.pieces.items - l.self-inside.next
