use Rattle.std.proofs.Common.{◌≡◌, ◌≤◌, length}
use Rattle.type_rel.specs.Layout.{placed}
use Rattle.type_rel.proofs.LayoutLemmas.{together}
use Rattle.type_rel.proofs.placement.layout.Given as goal

abbrev pub invariant-loop-member : goal.invariant-loop-member
invariant-loop-member l =
    (together l.offsets.items (placed l.tags l.union l.at l.align l.rest) ≡ placed l.tags l.union 0 1 l.members)
    × (l.at ≤ 9223372036854775800) × (1 ≤ l.align)

abbrev pub decreases-loop-member : goal.decreases-loop-member
decreases-loop-member l = length l.rest
