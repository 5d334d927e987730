use Rattle.std.proofs.Common.{◌≡◌, ◌||◌, length}
use Rattle.std.specs.List.{filter, list_any}
use Rattle.scope_tables.specs.declared.entities.Anchor.{Anchor}
use Rattle.scope_tables.specs.Occurrences.{is_at}
use Rattle.unit_index.specs.Sets.{has_anchor}
use Rattle.unit_index.specs.Shared.{is_under}
use Rattle.unit_index.proofs.shared.add_anchors_in.Given as goal

abbrev pub invariant-occs : goal.invariant-occs
invariant-occs l = (q : Anchor) → (has_anchor l.anchors q || list_any (is_under q) l.walk) ≡ (has_anchor l.fn.anchors q || list_any (is_under q) (filter (is_at l.tok) l.piece))

abbrev pub decreases-occs : goal.decreases-occs
decreases-occs l = length l.walk
