use Rattle.std.proofs.Common.{◌≡◌, ◌||◌, length}
use Rattle.std.specs.List.{filter, list_any}
use Rattle.scope_tables.specs.declared.entities.Anchor.{Anchor}
use Rattle.scope_tables.specs.Occurrences.{is_at}
use Rattle.unit_index.specs.Occurrences.{occs_of}
use Rattle.unit_index.specs.Sets.{has_anchor}
use Rattle.unit_index.specs.Shared.{is_under}
use Rattle.unit_index.proofs.shared.add_anchors.Given as goal

abbrev pub invariant-pieces : goal.invariant-pieces
invariant-pieces l = (q : Anchor) → (has_anchor l.anchors q || list_any (λ p. list_any (is_under q) (filter (is_at l.tok) p.value)) l.rest) ≡ (has_anchor l.fn.anchors q || list_any (is_under q) (filter (is_at l.tok) (occs_of l.unit)))

abbrev pub decreases-pieces : goal.decreases-pieces
decreases-pieces l = length l.rest
