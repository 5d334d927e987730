use Rattle.std.proofs.Common.{◌≡◌, ◌||◌, length}
use Rattle.std.specs.List.{filter, list_any}
use Rattle.scope_tables.specs.declared.entities.Anchor.{Anchor}
use Rattle.scope_tables.specs.Occurrences.{is_at}
use Rattle.unit_index.specs.Occurrences.{occs_of}
use Rattle.unit_index.specs.Sets.{has_anchor}
use Rattle.unit_index.specs.Shared.{is_under}
use Rattle.unit_index.proofs.shared.anchors_of.Given as goal

abbrev pub invariant-units : goal.invariant-units
invariant-units l = (q : Anchor) → (has_anchor l.anchors q || list_any (λ u. list_any (is_under q) (filter (is_at l.tok) (occs_of u))) l.rest) ≡ list_any (λ u. list_any (is_under q) (filter (is_at l.tok) (occs_of u))) l.units

abbrev pub decreases-units : goal.decreases-units
decreases-units l = length l.rest
