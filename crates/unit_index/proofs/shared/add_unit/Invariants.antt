use Rattle.std.proofs.Common.{◌≡◌, ◌||◌, length}
use Rattle.std.specs.List.{filter, list_any}
use Rattle.tok_data.specs.declared.sources.TokId.{TokId}
use Rattle.unit_index.specs.Occurrences.{is_of, occs_of}
use Rattle.unit_index.specs.Sets.{has_tok}
use Rattle.unit_index.specs.Shared.{gives}
use Rattle.unit_index.proofs.shared.add_unit.Given as goal

abbrev pub invariant-anchors : goal.invariant-anchors
invariant-anchors l = (q : TokId) → (has_tok l.tokens q || list_any (λ a. list_any (gives l.asked q) (filter (is_of a) (occs_of l.unit))) l.rest) ≡ (has_tok l.fn.tokens q || list_any (λ a. list_any (gives l.asked q) (filter (is_of a) (occs_of l.unit))) l.anchors)

abbrev pub decreases-anchors : goal.decreases-anchors
decreases-anchors l = length l.rest
