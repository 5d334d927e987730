use Rattle.std.proofs.Common.{◌≡◌, ◌||◌, length}
use Rattle.std.specs.List.{filter, list_any}
use Rattle.tok_data.specs.declared.sources.TokId.{TokId}
use Rattle.unit_index.specs.Occurrences.{is_of, occs_of}
use Rattle.unit_index.specs.Sets.{has_tok}
use Rattle.unit_index.specs.Shared.{gives}
use Rattle.unit_index.proofs.shared.mentions.Given as goal

abbrev pub invariant-units : goal.invariant-units
invariant-units l = (q : TokId) → (has_tok l.tokens q || list_any (λ u. list_any (λ a. list_any (gives l.asked q) (filter (is_of a) (occs_of u))) l.anchors) l.rest) ≡ list_any (λ u. list_any (λ a. list_any (gives l.asked q) (filter (is_of a) (occs_of u))) l.anchors) l.units

abbrev pub decreases-units : goal.decreases-units
decreases-units l = length l.rest
