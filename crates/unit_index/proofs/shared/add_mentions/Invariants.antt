use Rattle.std.proofs.Common.{◌≡◌, ◌||◌, length}
use Rattle.std.specs.List.{filter, list_any}
use Rattle.tok_data.specs.declared.sources.TokId.{TokId}
use Rattle.unit_index.specs.Occurrences.{is_of, occs_of}
use Rattle.unit_index.specs.Sets.{has_tok}
use Rattle.unit_index.specs.Shared.{gives}
use Rattle.unit_index.proofs.shared.add_mentions.Given as goal

abbrev pub invariant-pieces : goal.invariant-pieces
invariant-pieces l = (q : TokId) → (has_tok l.tokens q || list_any (λ p. list_any (gives l.asked q) (filter (is_of l.anchor) p.value)) l.rest) ≡ (has_tok l.fn.tokens q || list_any (gives l.asked q) (filter (is_of l.anchor) (occs_of l.unit)))

abbrev pub decreases-pieces : goal.decreases-pieces
decreases-pieces l = length l.rest
