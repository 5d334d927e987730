use Rattle.std.proofs.Common.{◌≡◌, ◌||◌, length}
use Rattle.std.specs.List.{filter, list_any}
use Rattle.tok_data.specs.declared.sources.TokId.{TokId}
use Rattle.unit_index.specs.Occurrences.{is_of}
use Rattle.unit_index.specs.Sets.{has_tok}
use Rattle.unit_index.specs.Shared.{gives}
use Rattle.unit_index.proofs.shared.add_mentions_in.Given as goal

abbrev pub invariant-occs : goal.invariant-occs
invariant-occs l = (q : TokId) → (has_tok l.tokens q || list_any (gives l.asked q) l.walk) ≡ (has_tok l.fn.tokens q || list_any (gives l.asked q) (filter (is_of l.anchor) l.piece))

abbrev pub decreases-occs : goal.decreases-occs
decreases-occs l = length l.walk
