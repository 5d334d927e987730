use Rattle.std.proofs.Common.{◌≡◌, ◌||◌, length}
use Rattle.std.specs.List.{list_any}
use Rattle.tok_data.specs.declared.sources.TokId.{TokId}
use Rattle.unit_index.specs.Introduced.{brings}
use Rattle.unit_index.specs.Sets.{has_tok}
use Rattle.unit_index.proofs.introduced.note_group.Given as goal

abbrev pub invariant-tokens : goal.invariant-tokens
invariant-tokens l = (q : TokId) → (has_tok l.found q || list_any (brings l.unit q) l.rest) ≡ (has_tok l.fn.found q || list_any (brings l.unit q) l.group)

abbrev pub decreases-tokens : goal.decreases-tokens
decreases-tokens l = length l.rest
