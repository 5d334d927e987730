use Rattle.std.proofs.Common.{◌≡◌, ◌||◌, ◌&&◌, length}
use Rattle.std.specs.List.{list_any}
use Rattle.tok_data.specs.declared.sources.TokId.{TokId}
use Rattle.scope_tables.specs.Occurrences.{same_tok}
use Rattle.unit_index.specs.Sets.{has_tok}
use Rattle.unit_index.specs.Symbols.{in_file}
use Rattle.unit_index.proofs.outline.tokens_in.Given as goal

abbrev pub invariant-symbols : goal.invariant-symbols
invariant-symbols l = (q : TokId) → (has_tok l.tokens q || list_any (λ s. in_file l.path s && same_tok s.tok q) l.rest) ≡ list_any (λ s. in_file l.path s && same_tok s.tok q) l.symbols

abbrev pub decreases-symbols : goal.decreases-symbols
decreases-symbols l = length l.rest
