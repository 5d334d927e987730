-- The tokens of a file's symbols.
use Rattle.std.proofs.Common.{◌≡◌, ℕ, Bool, true, false, ◌&&◌, List, refl, sym, ◌∙◌}
use Rattle.std.specs.Prelude.{map}
use Rattle.std.specs.List.{filter, list_any}
use Rattle.tok_data.specs.declared.sources.TokId.{TokId}
use Rattle.scope_tables.specs.declared.units.Symbol.{Symbol}
use Rattle.scope_tables.specs.Occurrences.{same_tok}
use Rattle.unit_index.specs.Symbols.{in_file}
use Rattle.unit_index.proofs.SharedLemmas.{any_map, any_filter, any_same}

turned : (a b : Bool) → a && b ≡ b && a
turned true true = refl
turned true false = refl
turned false true = refl
turned false false = refl

pub symbols_have : (path : List ℕ) (q : TokId) (ss : List Symbol) → list_any (λ s. in_file path s && same_tok s.tok q) ss ≡ list_any (λ t. same_tok t q) (map (λ s. s.tok) (filter (in_file path) ss))
symbols_have path q ss =
    any_same (λ s. in_file path s && same_tok s.tok q) (λ s. same_tok s.tok q && in_file path s) (λ s. turned (in_file path s) (same_tok s.tok q)) ss
    ∙ sym (any_filter (λ s. same_tok s.tok q) (in_file path) ss)
    ∙ sym (any_map (λ t. same_tok t q) (λ s. s.tok) (filter (in_file path) ss))
