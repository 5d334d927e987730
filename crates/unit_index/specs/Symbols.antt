-- What a file declares at file scope, as the first unit that reads it has it.
use Rattle.std.specs.Prelude.{ℕ, Bool, List, [], ◌∷◌, map, bytes_eq, Option, Some, None}
use Rattle.std.specs.List.{filter, find, list_any, cons_option}
use Rattle.tok_data.specs.declared.sources.TokId.{TokId}
use Rattle.scope_tables.specs.declared.units.Symbol.{Symbol}
use Rattle.scope_tables.specs.declared.units.SymbolKind.{SymbolKind}
use Rattle.scope_tables.specs.declared.units.SymbolKind.TheVariants as kind
use Rattle.unit_index.specs.Known.{Known}
use Rattle.scope_tables.specs.Occurrences.{same_tok}
use Rattle.unit_index.specs.Tokens.{in_order}

abbrev pub reads_it : List ℕ → Known → Bool
reads_it path u = list_any (λ r. bytes_eq r path) u.reads

abbrev pub in_file : List ℕ → Symbol → Bool
in_file path s = bytes_eq s.tok.file path

abbrev pub is_symbol : TokId → Symbol → Bool
is_symbol t s = same_tok s.tok t

-- what tokens have, of those that have it
abbrev pub gathered : {A : Type 0} → (TokId → Option A) → List TokId → List A
gathered f [] = []
gathered f (t ∷ ts) = cons_option (f t) (gathered f ts)

-- each token of the file once, in order, by its first symbol
abbrev pub of_file : List ℕ → List Symbol → List Symbol
of_file path ss = gathered (λ t. find (is_symbol t) ss) (in_order (map (λ s. s.tok) (filter (in_file path) ss)))

abbrev pub of_reader : List ℕ → Option Known → List Symbol
of_reader path None = []
of_reader path (Some u) = of_file path u.meaning.symbols

unfoldable pub symbols : List Known → List ℕ → List Symbol
symbols us path = of_reader path (find (reads_it path) us)

-- LSP 3.17, SymbolKind: Variable, Function, Enum, EnumMember, Struct
abbrev pub number : SymbolKind → ℕ
number kind.Object = 13
number kind.Function = 12
number kind.Enumeration = 10
number kind.Enumerator = 22
number kind.Structure = 23
