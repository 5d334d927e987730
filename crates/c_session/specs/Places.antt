-- Where tokens stand, as the client reads it (LSP 3.17, Location).
use Rattle.std.specs.Prelude.{ℕ, List, [], ◌∷◌, Option, option_map, unwrap_or}
use Rattle.std.specs.List.{cons_option}
use Rattle.c_tokens.specs.Lexed.{lexed}
use Rattle.doc_texts.specs.Texts.{Texts, uri_at}
use Rattle.lsp_answers.specs.declared.located.Located.{Located}
use Rattle.plain_mean.specs.Given.{text_in}
use Rattle.plain_mean.specs.Shown.{place_of}
use Rattle.scope_tables.specs.declared.units.Symbol.{Symbol}
use Rattle.text_lines.specs.Positions.{pos_at}
use Rattle.text_lines.specs.declared.encoding.Encoding.{Encoding}
use Rattle.text_lines.specs.declared.pos.Pos.{Pos}
use Rattle.tok_data.specs.declared.sources.TokId.{TokId}
use Rattle.unit_index.specs.Symbols.{number}
use Rattle.uri_paths.specs.Paths.{path_read}
use Rattle.uri_paths.specs.Uris.{uri_of_path}

-- the URI that names a file: that of the client where it is open
unfoldable pub uri_for : Texts → List ℕ → List ℕ
uri_for texts path = unwrap_or (uri_at texts path) (uri_of_path path)

-- where a range of bytes of a text begins and ends
abbrev pub span : List ℕ → Encoding → ℕ × ℕ → Pos × Pos
span text encoding place = (pos_at text place.0 encoding, pos_at text place.1 encoding)

-- the range of a token of a text, by its number
unfoldable pub range_in : List ℕ → Encoding → ℕ → Pos × Pos
range_in text encoding at = span text encoding (place_of (lexed text).places at)

-- a token of a file, with what is written beside its place
abbrev pub shown_at : List ℕ → ℕ → List ℕ → Pos × Pos → Located
shown_at uri kind name range = record { uri = uri; start = range.0; end = range.1; kind = kind; name = name }

abbrev pub at_path : Texts → Encoding → ℕ → List ℕ → ℕ → List ℕ → Located
at_path texts encoding kind name at path = shown_at (uri_for texts path) kind name (range_in (text_in texts path) encoding at)

-- none where its text is that of no path, as a library's
unfoldable pub located : Texts → Encoding → ℕ → List ℕ → TokId → Option Located
located texts encoding kind name t = option_map (at_path texts encoding kind name t.at) (path_read t.file)

-- as a place alone
abbrev pub mention : Texts → Encoding → TokId → Option Located
mention texts encoding t = located texts encoding 0 [] t

-- with its name and symbol kind
abbrev pub symbol : Texts → Encoding → Symbol → Option Located
symbol texts encoding s = located texts encoding (number s.kind) s.name s.tok

-- what some have of those that have it
abbrev pub gathered : {A B : Type 0} → (A → Option B) → List A → List B
gathered f [] = []
gathered f (x ∷ xs) = cons_option (f x) (gathered f xs)
