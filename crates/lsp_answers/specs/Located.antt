-- What the questions about a text are answered with (LSP 3.17: Hover, Location, SymbolInformation, TextEdit).
use Rattle.std.specs.Prelude.{ℕ, List, map, codes}
use Rattle.serde_json.specs.Data.{Data, number, string, object, array, unsigned, no_members, member}
use Rattle.serde_json.specs.View.{items_of}
use Rattle.text_lines.specs.declared.pos.Pos.{Pos}
use Rattle.lsp_answers.specs.Places.{range_data}
use Rattle.lsp_answers.specs.declared.located.Located.{Located}

-- a Hover in plain text
abbrev pub hover_data : List ℕ → Pos → Pos → Data
hover_data text start end = object
    (member (codes "contents") (object (member (codes "kind") (string (codes "plaintext")) (member (codes "value") (string text) no_members)))
    (member (codes "range") (range_data start end) no_members))

-- where a name may be renamed, and what it is called there
abbrev pub renamable_data : List ℕ → Pos → Pos → Data
renamable_data name start end = object (member (codes "placeholder") (string name) (member (codes "range") (range_data start end) no_members))

-- a Location
abbrev pub location_data : Located → Data
location_data t = object (member (codes "range") (range_data t.start t.end) (member (codes "uri") (string t.uri) no_members))

-- a SymbolInformation
abbrev pub symbol_data : Located → Data
symbol_data t = object
    (member (codes "kind") (number (unsigned t.kind)) (member (codes "location") (location_data t) (member (codes "name") (string t.name) no_members)))

-- a TextEdit by which a token gets a name
abbrev pub edit_data : List ℕ → Located → Data
edit_data name t = object (member (codes "newText") (string name) (member (codes "range") (range_data t.start t.end) no_members))

abbrev pub listed : (Located → Data) → List Located → Data
listed f toks = array (items_of (map f toks))
