-- The bytes of each answer: JSON-RPC 2.0 in the base protocol of LSP 3.17.
use Rattle.std.specs.Prelude.{◌≡◌, ℤ, Bool, List, ℕ, codes, Option, None, Some, false, true}
use Rattle.serde_json.specs.Data.{Data, null, boolean, number, string, object, unsigned, no_members, member}
use Rattle.serde_json.specs.Find.{of_integer}
use Rattle.serde_json.specs.Written.{compact_text}
use Rattle.text_lines.specs.declared.encoding.Encoding.{Encoding}
use Rattle.text_lines.specs.declared.encoding.Encoding.TheVariants.{Utf8, Utf16, Utf32}
use Rattle.frame_form.specs.Written.{framed}
use Rattle.json_view.specs.declared.id.Id.{Id}
use Rattle.json_view.specs.declared.id.Id.TheVariants.{Text, Int, Big}

abbrev pub id_data : Id → Data
id_data (Text text) = string text
id_data (Int z) = number (of_integer z)
id_data (Big n) = number (unsigned n)

-- an id that may not be known is null
abbrev pub id_or_null : Option Id → Data
id_or_null None = null
id_or_null (Some id) = id_data id

-- a response with a result
abbrev pub response_data : Data → Data → Data
response_data id result = object
    (member (codes "id") id (member (codes "jsonrpc") (string (codes "2.0")) (member (codes "result") result no_members)))

-- a response with an error
abbrev pub error_data : Data → ℤ → List ℕ → Data
error_data id code text = object
    (member (codes "error") (object (member (codes "code") (number (of_integer code)) (member (codes "message") (string text) no_members)))
    (member (codes "id") id (member (codes "jsonrpc") (string (codes "2.0")) no_members)))

-- the notification `window/logMessage` of type 1, an error
abbrev pub log_data : List ℕ → Data
log_data text = object
    (member (codes "jsonrpc") (string (codes "2.0"))
    (member (codes "method") (string (codes "window/logMessage"))
    (member (codes "params") (object (member (codes "message") (string text) (member (codes "type") (number (unsigned 1)) no_members))) no_members)))

-- the name of a position encoding (LSP 3.17, PositionEncodingKind)
abbrev pub encoding_name : Encoding → List ℕ
encoding_name Utf8 = codes "utf-8"
encoding_name Utf16 = codes "utf-16"
encoding_name Utf32 = codes "utf-32"

-- names are renamed, and where the client can ask for it, it is told beforehand whether one may be (LSP 3.17, RenameOptions)
abbrev pub rename_provider : Bool → Data
rename_provider true = object (member (codes "prepareProvider") (boolean true) no_members)
rename_provider false = boolean true

-- the result of `initialize`: which questions are answered, the encoding of positions, and that documents are opened, changed part by part, and
-- closed
abbrev pub initialize_result : Encoding → Bool → Data
initialize_result encoding prepare = object (member (codes "capabilities") (object
    (member (codes "definitionProvider") (boolean true)
    (member (codes "documentSymbolProvider") (boolean true)
    (member (codes "hoverProvider") (boolean true)
    (member (codes "positionEncoding") (string (encoding_name encoding))
    (member (codes "referencesProvider") (boolean true)
    (member (codes "renameProvider") (rename_provider prepare)
    (member (codes "textDocumentSync") (object (member (codes "change") (number (unsigned 2)) (member (codes "openClose") (boolean true) no_members))) no_members)))))))) no_members)

unfoldable pub response : Id → Data → List ℕ
response id result = framed (compact_text (response_data (id_data id) result))

-- a response with a result whose text is known
abbrev pub IsResponse : Id → List ℕ → List ℕ → Type 0
IsResponse id text bytes = (result : Data) → text ≡ compact_text result → bytes ≡ response id result

unfoldable pub error : Option Id → ℤ → List ℕ → List ℕ
error id code text = framed (compact_text (error_data (id_or_null id) code text))

unfoldable pub log : List ℕ → List ℕ
log text = framed (compact_text (log_data text))
