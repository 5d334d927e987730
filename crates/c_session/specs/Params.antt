-- The params of messages (LSP 3.17): what their members are read as, or the first refusal that they show, where members are
-- read in the order in which they stand here.
use Rattle.std.specs.Prelude.{ℕ, ◌==◌, ℤ, Bool, false, List, [], ◌∷◌, codes, Option, Some, None, unwrap_or, option_and_then, Result, Ok, Err, if◌then◌else◌}
use Rattle.std.specs.Option.{option_or}
use Rattle.std.specs.Str.{bytes_eq}
use Rattle.serde_json.specs.Data.{Data, null, boolean, number, string, array, object, no_members}
use Rattle.serde_json.specs.Find.{get, as_str}
use Rattle.text_lines.specs.declared.edit.Change.{Change}
use Rattle.text_lines.specs.declared.encoding.Encoding.{Encoding}
use Rattle.text_lines.specs.declared.encoding.Encoding.TheVariants.{Utf8, Utf16, Utf32}
use Rattle.text_lines.specs.declared.pos.Pos.{Pos}
use Rattle.json_view.specs.Refusals.{Refusal, OutOfRange, and_then}
use Rattle.json_view.specs.Kinds.{text_in, array_in}
use Rattle.json_view.specs.Members.{object_in, text_of, bool_of, i32_of, u32_of, object_of, array_of, start_and_end}
use Rattle.c_session.specs.declared.params.FileChangeKind.{FileChangeKind}
use Rattle.c_session.specs.declared.params.FileChangeKind.TheVariants.{Created, Changed, Deleted}

-- a member that may be left out: null says no more than leaving it out
abbrev pub given : Option Data → Option Data
given None = None
given (Some null) = None
given (Some (boolean b)) = Some (boolean b)
given (Some (number n)) = Some (number n)
given (Some (string s)) = Some (string s)
given (Some (array ds)) = Some (array ds)
given (Some (object ms)) = Some (object ms)

-- what a member is read as, where it is there
abbrev pub optional_in : {T : Type 0} → (Data → Result T Refusal) → Option Data → Result (Option T) Refusal
optional_in kind None = Ok None
optional_in kind (Some d) = and_then (kind d) (λ x. Ok (Some x))

-- what each of some values is read as, or the refusal of the first that is refused
abbrev pub each_in : {T : Type 0} → (Data → Result T Refusal) → List Data → Result (List T) Refusal
each_in read [] = Ok []
each_in read (d ∷ ds) = and_then (read d) (λ x. and_then (each_in read ds) (λ xs. Ok (x ∷ xs)))

-- the members of the params of a message: none where there are no params (JSON-RPC 2.0, section 4.2)
abbrev pub params_of : Option Data → Result Data Refusal
params_of params = and_then (optional_in (object_in Ok (codes "params")) (given params)) (λ found. Ok (unwrap_or found (object no_members)))

-- the object that names a document (LSP 3.17, TextDocumentIdentifier)
abbrev pub document_in : Option Data → Result Data Refusal
document_in params = and_then (params_of params) (object_of (codes "textDocument"))

-- a document that is opened (LSP 3.17, DidOpenTextDocumentParams)
pub record Opening : Type 0 where
  pub uri : List ℕ
  pub version : ℤ
  pub text : List ℕ

unfoldable pub opening_in : Option Data → Result Opening Refusal
opening_in params =
    and_then (document_in params) (λ document.
    and_then (text_of (codes "uri") document) (λ uri.
    and_then (i32_of (codes "version") document) (λ version.
    and_then (text_of (codes "text") document) (λ text.
    Ok (record { uri = uri; version = version; text = text })))))

-- the range of a change, where it has one
abbrev pub change_range : Data → Result (Option (Pos × Pos)) Refusal
change_range d = optional_in (object_in start_and_end (codes "range")) (get (codes "range") d)

-- a change of a document (LSP 3.17, TextDocumentContentChangeEvent)
unfoldable pub change_in : Data → Result Change Refusal
change_in d =
    and_then (text_of (codes "text") d) (λ text.
    and_then (change_range d) (λ range.
    Ok (record { range = range; text = text })))

abbrev pub changes_in : Option Data → Result (List Change) Refusal
changes_in params =
    and_then (params_of params) (λ d.
    and_then (array_of (codes "contentChanges") d) (λ changes.
    each_in (object_in change_in (codes "contentChanges")) changes))

-- changes of a document, in order (LSP 3.17, DidChangeTextDocumentParams)
pub record Changing : Type 0 where
  pub uri : List ℕ
  pub version : ℤ
  pub changes : List Change

unfoldable pub changing_in : Option Data → Result Changing Refusal
changing_in params =
    and_then (document_in params) (λ document.
    and_then (text_of (codes "uri") document) (λ uri.
    and_then (i32_of (codes "version") document) (λ version.
    and_then (changes_in params) (λ changes.
    Ok (record { uri = uri; version = version; changes = changes })))))

-- the URI of a document that is closed (LSP 3.17, DidCloseTextDocumentParams)
abbrev pub closing_in : Option Data → Result (List ℕ) Refusal
closing_in params = and_then (document_in params) (text_of (codes "uri"))

-- a file that has changed (LSP 3.17, FileEvent)
pub record FileChange : Type 0 where
  pub uri : List ℕ
  pub kind : FileChangeKind

-- the kinds by their numbers (LSP 3.17, FileChangeType)
unfoldable pub kind_in : ℕ → Result FileChangeKind Refusal
kind_in n = if n == 1 then Ok Created else (if n == 2 then Ok Changed else (if n == 3 then Ok Deleted else Err (OutOfRange (codes "type"))))

unfoldable pub file_change_in : Data → Result FileChange Refusal
file_change_in d =
    and_then (text_of (codes "uri") d) (λ uri.
    and_then (u32_of (codes "type") d) (λ number.
    and_then (kind_in number) (λ kind.
    Ok (record { uri = uri; kind = kind }))))

-- the files that have changed, in order (LSP 3.17, DidChangeWatchedFilesParams)
abbrev pub watching_in : Option Data → Result (List FileChange) Refusal
watching_in params =
    and_then (params_of params) (λ d.
    and_then (array_of (codes "changes") d) (λ changes.
    each_in (object_in file_change_in (codes "changes")) changes))

-- the URI of the root, where there is one (LSP 3.17, InitializeParams)
abbrev pub root_uri_in : Data → Result (Option (List ℕ)) Refusal
root_uri_in d = optional_in (text_in (codes "rootUri")) (given (get (codes "rootUri") d))

-- the URIs of the folders (LSP 3.17, WorkspaceFolder)
abbrev pub folder_uri_in : Data → Result (List ℕ) Refusal
folder_uri_in d = object_in (text_of (codes "uri")) (codes "workspaceFolders") d

abbrev pub folder_uris_in : Data → Result (List (List ℕ)) Refusal
folder_uris_in d =
    and_then (optional_in (array_in (codes "workspaceFolders")) (given (get (codes "workspaceFolders") d))) (λ folders.
    each_in folder_uri_in (unwrap_or folders []))

abbrev pub first_of : {T : Type 0} → List T → Option T
first_of [] = None
first_of (x ∷ xs) = Some x

-- the encodings by their names (LSP 3.17, PositionEncodingKind)
unfoldable pub encoding_named : List ℕ → Option Encoding
encoding_named name = if bytes_eq name (codes "utf-8") then Some Utf8 else (if bytes_eq name (codes "utf-16") then Some Utf16 else (if bytes_eq name (codes "utf-32") then Some Utf32 else None))

-- the first of some offers that names an encoding
abbrev pub first_named : List Data → Option Encoding
first_named [] = None
first_named (d ∷ ds) = option_or (option_and_then encoding_named (as_str d)) (first_named ds)

-- the encodings that the client offers (LSP 3.17, GeneralClientCapabilities)
abbrev pub offers_in : Data → Result (List Data) Refusal
offers_in d =
    and_then (object_of (codes "capabilities") d) (λ capabilities.
    and_then (object_of (codes "general") capabilities) (λ general.
    array_of (codes "positionEncodings") general))

-- the encoding of positions: UTF-16, where nothing that can be read offers another
abbrev pub chosen : Result (List Data) Refusal → Encoding
chosen (Ok offers) = unwrap_or (first_named offers) Utf16
chosen (Err refusal) = Utf16

-- whether the client can ask if a name may be renamed (LSP 3.17, RenameClientCapabilities)
abbrev pub support_in : Data → Result Bool Refusal
support_in d =
    and_then (object_of (codes "capabilities") d) (λ capabilities.
    and_then (object_of (codes "textDocument") capabilities) (λ document.
    and_then (object_of (codes "rename") document) (λ rename.
    bool_of (codes "prepareSupport") rename)))

-- it can't, where nothing that can be read says so
abbrev pub can_prepare : Result Bool Refusal → Bool
can_prepare (Ok can) = can
can_prepare (Err refusal) = false

-- what a session begins with (LSP 3.17, InitializeParams)
pub record Starting : Type 0 where
  -- the URI of the root, else of the first folder
  pub root : Option (List ℕ)
  pub encoding : Encoding
  -- the client can ask whether a name may be renamed
  pub prepare : Bool

unfoldable pub starting_in : Option Data → Result Starting Refusal
starting_in params =
    and_then (params_of params) (λ d.
    and_then (root_uri_in d) (λ root.
    and_then (folder_uris_in d) (λ folders.
    Ok (record { root = option_or root (first_of folders); encoding = chosen (offers_in d); prepare = can_prepare (support_in d) }))))
