-- What each call makes of the texts, or the first reason why it changes nothing.
use Rattle.std.specs.Prelude.{◌≡◌, ◌≢◌, ℕ, nat_lt, ℤ, Bool, false, not, List, [], ◌∷◌, length, codes, Option, Some, None, Result, Ok, Err, if◌then◌else◌}
use Rattle.std.specs.FinMap.{get, contains_key}
use Rattle.std.specs.Str.{is_utf8}
use Rattle.text_lines.specs.declared.edit.Change.{Change}
use Rattle.text_lines.specs.declared.encoding.Encoding.{Encoding}
use Rattle.text_lines.specs.declared.pos.Pos.{Pos}
use Rattle.text_lines.specs.Edits.{edited}
use Rattle.text_lines.specs.Positions.{offset_of}
use Rattle.uri_paths.specs.Paths.{under}
use Rattle.doc_texts.specs.declared.error.DocError.{DocError}
use Rattle.doc_texts.specs.declared.error.DocError.TheVariants.{AlreadyOpen, NotOpen, Reversed, TooLong, TooManyFiles, OutsideRoot, TooMuchText, NotText, NoMemory}
use Rattle.doc_texts.specs.Limits.{most_files, longest_text, most_bytes}
use Rattle.doc_texts.specs.Texts.{Texts, OpenText, file_count, byte_count, with_disk, without_disk, with_open, without_open}

-- ---- limits

-- what is given, where so many files and so many bytes of texts keep the limits
unfoldable pub allowed : {X : Type 0} → ℕ → ℕ → X → Result X DocError
allowed files bytes x =
    if nat_lt most_files files then Err TooManyFiles
    else (if nat_lt most_bytes bytes then Err TooMuchText
    else Ok x)

abbrev pub fits : Texts → Result Texts DocError
fits t = allowed (file_count t) (byte_count t) t

abbrev pub is_beyond : Option (List ℕ) → List ℕ → Bool
is_beyond None path = false
is_beyond (Some root) path = not (under root path)

-- there is a root, and the path isn't under it
abbrev pub is_outside : Texts → List ℕ → Bool
is_outside t path = is_beyond t.root path

-- ---- texts on disk

-- the texts with these bytes on disk, or with none there
unfoldable pub with_bytes : Texts → List ℕ → Option (List ℕ) → Result Texts DocError
with_bytes t path None = Ok (without_disk t path)
with_bytes t path (Some bytes) =
    if not (is_utf8 bytes) then Err NotText
    else (if nat_lt longest_text (length bytes) then Err TooLong
    else fits (with_disk t path bytes))

unfoldable pub loaded : Texts → List ℕ → Option (List ℕ) → Result Texts DocError
loaded t path bytes = if is_outside t path then Err OutsideRoot else with_bytes t path bytes

-- ---- open texts

-- LSP 3.17, textDocument/didOpen
unfoldable pub opened : Texts → List ℕ → List ℕ → ℤ → List ℕ → Result Texts DocError
opened t path uri version text =
    if is_outside t path then Err OutsideRoot
    else (if contains_key t.opened path then Err AlreadyOpen
    else (if nat_lt longest_text (length text) then Err TooLong
    else fits (with_open t path (record { uri = uri; version = version; text = text }))))

-- the range's end lies before its start, by their offsets
abbrev pub ends_before : List ℕ → Encoding → Option (Pos × Pos) → Bool
ends_before text enc None = false
ends_before text enc (Some range) = nat_lt (offset_of text range.1 enc) (offset_of text range.0 enc)

-- each change in turn, made in the text that the one before left
unfoldable pub all_edited : List ℕ → List Change → Encoding → Result (List ℕ) DocError
all_edited text [] enc = Ok text
all_edited text (change ∷ rest) enc =
    if ends_before text enc change.range then Err Reversed
    else (if nat_lt longest_text (length (edited text change enc)) then Err TooLong
    else all_edited (edited text change enc) rest enc)

abbrev pub with_text : Texts → List ℕ → List ℕ → ℤ → Result (List ℕ) DocError → Result Texts DocError
with_text t path uri version (Ok text) = fits (with_open t path (record { uri = uri; version = version; text = text }))
with_text t path uri version (Err e) = Err e

-- a document that changes keeps the URI that it was opened with
abbrev pub with_changes : Texts → List ℕ → ℤ → List Change → Encoding → Option OpenText → Result Texts DocError
with_changes t path version changes enc None = Err NotOpen
with_changes t path version changes enc (Some document) = with_text t path document.uri version (all_edited document.text changes enc)

-- LSP 3.17, textDocument/didChange
unfoldable pub changed : Texts → List ℕ → ℤ → List Change → Encoding → Result Texts DocError
changed t path version changes enc =
    if is_outside t path then Err OutsideRoot
    else with_changes t path version changes enc (get t.opened path)

-- LSP 3.17, textDocument/didClose
unfoldable pub closed : Texts → List ℕ → Result Texts DocError
closed t path =
    if is_outside t path then Err OutsideRoot
    else (if contains_key t.opened path then Ok (without_open t path)
    else Err NotOpen)

-- ---- the names of the reasons

abbrev pub doc_error_name : DocError → List ℕ
doc_error_name AlreadyOpen = codes "AlreadyOpen"
doc_error_name NotOpen = codes "NotOpen"
doc_error_name Reversed = codes "Reversed"
doc_error_name TooLong = codes "TooLong"
doc_error_name TooManyFiles = codes "TooManyFiles"
doc_error_name OutsideRoot = codes "OutsideRoot"
doc_error_name TooMuchText = codes "TooMuchText"
doc_error_name NotText = codes "NotText"
doc_error_name NoMemory = codes "NoMemory"

-- ---- what a call answers

-- Ok leaves what is meant. Any other answer leaves all as it was, and but for want of memory it is the reason that is meant.
abbrev pub IsDone : {X : Type 0} → Result X DocError → Texts → Texts → Result Texts DocError → Type 0
IsDone (Ok x) old new meant = meant ≡ Ok new
IsDone (Err e) old new meant = (e ≢ NoMemory → meant ≡ Err e) × (new ≡ old)

-- The answer is what is meant, unless memory was wanted.
abbrev pub Answers : {X : Type 0} → Result X DocError → Result X DocError → Type 0
Answers result meant = result ≢ Err NoMemory → result ≡ meant
