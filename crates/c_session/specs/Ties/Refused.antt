-- What the code's refusals stand for.
use Rattle.std.specs.Prelude.{◌≡◌, ◌≢◌, ℕ, List, [], ◌∷◌, ◌++◌, codes, Result, Ok, Err}
use Rattle.json_view.specs.Refusals as view
use Rattle.json_view.specs.declared.error.ViewError.{ViewError}
use Rattle.json_view.specs.declared.error.ViewError.TheVariants as view_error
use Rattle.uri_paths.specs.declared.error.UriError.{UriError}
use Rattle.uri_paths.specs.declared.error.UriError.TheVariants as uri_error
use Rattle.doc_texts.specs.Texts.{Texts}
use Rattle.doc_texts.specs.declared.error.DocError.{DocError}
use Rattle.doc_texts.specs.declared.error.DocError.TheVariants as doc_error
use Rattle.doc_texts.specs.Prior.{Prior}
use Rattle.text_lines.specs.declared.encoding.Encoding.{Encoding}
use Rattle.c_session.specs.React.{Edited}
use Rattle.c_session.specs.Reasons.{Reason, ByParams, ByUri, ByTexts, reason_text}
use Rattle.lsp_answers.specs.Replies.{log}
use Rattle.c_session.specs.Ties.News.{ByPath, tidings}
use Rattle.c_session.specs.Ties.Sessions.{current_state, IsKept, WereKept, WasRead, Renews}
use Rattle.c_session.specs.declared.current.Current.{Current}
use Rattle.c_session.specs.declared.reasons.Refusal.{Refusal}
use Rattle.c_session.specs.declared.reasons.Refusal.TheVariants.{Params, Uri, Texts as ByDocs, NoMemory}

-- want of memory is no reason of the definitions, and stands for any
abbrev pub reason : Refusal → Reason
reason (Params e) = ByParams (view.refusal e)
reason (Uri e) = ByUri e
reason (ByDocs e) = ByTexts e
reason NoMemory = ByParams view.NoMemory

abbrev pub of_params : ViewError → Refusal
of_params (view_error.Missing key) = Params (view_error.Missing key)
of_params (view_error.WrongKind key) = Params (view_error.WrongKind key)
of_params (view_error.OutOfRange key) = Params (view_error.OutOfRange key)
of_params view_error.NoMemory = NoMemory

abbrev pub of_uri : UriError → Refusal
of_uri uri_error.NotUrl = Uri uri_error.NotUrl
of_uri uri_error.NotFile = Uri uri_error.NotFile
of_uri uri_error.HasHost = Uri uri_error.HasHost
of_uri uri_error.NotText = Uri uri_error.NotText
of_uri uri_error.NoMemory = NoMemory

abbrev pub of_texts : DocError → Refusal
of_texts doc_error.AlreadyOpen = ByDocs doc_error.AlreadyOpen
of_texts doc_error.NotOpen = ByDocs doc_error.NotOpen
of_texts doc_error.Reversed = ByDocs doc_error.Reversed
of_texts doc_error.TooLong = ByDocs doc_error.TooLong
of_texts doc_error.TooManyFiles = ByDocs doc_error.TooManyFiles
of_texts doc_error.OutsideRoot = ByDocs doc_error.OutsideRoot
of_texts doc_error.TooMuchText = ByDocs doc_error.TooMuchText
of_texts doc_error.NotText = ByDocs doc_error.NotText
of_texts doc_error.NoMemory = NoMemory

-- An answer, of which `seen` says what contracts see, is the one that is meant, or memory was wanted.
abbrev pub Answers : {T U : Type 0} → (T → U) → Result T Refusal → Result U Reason → Type 0
Answers seen (Ok x) meant = meant ≡ Ok (seen x)
Answers seen (Err r) meant = r ≢ NoMemory → meant ≡ Err (reason r)

-- A refused edit leaves the texts.
abbrev pub Leaves : {T : Type 0} → Result T Refusal → Texts → Texts → Type 0
Leaves (Ok x) old new = Unit {0}
Leaves (Err r) old new = new ≡ old

-- the texts behind an edit of a document
abbrev pub edited : Texts → List ℕ → Edited
edited texts path = record { path = path; texts = texts }

-- The reply to an edit: what is published then, or a log message.
abbrev pub IsReply : List ℕ → Texts → Encoding → Result (List ℕ) Refusal → List ℕ → ByPath → ByPath → Prior → Type 0
IsReply method texts encoding (Ok path) bytes before after prior = bytes ≡ tidings (path ∷ []) encoding before after prior texts
IsReply method texts encoding (Err r) bytes before after prior = (r ≢ NoMemory) × (bytes ≡ log (method ++ codes ": " ++ reason_text (reason r)))

-- Behind the reply to an edit what files show is kept, or nothing was changed by it.
abbrev pub IsBehind : {T : Type 0} → Result T Refusal → Current → Current → Type 0
IsBehind (Ok x) old new = IsKept new
IsBehind (Err r) old new = new ≡ old

-- what is kept is of texts before the edit, where it was one
abbrev pub IsKeptBy : Result (List ℕ) Refusal → Prior → Current → Type 0
IsKeptBy (Ok path) prior c = WereKept prior c.docs c.kept × WasRead c.words prior c.docs c.read
IsKeptBy (Err r) prior c = Unit {0}

-- the counter of steps behind the reply to an edit that left these texts
abbrev pub IsWorked : Result (List ℕ) Refusal → Prior → Current → ℕ → ℕ → Type 0
IsWorked (Ok path) prior c old new = Renews prior c.docs c.kept (current_state c) old new
IsWorked (Err r) prior c old new = new ≡ old
