-- How the plain server reacts to a content (LSP 3.17, with JSON-RPC 2.0).
use Rattle.std.specs.Prelude.{ℕ, ℤ, negsuc, Bool, true, false, List, [], ◌∷◌, ◌++◌, codes, Option, Some, None, Result, Ok, Err, if◌then◌else◌}
use Rattle.std.specs.Str.{bytes_eq}
use Rattle.serde_json.specs.Data.{Data, null}
use Rattle.io_edges.specs.Store.{Call, Entry}
use Rattle.text_lines.specs.declared.encoding.Encoding.{Encoding}
use Rattle.uri_paths.specs.Uris.{path_of_uri}
use Rattle.doc_texts.specs.Texts.{Texts}
use Rattle.doc_texts.specs.Docs.{opened, changed, closed}
use Rattle.asking.specs.InTurn as turns
use Rattle.c_session.specs.Asking.{Asking, Gives, calls, and_then}
use Rattle.c_session.specs.Loading.{Loading, loads_root, read_back, did_change_watched, updates_all}
use Rattle.c_session.specs.Message.{Message, NotJson, Batch, NotObject, Ignored, BadId, BadMethod, Notification, Request, message}
use Rattle.json_view.specs.declared.id.Id.{Id}
use Rattle.c_session.specs.Params.{FileChange, opening_in, changing_in, closing_in, watching_in, starting_in}
use Rattle.c_session.specs.Questions.{question_named, about_in}
use Rattle.c_session.specs.Positions.{token_at}
use Rattle.c_session.specs.Reasons.{Reason, reason_text, by_params, by_uri, by_texts, if_ok}
use Rattle.c_session.specs.Renames.{Renaming, rename_method, renaming_in, outcome_at, edits_of}
use Rattle.c_session.specs.Refused.{invalid_params, refusal_code, refusal_name}
use Rattle.rename_core.specs.declared.confirming.Edits.{Edits}
use Rattle.rename_core.specs.declared.error.RenameError.{RenameError}
use Rattle.lsp_answers.specs.Replies.{response, error, log, initialize_result}
use Rattle.c_session.specs.Shown.{conf_in, publications, database_logs}
use Rattle.c_session.specs.State.{State, in_phase, with_texts}
use Rattle.c_session.specs.Answered.{answer}
use Rattle.c_session.specs.Units.{known}
use Rattle.unit_index.specs.Known.{Known}
use Rattle.c_session.specs.declared.phase.Phase.{Phase}
use Rattle.c_session.specs.declared.questions.About.{About}
use Rattle.c_session.specs.declared.questions.QuestionKind.{QuestionKind}
use Rattle.c_session.specs.declared.phase.Phase.TheVariants.{Fresh, Running, Down}

-- What a content leaves: the next state, the reply's bytes, and the status of an end.
pub record Outcome : Type 0 where
  pub state : State
  pub bytes : List ℕ
  pub end : Option ℕ

-- a reply that is no end and changes no text
abbrev pub tells : State → List ℕ → Outcome
tells s bytes = record { state = s; bytes = bytes; end = None }

-- nothing is said and nothing changes
abbrev pub is_quiet : State → Outcome
is_quiet s = tells s []

-- other texts: the response or none, log messages, the last of them on the database, then what is published (LSP 3.17,
-- publishDiagnostics)
abbrev pub has_texts : State → State → List ℕ → List ℕ → List (List ℕ) → Outcome
has_texts s s' response logs touched = tells s' ((response ++ logs) ++ (database_logs s s' ++ publications touched s s'))

-- ---- refusals

-- codes of errors (JSON-RPC 2.0, 5.1; LSP 3.17, ErrorCodes)
abbrev pub parse_error : ℤ
parse_error = negsuc 32699

abbrev pub invalid_request : ℤ
invalid_request = negsuc 32599

abbrev pub method_not_found : ℤ
method_not_found = negsuc 32600

abbrev pub server_not_initialized : ℤ
server_not_initialized = negsuc 32001

-- a content that is no request is refused with this code, without an id
abbrev pub rejects : State → Option Id → ℤ → List ℕ → Outcome
rejects s id code text = tells s (error id code text)

-- a notification that is refused is logged under its method
abbrev pub refuses : State → List ℕ → List ℕ → Outcome
refuses s method text = tells s (log (method ++ codes ": " ++ text))

-- ---- documents

abbrev pub did_open : List ℕ
did_open = codes "textDocument/didOpen"

abbrev pub did_change : List ℕ
did_change = codes "textDocument/didChange"

abbrev pub did_close : List ℕ
did_close = codes "textDocument/didClose"

-- a document, with the texts behind its opening, its changes or its closing
pub record Edited : Type 0 where
  pub path : List ℕ
  pub texts : Texts

unfoldable pub opened_by : Texts → Option Data → Result Edited Reason
opened_by t params =
    if_ok (by_params (opening_in params)) (λ o.
    if_ok (by_uri (path_of_uri o.uri)) (λ path.
    if_ok (by_texts (opened t path o.uri o.version o.text)) (λ texts.
    Ok (record { path = path; texts = texts }))))

unfoldable pub changed_by : Texts → Encoding → Option Data → Result Edited Reason
changed_by t encoding params =
    if_ok (by_params (changing_in params)) (λ c.
    if_ok (by_uri (path_of_uri c.uri)) (λ path.
    if_ok (by_texts (changed t path c.version c.changes encoding)) (λ texts.
    Ok (record { path = path; texts = texts }))))

abbrev pub closing_path : Option Data → Result (List ℕ) Reason
closing_path params = if_ok (by_params (closing_in params)) (λ uri. by_uri (path_of_uri uri))

abbrev pub closed_by : Texts → Option Data → Result Edited Reason
closed_by t params =
    if_ok (closing_path params) (λ path.
    if_ok (by_texts (closed t path)) (λ texts.
    Ok (record { path = path; texts = texts })))

-- a document was opened or changed
abbrev pub edits : State → List ℕ → Result Edited Reason → Outcome
edits s method (Ok e) = has_texts s (with_texts e.texts s) [] [] (e.path ∷ [])
edits s method (Err r) = refuses s method (reason_text r)

-- a document was closed, and its file is read, where it is one that is read
abbrev pub closes : State → Result Edited Reason → Asking Outcome
closes s (Ok e) = and_then (read_back (record { texts = e.texts; logs = [] }) e.path) (λ l. Gives (has_texts s (with_texts l.texts s) [] l.logs []))
closes s (Err r) = Gives (refuses s did_close (reason_text r))

-- files changed
abbrev pub watches : State → Result (List FileChange) Reason → Asking Outcome
watches s (Ok changes) = and_then (updates_all (record { texts = s.texts; logs = [] }) changes) (λ l. Gives (has_texts s (with_texts l.texts s) [] l.logs []))
watches s (Err r) = Gives (refuses s did_change_watched (reason_text r))

-- ---- the beginning

-- what `initialize` states: the root and the encoding, and whether the client can ask if a name may be renamed
pub record Beginning : Type 0 where
  pub root : Option (List ℕ)
  pub encoding : Encoding
  pub prepare : Bool

-- the path of the root, where there is one
abbrev pub root_by : Option (List ℕ) → Result (Option (List ℕ)) Reason
root_by None = Ok None
root_by (Some uri) = if_ok (by_uri (path_of_uri uri)) (λ path. Ok (Some path))

unfoldable pub beginning_by : Option Data → Result Beginning Reason
beginning_by params =
    if_ok (by_params (starting_in params)) (λ starting.
    if_ok (root_by starting.root) (λ root.
    Ok (record { root = root; encoding = starting.encoding; prepare = starting.prepare })))

-- the session begins with these texts
abbrev pub begins : State → Id → Encoding → Bool → Loading → Outcome
begins s id encoding prepare l =
    has_texts s (record { options = s.options; texts = l.texts; encoding = encoding; phase = Running }) (response id (initialize_result encoding prepare)) l.logs []

abbrev pub begins_at : State → Id → Encoding → Bool → Option (List ℕ) → Asking Outcome
begins_at s id encoding prepare root = and_then (loads_root root) (λ l. Gives (begins s id encoding prepare l))

abbrev pub starts : State → Id → Result Beginning Reason → Asking Outcome
starts s id (Ok b) = begins_at s id b.encoding b.prepare b.root
starts s id (Err r) = Gives (rejects s (Some id) invalid_params (reason_text r))

-- ---- questions

-- all units of the texts, as they are now
abbrev pub known_in : State → List Known
known_in s = known s.texts (conf_in s)

abbrev pub answered : State → Result About Reason → Result Data Reason
answered s meant = if_ok meant (λ about. Ok (answer (known_in s) s.texts s.encoding about.path about.question))

abbrev pub answers : State → Id → Result Data Reason → Outcome
answers s id (Ok result) = tells s (response id result)
answers s id (Err r) = rejects s (Some id) invalid_params (reason_text r)

-- a method that asks about a file; any other is unknown
abbrev pub asks_about : State → Id → Option QuestionKind → Option Data → Outcome
asks_about s id None params = rejects s (Some id) method_not_found (codes "unknown method")
asks_about s id (Some kind) params = answers s id (answered s (about_in kind params))

-- ---- renames

-- (no outcome of a rename is want of memory)
abbrev pub settles : State → Id → Result Edits RenameError → Outcome
settles s id (Ok e) = tells s (response id (edits_of s.texts s.encoding e))
settles s id (Err e) = rejects s (Some id) (refusal_code e) (refusal_name e)

abbrev pub settled : State → Renaming → Result Edits RenameError
settled s r = outcome_at s.texts (conf_in s) (token_at s.texts s.encoding r.path r.pos) r.new_name

abbrev pub renames : State → Id → Result Renaming Reason → Outcome
renames s id (Ok r) = settles s id (settled s r)
renames s id (Err r) = rejects s (Some id) invalid_params (reason_text r)

-- ---- messages

abbrev pub is_running : Phase → Bool
is_running Fresh = false
is_running Running = true
is_running Down = false

-- the status of an `exit` in a phase: 0 after a `shutdown` that was answered, else 1
abbrev pub exit_status : Phase → ℕ
exit_status Fresh = 1
exit_status Running = 1
exit_status Down = 0

unfoldable pub fresh_request : State → Id → List ℕ → Option Data → Asking Outcome
fresh_request s id method params =
    if bytes_eq method (codes "initialize") then starts s id (beginning_by params)
    else Gives (rejects s (Some id) server_not_initialized (codes "not initialized"))

unfoldable pub running_request : State → Id → List ℕ → Option Data → Outcome
running_request s id method params =
    if bytes_eq method (codes "initialize") then rejects s (Some id) invalid_request (codes "already initialized")
    else (if bytes_eq method (codes "shutdown") then tells (in_phase Down s) (response id null)
    else (if bytes_eq method rename_method then renames s id (renaming_in params)
    else asks_about s id (question_named method) params))

abbrev pub on_request : Phase → State → Id → List ℕ → Option Data → Asking Outcome
on_request Fresh s id method params = fresh_request s id method params
on_request Running s id method params = Gives (running_request s id method params)
on_request Down s id method params = Gives (rejects s (Some id) invalid_request (codes "shut down"))

unfoldable pub running_notification : State → List ℕ → Option Data → Asking Outcome
running_notification s method params =
    if bytes_eq method did_open then Gives (edits s did_open (opened_by s.texts params))
    else (if bytes_eq method did_change then Gives (edits s did_change (changed_by s.texts s.encoding params))
    else (if bytes_eq method did_close then closes s (closed_by s.texts params)
    else (if bytes_eq method did_change_watched then watches s (by_params (watching_in params))
    else Gives (is_quiet s))))

unfoldable pub on_notification : State → List ℕ → Option Data → Asking Outcome
on_notification s method params =
    if bytes_eq method (codes "exit") then Gives (record { state = s; bytes = []; end = Some (exit_status s.phase) })
    else (if is_running s.phase then running_notification s method params
    else Gives (is_quiet s))

-- a content that is neither a request nor a notification
abbrev pub on_other : State → Message → Outcome
on_other s NotJson = rejects s None parse_error (codes "not JSON")
on_other s Batch = rejects s None invalid_request (codes "batch")
on_other s NotObject = rejects s None invalid_request (codes "not an object")
on_other s Ignored = is_quiet s
on_other s BadId = rejects s None invalid_request (codes "bad id")
on_other s (BadMethod id) = rejects s id invalid_request (codes "bad method")
on_other s (Notification method params) = is_quiet s
on_other s (Request id method params) = is_quiet s

abbrev pub on_message : State → Message → Asking Outcome
on_message s (Request id method params) = on_request s.phase s id method params
on_message s (Notification method params) = on_notification s method params
on_message s NotJson = Gives (on_other s NotJson)
on_message s Batch = Gives (on_other s Batch)
on_message s NotObject = Gives (on_other s NotObject)
on_message s Ignored = Gives (on_other s Ignored)
on_message s BadId = Gives (on_other s BadId)
on_message s (BadMethod id) = Gives (on_other s (BadMethod id))

-- what a content asks the store, and then leaves
unfoldable pub asks : State → List ℕ → Asking Outcome
asks s content = on_message s (message content)

-- ---- the reaction

-- What the server does with one content, where the store gives these answers in turn.
pub data Reaction : Type 0 where
  -- the next state, the reply's bytes, the status of an end, and how many answers were used
  Replies : State → List ℕ → Option ℕ → ℕ → Reaction
  -- it wants an answer of the store that isn't there
  Wants : Call → Reaction

-- The run in turn, as a reaction: an answer to another call or path than the one that is asked is none.
abbrev pub reaction : turns.Turn calls Outcome → Reaction
reaction (turns.Gave o used) = Replies o.state o.bytes o.end used
reaction (turns.Wants call) = Wants call
reaction (turns.Differs call entry) = Wants call

-- the reaction to a content, with the store's answers from here on
unfoldable pub react : State → List ℕ → List Entry → Reaction
react s content answers = reaction (turns.run (asks s content) answers)
