-- Files that are read into the texts, and what is logged on the way.
use Rattle.std.specs.Prelude.{ℕ, Bool, false, not, List, [], ◌∷◌, ◌++◌, codes, Option, None, Some, Result, Ok, Err, if◌then◌else◌}
use Rattle.std.specs.Option.{option_map_or}
use Rattle.io_edges.specs.declared.ends.Found.{Found}
use Rattle.io_edges.specs.declared.ends.Found.TheVariants as found
use Rattle.uri_paths.specs.Uris.{path_of_uri}
use Rattle.doc_texts.specs.Texts.{Texts, texts_under}
use Rattle.doc_texts.specs.Docs.{loaded, is_outside, doc_error_name}
use Rattle.doc_texts.specs.declared.error.DocError.{DocError}
use Rattle.doc_texts.specs.declared.error.DocError.TheVariants.{OutsideRoot}
use Rattle.c_session.specs.Asking.{Asking, Gives, asks_list, asks_read, and_then}
use Rattle.c_session.specs.Files.{is_loaded, to_load, unreadable_logs, with_found}
use Rattle.c_session.specs.Params.{FileChange}
use Rattle.c_session.specs.declared.params.FileChangeKind.{FileChangeKind}
use Rattle.c_session.specs.declared.params.FileChangeKind.TheVariants.{Created, Changed, Deleted}
use Rattle.lsp_answers.specs.Replies.{log}
use Rattle.c_session.specs.Reasons.{Reason, ByTexts, reason_text, by_uri}

-- the texts so far, and the log messages so far, each behind its header
pub record Loading : Type 0 where
  pub texts : Texts
  pub logs : List ℕ

abbrev pub with_log : List ℕ → Loading → Loading
with_log text l = record { texts = l.texts; logs = l.logs ++ log text }

-- the texts took a file, or refused it
abbrev pub settles : (DocError → List ℕ) → Loading → Result Texts DocError → Loading
settles log_of l (Ok texts) = record { texts = texts; logs = l.logs }
settles log_of l (Err e) = with_log (log_of e) l

-- a load that is refused
abbrev pub load_log : List ℕ → DocError → List ℕ
load_log path e = codes "load: " ++ doc_error_name e ++ codes ": " ++ path

-- ---- the files of a root

-- a listed file, with what it has: one that isn't there any more is left out
abbrev pub with_file : Loading → List ℕ → Found → Loading
with_file l path found.Absent = l
with_file l path found.TooLarge = settles (load_log path) l (with_found l.texts path found.TooLarge)
with_file l path (found.Bytes bytes) = settles (load_log path) l (with_found l.texts path (found.Bytes bytes))

abbrev pub loads : Loading → List (List ℕ) → Asking Loading
loads l [] = Gives l
loads l (path ∷ paths) = asks_read path (λ found. loads (with_file l path found) paths)

-- the texts of a root: none without one
abbrev pub loads_root : Option (List ℕ) → Asking Loading
loads_root None = Gives (record { texts = texts_under None; logs = [] })
loads_root (Some root) = asks_list root (λ found. loads (record { texts = texts_under (Some root); logs = unreadable_logs found }) (to_load root found))

-- ---- the file of a document that is closed

-- whether a path is one whose file is read from the store: there is a root, and the file is one that is loaded
abbrev pub is_read : Option (List ℕ) → List ℕ → Bool
is_read root path = option_map_or (λ r. is_loaded r path) root false

abbrev pub read_back : Loading → List ℕ → Asking Loading
read_back l path =
    if is_read l.texts.root path then asks_read path (λ found. Gives (settles (load_log path) l (with_found l.texts path found)))
    else Gives l

-- ---- files that change

abbrev pub did_change_watched : List ℕ
did_change_watched = codes "workspace/didChangeWatchedFiles"

-- a change that is refused
abbrev pub watched_log : Reason → List ℕ
watched_log r = codes "workspace/didChangeWatchedFiles: " ++ reason_text r

-- a file of the root was created or changed, which are the same here, or deleted
abbrev pub updates : Loading → List ℕ → FileChangeKind → Asking Loading
updates l path Created = asks_read path (λ found. Gives (settles (λ e. watched_log (ByTexts e)) l (with_found l.texts path found)))
updates l path Changed = asks_read path (λ found. Gives (settles (λ e. watched_log (ByTexts e)) l (with_found l.texts path found)))
updates l path Deleted = Gives (settles (λ e. watched_log (ByTexts e)) l (loaded l.texts path None))

-- one change of a watched file: the first of these that applies
abbrev pub updates_at : Loading → FileChangeKind → Result (List ℕ) Reason → Asking Loading
updates_at l kind (Err r) = Gives (with_log (watched_log r) l)
updates_at l kind (Ok path) =
    if not (is_read l.texts.root path) then Gives l
    else (if is_outside l.texts path then Gives (with_log (watched_log (ByTexts OutsideRoot)) l)
    else updates l path kind)

abbrev pub updates_all : Loading → List FileChange → Asking Loading
updates_all l [] = Gives l
updates_all l (change ∷ changes) = and_then (updates_at l change.kind (by_uri (path_of_uri change.uri))) (λ l'. updates_all l' changes)
