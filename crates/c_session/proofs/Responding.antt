-- What is logged and published is made of notifications.
use Rattle.std.proofs.Common.{◌≡◌, ◌⊎◌, inl, inr, ℕ, codes, append_assoc, Bool, true, false, cond, not, List, [], ◌∷◌, ◌++◌, flat_map, Option, None, Some, Result, Ok, Err, refl, sym, ap, ◌∙◌, append-nil}
use Rattle.std.specs.List.{concat}
use Rattle.std.proofs.lemmas.List.Elements.{All-nil, All-cons, All-append}
use Rattle.std.proofs.lemmas.List.Folds.{concat-append}
use Rattle.io_edges.specs.declared.ends.Listed.{Listed}
use Rattle.io_edges.specs.declared.ends.Listed.TheVariants as listed
use Rattle.io_edges.specs.declared.ends.Found.{Found}
use Rattle.io_edges.specs.declared.ends.Found.TheVariants as found
use Rattle.text_lines.specs.declared.encoding.Encoding.{Encoding}
use Rattle.uri_paths.specs.Uris.{path_of_uri}
use Rattle.doc_texts.specs.Texts.{Texts, version_at}
use Rattle.doc_texts.specs.Docs.{loaded, is_outside, doc_error_name}
use Rattle.doc_texts.specs.declared.error.DocError.{DocError}
use Rattle.doc_texts.specs.declared.error.DocError.TheVariants.{OutsideRoot}
use Rattle.asking.specs.Asking.{Answers, Asks}
use Rattle.c_session.specs.Asking.{Asking, calls, Gives, and_then}
use Rattle.c_session.specs.Files.{to_load, unreadable_logs, with_found}
use Rattle.c_session.specs.Loading.{Loading, with_log, settles, load_log, with_file, loads, loads_root, is_read, read_back, watched_log, updates, updates_at, updates_all}
use Rattle.c_session.specs.Params.{FileChange}
use Rattle.c_session.specs.declared.params.FileChangeKind.{FileChangeKind}
use Rattle.c_session.specs.declared.params.FileChangeKind.TheVariants.{Created, Changed, Deleted}
use Rattle.c_session.specs.Reasons.{Reason, ByTexts, by_uri}
use Rattle.lsp_answers.specs.Replies.{log}
use Rattle.c_session.specs.Responses.{IsNotice, Logs, Publishes, AreNotices}
use Rattle.project_conf.specs.Entries.{refusal}
use Rattle.project_conf.specs.declared.database.ConfError.{ConfError}
use Rattle.plain_mean.specs.Confs.{database_fault}
use Rattle.c_session.specs.Places.{uri_for}
use Rattle.c_session.specs.Shown.{shows, publication, published_paths, publications, fault_log, database_differs, database_logs}
use Rattle.c_session.specs.State.{State}
use Rattle.plain_mean.specs.declared.types.Shown.{Shown}

-- ---- a fact of each result, whatever the store answers

abbrev pub Each : {A : Type 0} → (A → Type 0) → Asking A → Type 0
Each P (Gives x) = P x
Each P (Asks call more f) = (answers : Answers calls (call ∷ more)) → Each P (f answers)

pub each_then : {A B : Type 0} (P : A → Type 0) (Q : B → Type 0) (t : Asking A) (k : A → Asking B) →
    Each P t → ((x : A) → P x → Each Q (k x)) → Each Q (and_then t k)
each_then P Q (Gives x) k h next = next x h
each_then P Q (Asks call more f) k h next = λ answers. each_then P Q (f answers) k (h answers) next

pub each_if : {A : Type 0} (P : A → Type 0) (b : Bool) (t u : Asking A) → Each P t → Each P u → Each P (cond b t u)
each_if P true t u h k = h
each_if P false t u h k = k

pub each_if_by : {A : Type 0} (P : A → Type 0) (b : Bool) (t u : Asking A) → (b ≡ true → Each P t) → (b ≡ false → Each P u) → Each P (cond b t u)
each_if_by P true t u h k = h refl
each_if_by P false t u h k = k refl

-- ---- notifications

pub no_notice : AreNotices []
no_notice = record { notices = []; each = All-nil IsNotice; joined = refl }

pub one_notice : (bytes : List ℕ) → IsNotice bytes → AreNotices bytes
one_notice bytes is = record {
  notices = bytes ∷ [];
  each = All-cons IsNotice bytes [] is (All-nil IsNotice);
  joined = sym (append-nil bytes);
}

pub more_notices : (first rest : List ℕ) → AreNotices first → AreNotices rest → AreNotices (first ++ rest)
more_notices first rest a b = record {
  notices = a.notices ++ b.notices;
  each = All-append IsNotice a.notices b.notices a.each b.each;
  joined = ap (λ (xs : List ℕ). xs ++ rest) a.joined ∙ ap (λ (xs : List ℕ). concat a.notices ++ xs) b.joined
      ∙ sym (concat-append a.notices b.notices);
}

pub log_notice : (text : List ℕ) → AreNotices (log text)
log_notice text = one_notice (log text) (Logs text refl)

publication_notice : (encoding : Encoding) (t : Texts) (faults : List Shown) (path : List ℕ) → IsNotice (publication encoding t faults path)
unfolding publication
publication_notice encoding t faults path = Publishes (uri_for t path) (version_at t path) _ refl

each_published : (s : State) (paths : List (List ℕ)) → AreNotices (flat_map (λ path. publication s.encoding s.texts (shows s path) path) paths)
each_published s [] = no_notice
each_published s (path ∷ paths) =
    more_notices (publication s.encoding s.texts (shows s path) path) (flat_map (λ path. publication s.encoding s.texts (shows s path) path) paths)
    (one_notice (publication s.encoding s.texts (shows s path) path) (publication_notice s.encoding s.texts (shows s path) path))
    (each_published s paths)

publications_notices : (touched : List (List ℕ)) (s s' : State) → AreNotices (publications touched s s')
publications_notices touched s s' = each_published s' (published_paths touched s s')

fault_notices : (differs : Bool) (fault : Option ConfError) → AreNotices (cond differs (fault_log fault) [])
fault_notices false fault = no_notice
fault_notices true None = no_notice
fault_notices true (Some e) = log_notice (codes "compile_commands: " ++ refusal e)

database_notices : (s s' : State) → AreNotices (database_logs s s')
unfolding database_logs
database_notices s s' = fault_notices (database_differs s s') (database_fault s'.texts)

-- what is told of other texts
pub tidings_notices : (touched : List (List ℕ)) (s s' : State) → AreNotices (database_logs s s' ++ publications touched s s')
tidings_notices touched s s' = more_notices (database_logs s s') (publications touched s s') (database_notices s s') (publications_notices touched s s')

-- ---- log messages of files that are read

abbrev pub Logged : Loading → Type 0
Logged l = AreNotices l.logs

log_kept : (text : List ℕ) (l : Loading) → Logged l → Logged (with_log text l)
log_kept text l h = more_notices l.logs (log text) h (log_notice text)

settles_kept : (log_of : DocError → List ℕ) (l : Loading) (r : Result Texts DocError) → Logged l →
    Logged (settles log_of l r)
settles_kept log_of l (Ok texts) h = h
settles_kept log_of l (Err e) h = log_kept (log_of e) l h

file_kept : (l : Loading) (path : List ℕ) (has : Found) → Logged l → Logged (with_file l path has)
file_kept l path found.Absent h = h
file_kept l path found.TooLarge h = settles_kept (load_log path) l (with_found l.texts path found.TooLarge) h
file_kept l path (found.Bytes bytes) h = settles_kept (load_log path) l (with_found l.texts path (found.Bytes bytes)) h

loads_logged : (l : Loading) (paths : List (List ℕ)) → Logged l → Each Logged (loads l paths)
loads_logged l [] h = h
loads_logged l (path ∷ paths) h = λ answers. loads_logged (with_file l path answers.0) paths (file_kept l path answers.0 h)

unreadable_notices : (all : List Listed) → AreNotices (unreadable_logs all)
unreadable_notices [] = no_notice
unreadable_notices (listed.File path ∷ rest) = unreadable_notices rest
unreadable_notices (listed.NoText ∷ rest) = more_notices _ (unreadable_logs rest) (log_notice _)
    (unreadable_notices rest)

pub root_logged : (root : Option (List ℕ)) → Each Logged (loads_root root)
root_logged None = no_notice
root_logged (Some root) = λ answers. loads_logged _ (to_load root answers.0) (unreadable_notices answers.0)

pub read_back_logged : (l : Loading) (path : List ℕ) → Logged l → Each Logged (read_back l path)
read_back_logged l path h =
    each_if Logged (is_read l.texts.root path) _ (Gives l)
    (λ answers. settles_kept (load_log path) l (with_found l.texts path answers.0) h) h

updates_logged : (l : Loading) (path : List ℕ) (kind : FileChangeKind) → Logged l → Each Logged (updates l path kind)
updates_logged l path Created h = λ answers. settles_kept (λ e. watched_log (ByTexts e)) l (with_found l.texts path answers.0) h
updates_logged l path Changed h = λ answers. settles_kept (λ e. watched_log (ByTexts e)) l (with_found l.texts path answers.0) h
updates_logged l path Deleted h = settles_kept (λ e. watched_log (ByTexts e)) l (loaded l.texts path None) h

change_logged : (l : Loading) (kind : FileChangeKind) (r : Result (List ℕ) Reason) → Logged l →
    Each Logged (updates_at l kind r)
change_logged l kind (Err r) h = log_kept (watched_log r) l h
change_logged l kind (Ok path) h =
    each_if Logged (not (is_read l.texts.root path)) (Gives l) _ h
    (each_if Logged (is_outside l.texts path) (Gives (with_log (watched_log (ByTexts OutsideRoot)) l))
    (updates l path kind)
    (log_kept (watched_log (ByTexts OutsideRoot)) l h) (updates_logged l path kind h))

pub changes_logged : (l : Loading) (changes : List FileChange) → Logged l → Each Logged (updates_all l changes)
changes_logged l [] h = h
changes_logged l (change ∷ changes) h =
    each_then Logged Logged (updates_at l change.kind (by_uri (path_of_uri change.uri))) (λ l'. updates_all l' changes)
    (change_logged l change.kind (by_uri (path_of_uri change.uri)) h) (λ l' kept. changes_logged l' changes kept)

-- ---- the file of a document that is closed

-- nothing was logged, or that the load is refused
abbrev pub LogsLoad : Loading → Type 0
LogsLoad l = (l.logs ≡ []) ⊎ ((text : List ℕ) × (l.logs ≡ log (codes "load: " ++ text)))

settles_load : (texts : Texts) (path : List ℕ) (r : Result Texts DocError) → LogsLoad (settles (load_log path) (record { texts = texts; logs = [] }) r)
settles_load texts path (Ok t) = inl refl
settles_load texts path (Err e) = inr (
  doc_error_name e ++ (codes ": " ++ path),
  ap log (append_assoc (codes "load: " ++ doc_error_name e) (codes ": ") path ∙ append_assoc (codes "load: ") (doc_error_name e) (codes ": " ++ path)),
)

pub read_back_logs : (texts : Texts) (path : List ℕ) → Each LogsLoad (read_back (record { texts = texts; logs = [] }) path)
read_back_logs texts path =
    each_if LogsLoad (is_read texts.root path) _ _ (λ answers. settles_load texts path (with_found texts path answers.0)) (inl refl)

-- ---- changes of watched files that are refused

-- nothing was logged, or the texts are the same
abbrev pub KeepsRefused : Loading → Loading → Type 0
KeepsRefused l l' = (l'.logs ≡ l.logs) ⊎ (l'.texts ≡ l.texts)

settles_keeps : (log_of : DocError → List ℕ) (l : Loading) (r : Result Texts DocError) → KeepsRefused l (settles log_of l r)
settles_keeps log_of l (Ok texts) = inl refl
settles_keeps log_of l (Err e) = inr refl

updates_keep : (l : Loading) (path : List ℕ) (kind : FileChangeKind) → Each (KeepsRefused l) (updates l path kind)
updates_keep l path Created = λ answers. settles_keeps (λ e. watched_log (ByTexts e)) l (with_found l.texts path answers.0)
updates_keep l path Changed = λ answers. settles_keeps (λ e. watched_log (ByTexts e)) l (with_found l.texts path answers.0)
updates_keep l path Deleted = settles_keeps (λ e. watched_log (ByTexts e)) l (loaded l.texts path None)

pub change_keeps : (l : Loading) (kind : FileChangeKind) (r : Result (List ℕ) Reason) → Each (KeepsRefused l) (updates_at l kind r)
change_keeps l kind (Err r) = inr refl
change_keeps l kind (Ok path) =
    each_if (KeepsRefused l) (not (is_read l.texts.root path)) (Gives l) _ (inl refl)
    (each_if (KeepsRefused l) (is_outside l.texts path) (Gives (with_log (watched_log (ByTexts OutsideRoot)) l))
    (updates l path kind) (inr refl) (updates_keep l path kind))
