-- No content makes a text stand that is longer than the limit.
use Rattle.std.proofs.Common.{◌≡◌, ℕ, ℤ, Bool, true, false, cond, not, List, [], ◌∷◌, codes, Option, Some, None, IfSome, option_map, option_and_then, Result, Ok, Err, IfOk, subst}
use Rattle.std.specs.Str.{bytes_eq}
use Rattle.serde_json.specs.Data.{Data}
use Rattle.asking.specs.Asking.{Answers, Asks, asks_all}
use Rattle.asking.specs.InTurn.{after_one}
use Rattle.io_edges.specs.Store.{Call, Entry}
use Rattle.io_edges.specs.declared.ends.Found.{Found}
use Rattle.io_edges.specs.declared.ends.Found.TheVariants as found
use Rattle.json_view.specs.declared.id.Id.{Id}
use Rattle.text_lines.specs.declared.edit.Change.{Change}
use Rattle.text_lines.specs.declared.encoding.Encoding.{Encoding}
use Rattle.uri_paths.specs.Uris.{path_of_uri}
use Rattle.doc_texts.specs.Docs.{loaded, opened, changed, closed, is_outside}
use Rattle.doc_texts.specs.Short.{AllShort}
use Rattle.doc_texts.specs.Texts.{Texts, texts_under}
use Rattle.doc_texts.specs.declared.error.DocError.{DocError}
use Rattle.c_session.specs.Asking.{Answer, Asking, Gives, calls, and_then, after_all}
use Rattle.c_session.specs.Files.{to_load, unreadable_logs, with_found}
use Rattle.c_session.specs.Handled.{Handled}
use Rattle.c_session.specs.Loading.{Loading, is_read, load_log, loads, loads_root, read_back, settles, updates, updates_all, updates_at, watched_log, with_file}
use Rattle.c_session.specs.Message.{Message, NotJson, Batch, NotObject, Ignored, BadId, BadMethod, Notification, Request, message}
use Rattle.c_session.specs.Params.{FileChange, opening_in, changing_in, watching_in}
use Rattle.c_session.specs.Questions.{question_named}
use Rattle.c_session.specs.React as react
use Rattle.c_session.specs.React.{Outcome, Edited, Beginning, edits, closes, watches, starts, beginning_by, closing_path, answers, answered, asks_about, settled, renames, running_request, fresh_request, running_notification, on_request, on_notification, on_message, asks, is_running, opened_by, changed_by, closed_by}
use Rattle.c_session.specs.Reasons.{Reason, ByTexts, by_params, by_texts, by_uri, if_ok}
use Rattle.c_session.specs.Renames.{Renaming, rename_method, renaming_in}
use Rattle.c_session.specs.State.{State}
use Rattle.c_session.specs.declared.params.FileChangeKind.{FileChangeKind}
use Rattle.c_session.specs.declared.params.FileChangeKind.TheVariants.{Created, Changed, Deleted}
use Rattle.c_session.specs.declared.phase.Phase.{Phase}
use Rattle.c_session.specs.declared.phase.Phase.TheVariants.{Fresh, Running, Down}
use Rattle.c_session.specs.declared.questions.QuestionKind.{QuestionKind}
use Rattle.rename_core.specs.declared.confirming.Edits.{Edits}
use Rattle.rename_core.specs.declared.error.RenameError.{RenameError}

-- ---- whatever is answered

module _ {A : Type 0} (P : A → Type 0) where
  -- what is asked ends in this, whatever the store answers
  abbrev pub Always : Asking A → Type 0
  Always (Gives x) = P x
  Always (Asks q more next) = (given : Answers calls (q ∷ more)) → Always (next given)

  all_asked : (more : List Call) (next : Answers calls more → Asking A) → ((given : Answers calls more) → Always (next given)) → Always (asks_all more next)
  all_asked [] next h = h tt
  all_asked (q ∷ more) next h = h

  behind_one : (q : Call) (more : List Call) (next : Answers calls (q ∷ more) → Asking A) → ((given : Answers calls (q ∷ more)) → Always (next given)) →
      (o : Option (Answer q)) → IfSome (option_map (λ given. asks_all more (λ others. next (given, others))) o) Always
  behind_one q more next h None = tt
  behind_one q more next h (Some given) = all_asked more (λ others. next (given, others)) (λ others. h (given, others))

  after_entry : (asking : Asking A) (entry : Entry) → Always asking → IfSome (after_one asking entry) Always
  after_entry (Gives x) entry h = tt
  after_entry (Asks q more next) entry h = behind_one q more next h (calls.reads q entry)

  through : (o : Option (Asking A)) (f : Asking A → Option (Asking A)) → IfSome o Always → ((next : Asking A) → Always next → IfSome (f next) Always) → IfSome (option_and_then f o) Always
  through None f h go = tt
  through (Some next) f h go = go next h

  after_entries : (entries : List Entry) (asking : Asking A) → Always asking → IfSome (after_all asking entries) Always
  after_entries [] asking h = h
  after_entries (entry ∷ entries) asking h = through (after_one asking entry) (λ next. after_all next entries) (after_entry asking entry h) (λ next k. after_entries entries next k)

  pub reached : (asking : Asking A) (x : A) (entries : List Entry) → after_all asking entries ≡ Some (Gives x) → Always asking → P x
  reached asking x entries is h = subst (λ o. IfSome o Always) is (after_entries entries asking h)

  either : (b : Bool) (x y : Asking A) → Always x → Always y → Always (cond b x y)
  either true x y h k = h
  either false x y h k = k

module _ {A B : Type 0} (P : A → Type 0) (Q : B → Type 0) where
  then_always : (asking : Asking A) (k : A → Asking B) → Always P asking → ((x : A) → P x → Always Q (k x)) → Always Q (and_then asking k)
  then_always (Gives x) k h go = go x h
  then_always (Asks q more next) k h go = λ given. then_always (next given) k (h given) go

-- ---- the texts

abbrev HasShort : Loading → Type 0
HasShort l = AllShort l.texts

abbrev Leaves : Outcome → Type 0
Leaves o = AllShort o.state.texts

module _ {T U : Type 0} (P : U → Type 0) where
  ok_then : (r : Result T Reason) (next : T → Result U Reason) → ((x : T) → IfOk (next x) P) → IfOk (if_ok r next) P
  ok_then (Ok x) next h = h x
  ok_then (Err e) next h = tt

edited_short : (path : List ℕ) (r : Result Texts DocError) → IfOk r AllShort → IfOk (if_ok (by_texts r) (λ texts. Ok (record { path = path; texts = texts }))) (λ (e : Edited). AllShort e.texts)
edited_short path (Ok texts) h = h
edited_short path (Err e) h = tt

module _
    (by_load : (t : Texts) → AllShort t → (p : List ℕ) (bytes : Option (List ℕ)) → IfOk (loaded t p bytes) AllShort)
    (by_open : (t : Texts) → AllShort t → (p uri : List ℕ) (version : ℤ) (text : List ℕ) → IfOk (opened t p uri version text) AllShort)
    (by_change : (t : Texts) → AllShort t → (p : List ℕ) (version : ℤ) (changes : List Change) (enc : Encoding) → IfOk (changed t p version changes enc) AllShort)
    (by_close : (t : Texts) → AllShort t → (p : List ℕ) → IfOk (closed t p) AllShort)
    (under : (root : Option (List ℕ)) → AllShort (texts_under root)) where
  -- ---- what is loaded

  settles_short : (log_of : DocError → List ℕ) (l : Loading) (r : Result Texts DocError) → AllShort l.texts → IfOk r AllShort → AllShort (settles log_of l r).texts
  settles_short log_of l (Ok texts) h k = k
  settles_short log_of l (Err e) h k = h

  found_short : (t : Texts) (path : List ℕ) (f : Found) → AllShort t → IfOk (with_found t path f) AllShort
  found_short t path found.Absent h = by_load t h path None
  found_short t path found.TooLarge h = no_text (is_outside t path) _ _
    where
      no_text : (b : Bool) (d e : DocError) → IfOk (cond b (Err d) (Err e)) AllShort
      no_text true d e = tt
      no_text false d e = tt
  found_short t path (found.Bytes bytes) h = by_load t h path (Some bytes)

  file_short : (l : Loading) (path : List ℕ) (f : Found) → AllShort l.texts → AllShort (with_file l path f).texts
  file_short l path found.Absent h = h
  file_short l path found.TooLarge h = settles_short (load_log path) l (with_found l.texts path found.TooLarge) h (found_short l.texts path found.TooLarge h)
  file_short l path (found.Bytes bytes) h = settles_short (load_log path) l (with_found l.texts path (found.Bytes bytes)) h (found_short l.texts path (found.Bytes bytes) h)

  loads_short : (paths : List (List ℕ)) (l : Loading) → AllShort l.texts → Always HasShort (loads l paths)
  loads_short [] l h = h
  loads_short (path ∷ paths) l h = λ given. loads_short paths (with_file l path given.0) (file_short l path given.0 h)

  root_short : (root : Option (List ℕ)) → Always HasShort (loads_root root)
  root_short None = under None
  root_short (Some root) = λ given. loads_short (to_load root given.0) (record { texts = texts_under (Some root); logs = unreadable_logs given.0 }) (under (Some root))

  back_short : (l : Loading) (path : List ℕ) → AllShort l.texts → Always HasShort (read_back l path)
  back_short l path h = either HasShort (is_read l.texts.root path) _ _ (λ given. settles_short (load_log path) l (with_found l.texts path given.0) h (found_short l.texts path given.0 h)) h

  updates_short : (l : Loading) (path : List ℕ) (kind : FileChangeKind) → AllShort l.texts → Always HasShort (updates l path kind)
  updates_short l path Created h = λ given. settles_short (λ e. watched_log (ByTexts e)) l (with_found l.texts path given.0) h (found_short l.texts path given.0 h)
  updates_short l path Changed h = λ given. settles_short (λ e. watched_log (ByTexts e)) l (with_found l.texts path given.0) h (found_short l.texts path given.0 h)
  updates_short l path Deleted h = settles_short (λ e. watched_log (ByTexts e)) l (loaded l.texts path None) h (by_load l.texts h path None)

  update_short : (l : Loading) (kind : FileChangeKind) (r : Result (List ℕ) Reason) → AllShort l.texts → Always HasShort (updates_at l kind r)
  update_short l kind (Err r) h = h
  update_short l kind (Ok path) h = either HasShort (not (is_read l.texts.root path)) _ _ h (either HasShort (is_outside l.texts path) _ _ h (updates_short l path kind h))

  all_short : (changes : List FileChange) (l : Loading) → AllShort l.texts → Always HasShort (updates_all l changes)
  all_short [] l h = h
  all_short (change ∷ changes) l h =
      then_always HasShort HasShort (updates_at l change.kind (by_uri (path_of_uri change.uri))) (λ l'. updates_all l' changes) (update_short l change.kind (by_uri (path_of_uri change.uri)) h) (λ l' k. all_short changes l' k)

  -- ---- documents

  module _ (s : State) (h : AllShort s.texts) where
    open_short : (params : Option Data) → IfOk (opened_by s.texts params) (λ (e : Edited). AllShort e.texts)
    unfolding opened_by
    open_short params =
        ok_then (λ (e : Edited). AllShort e.texts) (by_params (opening_in params)) _ (λ o.
        ok_then (λ (e : Edited). AllShort e.texts) (by_uri (path_of_uri o.uri)) _ (λ path.
        edited_short path (opened s.texts path o.uri o.version o.text) (by_open s.texts h path o.uri o.version o.text)))

    change_short : (params : Option Data) → IfOk (changed_by s.texts s.encoding params) (λ (e : Edited). AllShort e.texts)
    unfolding changed_by
    change_short params =
        ok_then (λ (e : Edited). AllShort e.texts) (by_params (changing_in params)) _ (λ c.
        ok_then (λ (e : Edited). AllShort e.texts) (by_uri (path_of_uri c.uri)) _ (λ path.
        edited_short path (changed s.texts path c.version c.changes s.encoding) (by_change s.texts h path c.version c.changes s.encoding)))

    close_short : (params : Option Data) → IfOk (closed_by s.texts params) (λ (e : Edited). AllShort e.texts)
    close_short params = ok_then (λ (e : Edited). AllShort e.texts) (closing_path params) _ (λ path. edited_short path (closed s.texts path) (by_close s.texts h path))

    edits_short : (method : List ℕ) (r : Result Edited Reason) → IfOk r (λ e. AllShort e.texts) → Leaves (edits s method r)
    edits_short method (Ok e) k = k
    edits_short method (Err r) k = h

    closes_short : (r : Result Edited Reason) → IfOk r (λ e. AllShort e.texts) → Always Leaves (closes s r)
    closes_short (Ok e) k = then_always HasShort Leaves (read_back (record { texts = e.texts; logs = [] }) e.path) _ (back_short (record { texts = e.texts; logs = [] }) e.path k) (λ l m. m)
    closes_short (Err r) k = h

    watches_short : (r : Result (List FileChange) Reason) → Always Leaves (watches s r)
    watches_short (Ok changes) = then_always HasShort Leaves (updates_all (record { texts = s.texts; logs = [] }) changes) _ (all_short changes (record { texts = s.texts; logs = [] }) h) (λ l m. m)
    watches_short (Err r) = h

    -- ---- requests

    starts_short : (id : Id) (r : Result Beginning Reason) → Always Leaves (starts s id r)
    starts_short id (Ok b) = then_always HasShort Leaves (loads_root b.root) _ (root_short b.root) (λ l m. m)
    starts_short id (Err r) = h

    answers_short : (id : Id) (r : Result Data Reason) → Leaves (answers s id r)
    answers_short id (Ok x) = h
    answers_short id (Err r) = h

    asks_short : (id : Id) (kind : Option QuestionKind) (params : Option Data) → Leaves (asks_about s id kind params)
    asks_short id None params = h
    asks_short id (Some kind) params = answers_short id (answered s _)

    settles_by : (id : Id) (r : Result Edits RenameError) → Leaves (react.settles s id r)
    settles_by id (Ok e) = h
    settles_by id (Err e) = h

    renames_short : (id : Id) (r : Result Renaming Reason) → Leaves (renames s id r)
    renames_short id (Ok r) = settles_by id (settled s r)
    renames_short id (Err r) = h

    one_of : (b : Bool) (x y : Outcome) → Leaves x → Leaves y → Leaves (cond b x y)
    one_of true x y k m = k
    one_of false x y k m = m

    running_short : (id : Id) (method : List ℕ) (params : Option Data) → Leaves (running_request s id method params)
    unfolding running_request
    running_short id method params =
        one_of (bytes_eq method (codes "initialize")) _ _ h
        (one_of (bytes_eq method (codes "shutdown")) _ _ h
        (one_of (bytes_eq method rename_method) _ _ (renames_short id (renaming_in params)) (asks_short id (question_named method) params)))

    fresh_short : (id : Id) (method : List ℕ) (params : Option Data) → Always Leaves (fresh_request s id method params)
    unfolding fresh_request
    fresh_short id method params = either Leaves (bytes_eq method (codes "initialize")) _ _ (starts_short id (beginning_by params)) h

    request_short : (phase : Phase) (id : Id) (method : List ℕ) (params : Option Data) → Always Leaves (on_request phase s id method params)
    request_short Fresh id method params = fresh_short id method params
    request_short Running id method params = running_short id method params
    request_short Down id method params = h

    -- ---- notifications

    told_short : (method : List ℕ) (params : Option Data) → Always Leaves (running_notification s method params)
    unfolding running_notification
    told_short method params =
        either Leaves (bytes_eq method react.did_open) _ _ (edits_short react.did_open (opened_by s.texts params) (open_short params))
        (either Leaves (bytes_eq method react.did_change) _ _ (edits_short react.did_change (changed_by s.texts s.encoding params) (change_short params))
        (either Leaves (bytes_eq method react.did_close) _ _ (closes_short (closed_by s.texts params) (close_short params))
        (either Leaves (bytes_eq method (codes "workspace/didChangeWatchedFiles")) _ _ (watches_short (by_params (watching_in params))) h)))

    notification_short : (method : List ℕ) (params : Option Data) → Always Leaves (on_notification s method params)
    unfolding on_notification
    notification_short method params = either Leaves (bytes_eq method (codes "exit")) _ _ h (either Leaves (is_running s.phase) _ _ (told_short method params) h)

    -- ---- messages

    message_short : (m : Message) → Always Leaves (on_message s m)
    message_short (Request id method params) = request_short s.phase id method params
    message_short (Notification method params) = notification_short method params
    message_short NotJson = h
    message_short Batch = h
    message_short NotObject = h
    message_short Ignored = h
    message_short BadId = h
    message_short (BadMethod id) = h

    content_short : (content : List ℕ) → Always Leaves (asks s content)
    unfolding asks
    content_short content = message_short (message content)

  pub handled_short : (s s' : State) (content bytes : List ℕ) (end : Option ℕ) (old new : Option (List Entry)) → Handled s content s' bytes end old new → AllShort s.texts → AllShort s'.texts
  handled_short s s' content bytes end old new r h = reached Leaves (asks s content) (record { state = s'; bytes = bytes; end = end }) r.added r.follows (content_short s h content)
