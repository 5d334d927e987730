-- Each message is answered as it has to be, and `exit` alone ends.
use Rattle.std.proofs.Common.{◌≡◌, ℕ, ℤ, Bool, true, false, cond, List, [], ◌∷◌, ◌++◌, codes, Option, None, Some, option_and_then, option_map, is_some, T, Result, Ok, Err, refl, sym, ap, ◌∙◌, subst, inl, inr, append-nil, append_assoc, bytes_eq, true≢false}
use Rattle.std.proofs.lemmas.Slice.Eq.{bytes_eq-Decides}
use Rattle.serde_json.specs.Data.{Data, null}
use Rattle.io_edges.specs.Store.{Call, Entry}
use Rattle.text_lines.specs.declared.encoding.Encoding.{Encoding}
use Rattle.json_view.specs.declared.id.Id.{Id}
use Rattle.asking.specs.Asking.{Answers, Asks, asks_all}
use Rattle.asking.specs.InTurn as turns
use Rattle.asking.specs.InTurn.{Turn, after_one, behind_one, further, run}
use Rattle.c_session.specs.Asking.{Asking, Answer, answer_in, calls, Gives, after_all}
use Rattle.c_session.specs.Handled.{Reached, outcome}
use Rattle.c_session.specs.Loading.{Loading, loads_root, read_back, updates_at, updates_all, did_change_watched}
use Rattle.c_session.specs.Message.{Message, NotJson, Batch, NotObject, Ignored, BadId, BadMethod, Notification, Request, message}
use Rattle.c_session.specs.Params.{FileChange, watching_in}
use Rattle.c_session.specs.declared.params.FileChangeKind.{FileChangeKind}
use Rattle.c_session.specs.Questions.{question_named, about_in}
use Rattle.c_session.specs.declared.questions.QuestionKind.{QuestionKind}
use Rattle.c_session.specs.React.{Outcome, tells, is_quiet, has_texts, invalid_request, method_not_found, server_not_initialized, rejects, refuses, did_open, did_change, did_close, Edited, opened_by, changed_by, closed_by, edits, closes, watches, Beginning, beginning_by, begins, starts, is_running, exit_status, answers, answered as said, asks_about, renames, settled, settles, fresh_request, running_request, on_request, running_notification, on_notification, on_message, asks, Reaction, Replies, Wants, reaction, react}
use Rattle.c_session.specs.Reasons.{Reason, reason_text, by_params}
use Rattle.c_session.specs.Renames.{Renaming, edits_of, rename_method, renaming_in}
use Rattle.c_session.specs.Refused.{invalid_params, refusal_code, refusal_name}
use Rattle.rename_core.specs.declared.confirming.Edits.{Edits}
use Rattle.rename_core.specs.declared.error.RenameError.{RenameError}
use Rattle.lsp_answers.specs.Replies.{response, error, log, initialize_result}
use Rattle.c_session.specs.Responses.{IsResponse, HasResult, HasError, AreNotices, IsResponded, IsAnswered, IsExit, is_edit, IsRefusal, Fails, Logs}
use Rattle.c_session.specs.Shown.{publications, database_logs}
use Rattle.c_session.specs.State.{State, in_phase, with_texts}
use Rattle.c_session.specs.declared.phase.Phase.{Phase}
use Rattle.c_session.specs.declared.phase.Phase.TheVariants.{Fresh, Running, Down}
use Rattle.c_session.proofs.Responding.{Each, each_then, each_if, each_if_by, no_notice, more_notices, log_notice, tidings_notices, Logged, LogsLoad, KeepsRefused, root_logged, read_back_logged, read_back_logs, changes_logged, change_keeps}
use Rattle.c_session.proofs.Unlike.{no_notices, no_error, no_closing, no_refusal}

-- ---- what an outcome has to be, by the message

abbrev IsError : List ℕ → Type 0
IsError bytes = (id : Option Id) × ((code : ℤ) × ((text : List ℕ) × (bytes ≡ error id code text)))

-- a request that starts here: one response, then notifications, and no end; an error leaves the state
record Responds (s : State) (id : Id) (o : Outcome) : Type 0 where
  answers : IsResponded (Some id) o.bytes
  goes_on : o.end ≡ None
  kept : IsError o.bytes → o.state ≡ s

-- a notification: notifications alone, and no end; a log that refuses an edit leaves the state
record Notifies (s : State) (method : List ℕ) (o : Outcome) : Type 0 where
  answers : AreNotices o.bytes
  goes_on : o.end ≡ None
  kept : (text : List ℕ) → is_edit method ≡ true → o.bytes ≡ log (method ++ codes ": " ++ text) → o.state ≡ s

-- the message ends just where it is an `exit`, with the status of the phase
abbrev EndsBy : State → Message → Option ℕ → Type 0
EndsBy s m None = IsExit m → ⊥
EndsBy s m (Some status) = IsExit m × (status ≡ exit_status s.phase)

record Fits (s : State) (m : Message) (o : Outcome) : Type 0 where
  answers : IsAnswered m o.bytes
  ends : EndsBy s m o.end
  kept : IsRefusal m o.bytes → o.state ≡ s

no_end : (s : State) (m : Message) (end : Option ℕ) → (IsExit m → ⊥) → end ≡ None → EndsBy s m end
no_end s m end other is = subst (EndsBy s m) (sym is) other

either : {A : Type 0} (P : A → Type 0) (b : Bool) (x y : A) → P x → P y → P (cond b x y)
either P true x y h k = h
either P false x y h k = k

-- ---- requests

alone : (id : Option Id) (bytes : List ℕ) → IsResponse id bytes → IsResponded id bytes
alone id bytes is = record {
  first = bytes;
  rest = [];
  responds = is;
  notices = no_notice;
  joined = sym (append-nil bytes);
}

rejected : (s : State) (id : Id) (code : ℤ) (text : List ℕ) → Responds s id (rejects s (Some id) code text)
rejected s id code text = record {
  answers = alone (Some id) (error (Some id) code text) (HasError code text refl);
  goes_on = refl;
  kept = λ is. refl;
}

answered : (s s' : State) (id : Id) (result : Data) → Responds s id (tells s' (response id result))
answered s s' id result = record {
  answers = alone (Some id) (response id result) (HasResult id result refl refl);
  goes_on = refl;
  kept = λ is. absurd (no_error id result [] is.0 is.1.0 is.1.1.0 (append-nil (response id result) ∙ is.1.1.1));
}

begun : (s : State) (id : Id) (encoding : Encoding) (prepare : Bool) (l : Loading) → Logged l → Responds s id (begins s id encoding prepare l)
begun s id encoding prepare l logged =
    let answer = response id (initialize_result encoding prepare) in
    let s' : State = record { options = s.options; texts = l.texts; encoding = encoding; phase = Running } in
    let shown = database_logs s s' ++ publications [] s s' in
    record {
      answers = record {
        first = answer;
        rest = l.logs ++ shown;
        responds = HasResult id (initialize_result encoding prepare) refl refl;
        notices = more_notices l.logs shown logged (tidings_notices [] s s');
        joined = append_assoc answer l.logs shown;
      };
      goes_on = refl;
      kept = λ is. absurd (no_error id (initialize_result encoding prepare) (l.logs ++ shown) is.0 is.1.0 is.1.1.0 (sym (append_assoc answer l.logs shown) ∙ is.1.1.1));
    }

starts_responds : (s : State) (id : Id) (r : Result Beginning Reason) → Each (Responds s id) (starts s id r)
starts_responds s id (Ok b) =
    each_then Logged (Responds s id) (loads_root b.root) (λ l. Gives (begins s id b.encoding b.prepare l)) (root_logged b.root)
    (λ l logged. begun s id b.encoding b.prepare l logged)
starts_responds s id (Err r) = rejected s id invalid_params (reason_text r)

fresh_responds : (s : State) (id : Id) (method : List ℕ) (params : Option Data) →
    Each (Responds s id) (fresh_request s id method params)
unfolding fresh_request
fresh_responds s id method params =
    each_if (Responds s id) (bytes_eq method (codes "initialize")) (starts s id (beginning_by params)) _
    (starts_responds s id (beginning_by params)) (rejected s id server_not_initialized (codes "not initialized"))

answers_respond : (s : State) (id : Id) (r : Result Data Reason) → Responds s id (answers s id r)
answers_respond s id (Ok result) = answered s s id result
answers_respond s id (Err r) = rejected s id invalid_params (reason_text r)

question_responds : (s : State) (id : Id) (kind : Option QuestionKind) (params : Option Data) → Responds s id (asks_about s id kind params)
question_responds s id None params = rejected s id method_not_found (codes "unknown method")
question_responds s id (Some kind) params = answers_respond s id (said s (about_in kind params))

settled_responds : (s : State) (id : Id) (r : Result Edits RenameError) → Responds s id (settles s id r)
settled_responds s id (Ok e) = answered s s id (edits_of s.texts s.encoding e)
settled_responds s id (Err e) = rejected s id (refusal_code e) (refusal_name e)

rename_responds : (s : State) (id : Id) (r : Result Renaming Reason) → Responds s id (renames s id r)
rename_responds s id (Ok r) = settled_responds s id (settled s r)
rename_responds s id (Err r) = rejected s id invalid_params (reason_text r)

running_responds : (s : State) (id : Id) (method : List ℕ) (params : Option Data) → Responds s id (running_request s id method params)
unfolding running_request
running_responds s id method params =
    either (Responds s id) (bytes_eq method (codes "initialize")) _ _
    (rejected s id invalid_request (codes "already initialized"))
    (either (Responds s id) (bytes_eq method (codes "shutdown")) _ _
    (answered s (in_phase Down s) id null)
    (either (Responds s id) (bytes_eq method rename_method) _ _
    (rename_responds s id (renaming_in params))
    (question_responds s id (question_named method) params)))

request_responds : (phase : Phase) (s : State) (id : Id) (method : List ℕ) (params : Option Data) →
    Each (Responds s id) (on_request phase s id method params)
request_responds Fresh s id method params = fresh_responds s id method params
request_responds Running s id method params = running_responds s id method params
request_responds Down s id method params = rejected s id invalid_request (codes "shut down")

-- ---- notifications

quiet : (s : State) (method : List ℕ) → Notifies s method (is_quiet s)
quiet s method = record { answers = no_notice; goes_on = refl; kept = λ text edit is. refl }

refused : (s : State) (method named text : List ℕ) → Notifies s method (refuses s named text)
refused s method named text = record { answers = log_notice _; goes_on = refl; kept = λ other edit is. refl }

new_notices : (s s' : State) (logs : List ℕ) (touched : List (List ℕ)) → AreNotices logs → AreNotices (has_texts s s' [] logs touched).bytes
new_notices s s' logs touched logged =
    more_notices logs (database_logs s s' ++ publications touched s s') logged (tidings_notices touched s s')

edits_notify : (s : State) (method named : List ℕ) (r : Result Edited Reason) → Notifies s method (edits s named r)
edits_notify s method named (Ok e) =
    let s' = with_texts e.texts s in
    record {
      answers = new_notices s s' [] (e.path ∷ []) no_notice;
      goes_on = refl;
      kept = λ text edit is. absurd (no_refusal (e.path ∷ []) s s' method text edit is);
    }
edits_notify s method named (Err r) = refused s method named (reason_text r)

-- what was logged where a document was closed is no refusal of that
loaded_no_closing : (s s' : State) (l : Loading) (method text : List ℕ) → method ≡ did_close → is_edit method ≡ true → LogsLoad l →
    (has_texts s s' [] l.logs []).bytes ≡ log (method ++ codes ": " ++ text) → ⊥
loaded_no_closing s s' l method text closes edit logs is =
    let shown = database_logs s s' ++ publications [] s s' in
    let closing : l.logs ++ shown ≡ log (did_close ++ codes ": " ++ text) = is ∙ ap (λ (m : List ℕ). log (m ++ codes ": " ++ text)) closes in
    elim logs [
      | inl none ↦ no_refusal [] s s' method text edit (ap (λ (xs : List ℕ). xs ++ shown) (sym none) ∙ is)
      | inr load ↦ no_closing load.0 shown text (ap (λ (xs : List ℕ). xs ++ shown) (sym load.1) ∙ closing)
    ]

-- both of two facts of each result
each_both : {A : Type 0} (P Q : A → Type 0) (t : Asking A) → Each P t → Each Q t → Each (λ x. P x × Q x) t
each_both P Q (Gives x) h k = (h, k)
each_both P Q (Asks call more f) h k = λ answers. each_both P Q (f answers) (h answers) (k answers)

closes_notify : (s : State) (method : List ℕ) (r : Result Edited Reason) → method ≡ did_close → Each (Notifies s method) (closes s r)
closes_notify s method (Ok e) is =
    let start : Loading = record { texts = e.texts; logs = [] } in
    each_then (λ l. Logged l × LogsLoad l) (Notifies s method) (read_back start e.path) (λ l. Gives (has_texts s (with_texts l.texts s) [] l.logs []))
    (each_both Logged LogsLoad (read_back start e.path) (read_back_logged start e.path no_notice) (read_back_logs e.texts e.path))
    (λ l known. record {
      answers = new_notices s (with_texts l.texts s) l.logs [] known.0;
      goes_on = refl;
      kept = λ text edit same. absurd (loaded_no_closing s (with_texts l.texts s) l method text is edit known.1 same);
    })
closes_notify s method (Err r) is = refused s method did_close (reason_text r)

no_edit : (method : List ℕ) → method ≡ did_change_watched → is_edit method ≡ true → ⊥
no_edit method is edit = true≢false (sym edit ∙ ap is_edit is)

watches_notify : (s : State) (method : List ℕ) (r : Result (List FileChange) Reason) → method ≡ did_change_watched → Each (Notifies s method) (watches s r)
watches_notify s method (Ok changes) is =
    each_then Logged (Notifies s method) (updates_all (record { texts = s.texts; logs = [] }) changes)
    (λ l. Gives (has_texts s (with_texts l.texts s) [] l.logs []))
    (changes_logged (record { texts = s.texts; logs = [] }) changes no_notice)
    (λ l logged. record {
      answers = new_notices s (with_texts l.texts s) l.logs [] logged;
      goes_on = refl;
      kept = λ text edit same. absurd (no_edit method is edit);
    })
watches_notify s method (Err r) is = refused s method did_change_watched (reason_text r)

by_test : (xs ys : List ℕ) → bytes_eq xs ys ≡ true → xs ≡ ys
by_test xs ys = (bytes_eq-Decides xs ys).0

running_notifies : (s : State) (method : List ℕ) (params : Option Data) →
    Each (Notifies s method) (running_notification s method params)
unfolding running_notification
running_notifies s method params =
    each_if (Notifies s method) (bytes_eq method did_open) (Gives (edits s did_open (opened_by s.texts params))) _
    (edits_notify s method did_open (opened_by s.texts params))
    (each_if (Notifies s method) (bytes_eq method did_change) (Gives (edits s did_change (changed_by s.texts s.encoding params))) _
    (edits_notify s method did_change (changed_by s.texts s.encoding params))
    (each_if_by (Notifies s method) (bytes_eq method did_close) (closes s (closed_by s.texts params)) _
    (λ is. closes_notify s method (closed_by s.texts params) (by_test method did_close is))
    (λ other. each_if_by (Notifies s method) (bytes_eq method did_change_watched) (watches s (by_params (watching_in params)))
    (Gives (is_quiet s))
    (λ is. watches_notify s method (by_params (watching_in params)) (by_test method did_change_watched is)) (λ none. quiet s method))))

-- ---- messages

each_weaker : {A : Type 0} (P Q : A → Type 0) (t : Asking A) → ((x : A) → P x → Q x) → Each P t → Each Q t
each_weaker P Q (Gives x) weaker h = weaker x h
each_weaker P Q (Asks call more f) weaker h = λ answers. each_weaker P Q (f answers) weaker (h answers)

abbrev is_notification : Message → Bool
is_notification (Notification method params) = true
is_notification (Request id method params) = false
is_notification Ignored = false
is_notification NotJson = false
is_notification Batch = false
is_notification NotObject = false
is_notification BadId = false
is_notification (BadMethod id) = false

abbrev method_or : List ℕ → Message → List ℕ
method_or other (Notification method params) = method
method_or other (Request id method params) = other
method_or other Ignored = other
method_or other NotJson = other
method_or other Batch = other
method_or other NotObject = other
method_or other BadId = other
method_or other (BadMethod id) = other

-- a refusal of a message that is no notification is an error
refusal_fails : (m : Message) (bytes : List ℕ) → is_notification m ≡ false → IsRefusal m bytes → IsError bytes
refusal_fails m bytes other (Fails id code text is) = (id, (code, (text, is)))
refusal_fails m bytes other (Logs method params text edit same is) = absurd (true≢false (sym (ap is_notification same) ∙ other))

responded : (s : State) (id : Id) (method : List ℕ) (params : Option Data) (o : Outcome) → Responds s id o → Fits s (Request id method params) o
responded s id method params o h = record {
  answers = h.answers;
  ends = no_end s (Request id method params) o.end (λ is. is) h.goes_on;
  kept = λ refusal. h.kept (refusal_fails (Request id method params) o.bytes refl refusal);
}

notice_kept : (s : State) (method : List ℕ) (params : Option Data) (o : Outcome) → Notifies s method o → IsRefusal (Notification method params) o.bytes → o.state ≡ s
notice_kept s method params o h (Fails id code text is) =
    absurd (no_notices id (error id code text) [] (HasError code text refl) (subst AreNotices (is ∙ sym (append-nil (error id code text))) h.answers))
notice_kept s method params o h (Logs named others text edit same is) =
    let named_is : named ≡ method = sym (ap (method_or method) same) in
    h.kept text (subst (λ m. is_edit m ≡ true) named_is edit) (is ∙ ap (λ (m : List ℕ). log (m ++ codes ": " ++ text)) named_is)

notified : (s : State) (method : List ℕ) (params : Option Data) (o : Outcome) → (method ≡ codes "exit" → ⊥) → Notifies s method o → Fits s (Notification method params) o
notified s method params o other h = record {
  answers = h.answers;
  ends = no_end s (Notification method params) o.end other h.goes_on;
  kept = notice_kept s method params o h;
}

no_test : (xs ys : List ℕ) → bytes_eq xs ys ≡ false → xs ≡ ys → ⊥
no_test xs ys differ same = true≢false (sym ((bytes_eq-Decides xs ys).1 same) ∙ differ)

notification_fits : (s : State) (method : List ℕ) (params : Option Data) →
    Each (Fits s (Notification method params)) (on_notification s method params)
unfolding on_notification
notification_fits s method params =
    each_if_by (Fits s (Notification method params)) (bytes_eq method (codes "exit")) _ _
    (λ is. record { answers = no_notice; ends = (by_test method (codes "exit") is, refl); kept = λ refusal. refl })
    (λ other. each_weaker (Notifies s method) (Fits s (Notification method params)) _
    (λ o h. notified s method params o (no_test method (codes "exit") other) h)
    (each_if (Notifies s method) (is_running s.phase) (running_notification s method params) (Gives (is_quiet s))
    (running_notifies s method params) (quiet s method)))

-- a content that is neither: it leaves the state
other_fits : (s : State) (m : Message) (bytes : List ℕ) → (IsExit m → ⊥) → IsAnswered m bytes → Fits s m (tells s bytes)
other_fits s m bytes other is = record { answers = is; ends = other; kept = λ refusal. refl }

message_fits : (s : State) (m : Message) → Each (Fits s m) (on_message s m)
message_fits s (Request id method params) =
    each_weaker (Responds s id) (Fits s (Request id method params)) (on_request s.phase s id method params)
    (λ o h. responded s id method params o h) (request_responds s.phase s id method params)
message_fits s (Notification method params) = notification_fits s method params
message_fits s NotJson = other_fits s NotJson _ (λ is. is) (HasError _ _ refl)
message_fits s Batch = other_fits s Batch _ (λ is. is) (HasError _ _ refl)
message_fits s NotObject = other_fits s NotObject _ (λ is. is) (HasError _ _ refl)
message_fits s Ignored = other_fits s Ignored [] (λ is. is) refl
message_fits s BadId = other_fits s BadId _ (λ is. is) (HasError _ _ refl)
message_fits s (BadMethod id) = other_fits s (BadMethod id) _ (λ is. is) (HasError _ _ refl)

asks_fits : (s : State) (content : List ℕ) → Each (Fits s (message content)) (asks s content)
unfolding asks
asks_fits s content = message_fits s (message content)

-- ---- answers

not_some : {A B : Type 0} (x : A) → None ≡ Some x → B
not_some x e = absurd (subst (λ o. T (is_some o)) (sym e) tt)

some_is : {A : Type 0} (x y : A) → Some x ≡ Some y → x ≡ y
some_is x y same = cc

each_all : {A : Type 0} (P : A → Type 0) (more : List Call) (f : Answers calls more → Asking A) →
    ((answers : Answers calls more) → Each P (f answers)) → Each P (asks_all more f)
each_all P [] f h = h tt
each_all P (call ∷ more) f h = h

answer_keeps : {A : Type 0} (P : A → Type 0) (call : Call) (more : List Call) (f : Answers calls (call ∷ more) → Asking A)
    (o : Option (Answer call)) (next : Asking A) →
    option_map (λ a. asks_all {kind = calls} more (λ answers. f (a, answers))) o ≡ Some next →
    ((answers : Answers calls (call ∷ more)) → Each P (f answers)) → Each P next
answer_keeps P call more f None next e h = not_some next e
answer_keeps P call more f (Some a) next e h =
    subst (Each P) (some_is (asks_all more (λ answers. f (a, answers))) next e)
    (each_all P more (λ answers. f (a, answers)) (λ answers. h (a, answers)))

one_keeps : {A : Type 0} (P : A → Type 0) (t next : Asking A) (entry : Entry) → after_one t entry ≡ Some next →
    Each P t → Each P next
one_keeps P (Gives x) next entry e h = not_some next e
one_keeps P (Asks call more f) next entry e h = answer_keeps P call more f (answer_in call entry) next e h

-- ---- a run

abbrev OfTurn : {A : Type 0} → (A → Type 0) → Turn calls A → Type 0
OfTurn P (turns.Gave x used) = P x
OfTurn P (turns.Wants call) = Unit {0}
OfTurn P (turns.Differs call entry) = Unit {0}

further_keeps : {A : Type 0} (P : A → Type 0) (n : ℕ) (turn : Turn calls A) → OfTurn P turn → OfTurn P (further n turn)
further_keeps P n (turns.Gave x used) h = h
further_keeps P n (turns.Wants call) h = tt
further_keeps P n (turns.Differs call entry) h = tt

behind_keeps : {A : Type 0} (P : A → Type 0) (call : Call) (entry : Entry) (answers : List Entry) (o : Option (Asking A)) →
    ((s : Asking A) → o ≡ Some s → OfTurn P (run s answers)) → OfTurn P (behind_one call entry (option_map (λ s. run s answers) o))
behind_keeps P call entry answers None h = tt
behind_keeps P call entry answers (Some s) h = further_keeps P 1 (run s answers) (h s refl)

keeps_at : {A : Type 0} (P : A → Type 0) (t : Asking A) (entry : Entry) (answers : List Entry) → Each P t →
    ((s : Asking A) → Each P s → OfTurn P (run s answers)) → OfTurn P (run t (entry ∷ answers))
keeps_at P (Gives x) entry answers h ih = h
keeps_at P (Asks call more f) entry answers h ih =
    behind_keeps P call entry answers (after_one (Asks call more f) entry) (λ s e. ih s (one_keeps P (Asks call more f) s entry e h))

run_keeps : {A : Type 0} (P : A → Type 0) (t : Asking A) (answers : List Entry) → Each P t → OfTurn P (run t answers)
run_keeps P (Gives x) [] h = h
run_keeps P (Asks call more f) [] h = tt
run_keeps P t (entry ∷ answers) h = keeps_at P t entry answers h (λ s. run_keeps P s answers)

pub watched_keeps : (old new : Loading) (kind : FileChangeKind) (path : Result (List ℕ) Reason) (answers : List Entry) (used : ℕ) →
    run (updates_at old kind path) answers ≡ turns.Gave new used → (new.logs ≡ old.logs → ⊥) → new.texts ≡ old.texts
watched_keeps old new kind path answers used gave logged =
    let kept : KeepsRefused old new = subst (OfTurn (KeepsRefused old)) gave (run_keeps (KeepsRefused old) (updates_at old kind path) answers (change_keeps old kind path)) in
    elim kept [
      | inl same ↦ absurd (logged same)
      | inr is ↦ is
    ]

-- ---- the reaction

abbrev OfReply : (Outcome → Type 0) → Reaction → Type 0
OfReply P (Replies s bytes end used) = P (outcome s bytes end)
OfReply P (Wants call) = Unit {0}

reply_of : (P : Outcome → Type 0) (turn : Turn calls Outcome) → OfTurn P turn → OfReply P (reaction turn)
reply_of P (turns.Gave o used) h = h
reply_of P (turns.Wants call) h = tt
reply_of P (turns.Differs call entry) h = tt

react_fits : (s next : State) (content bytes : List ℕ) (end : Option ℕ) (used : ℕ) (answers : List Entry) →
    react s content answers ≡ Replies next bytes end used → Fits s (message content) (outcome next bytes end)
unfolding react
react_fits s next content bytes end used answers is =
    let fits = Fits s (message content) in
    subst (OfReply fits) is (reply_of fits (run (asks s content) answers) (run_keeps fits (asks s content) answers (asks_fits s content)))

pub react_answered : (s next : State) (content bytes : List ℕ) (end : Option ℕ) (used : ℕ) (answers : List Entry) →
    react s content answers ≡ Replies next bytes end used → IsAnswered (message content) bytes
react_answered s next content bytes end used answers is = (react_fits s next content bytes end used answers is).answers

pub exit_ended : (s next : State) (content bytes : List ℕ) (status used : ℕ) (answers : List Entry) →
    react s content answers ≡ Replies next bytes (Some status) used → IsExit (message content)
exit_ended s next content bytes status used answers is =
    (react_fits s next content bytes (Some status) used answers is).ends.0

ended_as : (s : State) (m : Message) (end : Option ℕ) → EndsBy s m end → IsExit m → end ≡ Some (exit_status s.phase)
ended_as s m None ends is = absurd (ends is)
ended_as s m (Some status) ends is = ap Some ends.1

pub exit_ends : (s next : State) (content bytes : List ℕ) (end : Option ℕ) (used : ℕ) (answers : List Entry) →
    react s content answers ≡ Replies next bytes end used → IsExit (message content) → end ≡ Some (exit_status s.phase)
exit_ends s next content bytes end used answers is exit =
    ended_as s (message content) end (react_fits s next content bytes end used answers is).ends exit

pub react_kept : (s next : State) (content bytes : List ℕ) (end : Option ℕ) (used : ℕ) (answers : List Entry) →
    react s content answers ≡ Replies next bytes end used → IsRefusal (message content) bytes → next ≡ s
react_kept s next content bytes end used answers is = (react_fits s next content bytes end used answers is).kept

-- ---- what was handled

all_behind : {A : Type 0} (P : A → Type 0) (t : Asking A) (o : Option (Asking A)) (next : Asking A) (x : Entry)
    (xs : List Entry) →
    ((s : Asking A) → after_all s xs ≡ Some next → Each P s → Each P next) →
    after_one t x ≡ o → option_and_then (λ s. after_all s xs) o ≡ Some next → Each P t → Each P next
all_behind P t None next x xs ih is e h = not_some next e
all_behind P t (Some s) next x xs ih is e h = ih s e (one_keeps P t s x is h)

all_keep : {A : Type 0} (P : A → Type 0) (t next : Asking A) (xs : List Entry) → after_all t xs ≡ Some next →
    Each P t → Each P next
all_keep P t next [] e h = subst (Each P) (some_is t next e) h
all_keep P t next (x ∷ xs) e h = all_behind P t (after_one t x) next x xs (λ s. all_keep P s next xs) refl e h

-- what holds of each result holds of the one that was reached
pub reached_each : {A : Type 0} (P : A → Type 0) (t : Asking A) (x : A) (old new : Option (List Entry)) → Reached t (Gives x) old new → Each P t → P x
reached_each P t x old new r h = all_keep P t (Gives x) r.added r.follows h

handled_fits : (s : State) (content : List ℕ) (o : Outcome) (old new : Option (List Entry)) → Reached (asks s content) (Gives o) old new → Fits s (message content) o
handled_fits s content o old new r = reached_each (Fits s (message content)) (asks s content) o old new r (asks_fits s content)

pub handled_answered : (s : State) (content : List ℕ) (o : Outcome) (old new : Option (List Entry)) →
    Reached (asks s content) (Gives o) old new → IsAnswered (message content) o.bytes
handled_answered s content o old new r = (handled_fits s content o old new r).answers

pub handled_kept : (s : State) (content : List ℕ) (o : Outcome) (old new : Option (List Entry)) →
    Reached (asks s content) (Gives o) old new → IsRefusal (message content) o.bytes → o.state ≡ s
handled_kept s content o old new r = (handled_fits s content o old new r).kept
