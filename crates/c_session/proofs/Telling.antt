-- What the reply to a message is made of.
use Rattle.std.proofs.Common.{◌≡◌, ◌≢◌, ℕ, Bool, List, [], ◌++◌, Option, Some, Result, Ok, Err, true, is_some, T, IfOk, refl, sym, ap, ◌∙◌, subst, codes}
use Rattle.std.specs.Cmp.Lexicographic.{slice_cmp}
use Rattle.std.specs.FinMap.{empty, get-empty}
use Rattle.std.specs.Ordering.{nat_cmp}
use Rattle.serde_json.specs.Data.{Data}
use Rattle.io_edges.specs.Store.{Entry}
use Rattle.text_lines.specs.declared.encoding.Encoding.{Encoding}
use Rattle.uri_paths.specs.Uris.{path_of_uri}
use Rattle.doc_texts.specs.Texts.{Texts, text_at}
use Rattle.doc_texts.specs.Docs.{opened, changed, closed}
use Rattle.doc_texts.specs.Prior.{Prior, remembered}
use Rattle.doc_texts.specs.declared.error.DocError.{DocError}
use Rattle.c_session.specs.Asking.{Asking, Gives, and_then}
use Rattle.json_view.specs.declared.id.Id.{Id}
use Rattle.c_session.specs.Handled.{Reached}
use Rattle.c_session.specs.Ties.Interrupted.{Refused, GaveUp}
use Rattle.c_session.specs.Loading.{Loading, read_back, updates_all, loads_root, did_change_watched}
use Rattle.c_session.specs.Ties.News.{IsPrior, KeepsPrior, ByPath, HasPublished, tidings}
use Rattle.c_session.specs.Params.{FileChange, opening_in, changing_in}
use Rattle.c_session.specs.React.{Outcome, Edited, tells, has_texts, edits, opened_by, changed_by, closes, did_close, watches, Beginning, begins, starts, on_message, asks}
use Rattle.c_session.specs.Message.{Message, value_of, of_read}
use Rattle.c_session.specs.Reasons.{Reason, reason_text, by_params, by_uri, by_texts, if_ok}
use Rattle.c_session.specs.Ties.Refused.{reason, Answers, Leaves, edited, IsReply, IsBehind}
use Rattle.c_session.specs.Ties.Sessions.{current_state, IsKept}
use Rattle.c_session.specs.declared.current.Current.{Current}
use Rattle.plain_mean.specs.Lists.{shown_in}
use Rattle.lsp_answers.specs.Replies as Replies
use Rattle.lsp_answers.specs.Replies.{log, initialize_result}
use Rattle.c_session.specs.Shown.{shows}
use Rattle.c_session.specs.State.{State, with_texts}
use Rattle.c_session.specs.declared.phase.Phase.TheVariants.{Running}
use Rattle.c_session.specs.declared.error.SessionError.{SessionError}
use Rattle.c_session.specs.declared.reasons.Refusal.{Refusal}
use Rattle.c_session.specs.declared.reasons.Refusal.TheVariants.{NoMemory}
use Rattle.c_session.proofs.Asking.{goes_then, gave_up, reached_same, refused_then}
use Rattle.c_session.proofs.Priors.{IsEdit, opened_edits, changed_edits, keeps_prior}
use Rattle.c_session.proofs.Publications.{news_told, touched_told}

-- ---- steps that weren't refused

refused_not : {A T : Type 0} (e : Reason) (x : T) → ◌≡◌ {A = Result T Reason} (Err e) (Ok x) → A
refused_not {T = T} e x is = absurd (subst is_err is tt)
  where
    is_err : {T : Type 0} → Result T Reason → Type 0
    is_err (Ok x) = ⊥
    is_err (Err x) = Unit {0}

pub record WentOn {T U : Type 0} (r : Result T Reason) (k : T → Result U Reason) (y : U) : Type 0 where
  pub value : T
  pub first : r ≡ Ok value
  pub second : k value ≡ Ok y

went_on : {T U : Type 0} (r : Result T Reason) (k : T → Result U Reason) (y : U) → if_ok r k ≡ Ok y → WentOn r k y
went_on (Ok x) k y is = record { value = x; first = refl; second = is }
went_on (Err e) k y is = refused_not e y is

texts_came : (r : Result Texts DocError) (t : Texts) → by_texts r ≡ Ok t → r ≡ Ok t
texts_came (Ok x) t is = ap (λ (r : Result Texts Reason). as_docs x r) is
  where
    as_docs : Texts → Result Texts Reason → Result Texts DocError
    as_docs x (Ok y) = Ok y
    as_docs x (Err e) = Ok x
texts_came (Err e) t is = refused_not _ t is

same_edit : (e e' : Edited) → ◌≡◌ {A = Result Edited Reason} (Ok e) (Ok e') → e ≡ e'
same_edit e e' is = ap (edit_or e) is
  where
    edit_or : Edited → Result Edited Reason → Edited
    edit_or other (Ok x) = x
    edit_or other (Err x) = other

-- ---- documents that are opened, changed and closed

pub opening_edits : (t t' : Texts) (params : Option Data) (path : List ℕ) → opened_by t params ≡ Ok (edited t' path) → IsEdit path t t'
unfolding opened_by
opening_edits t t' params path is =
    let o : WentOn (by_params (opening_in params)) _ (edited t' path) = went_on _ _ _ is in
    let p : WentOn (by_uri (path_of_uri o.value.uri)) _ (edited t' path) = went_on _ _ _ o.second in
    let d : WentOn (by_texts (opened t p.value o.value.uri o.value.version o.value.text)) (λ texts. Ok (edited texts p.value)) (edited t' path) = went_on _ _ _ p.second in
    subst (λ (e : Edited). IsEdit e.path t e.texts) (same_edit (edited d.value p.value) (edited t' path) d.second)
    (opened_edits t d.value p.value o.value.uri o.value.version o.value.text (texts_came _ d.value d.first))

pub changing_edits : (t t' : Texts) (encoding : Encoding) (params : Option Data) (path : List ℕ) → changed_by t encoding params ≡ Ok (edited t' path) → IsEdit path t t'
unfolding changed_by
changing_edits t t' encoding params path is =
    let o : WentOn (by_params (changing_in params)) _ (edited t' path) = went_on _ _ _ is in
    let p : WentOn (by_uri (path_of_uri o.value.uri)) _ (edited t' path) = went_on _ _ _ o.second in
    let d : WentOn (by_texts (changed t p.value o.value.version o.value.changes encoding)) (λ texts. Ok (edited texts p.value)) (edited t' path) = went_on _ _ _ p.second in
    subst (λ (e : Edited). IsEdit e.path t e.texts) (same_edit (edited d.value p.value) (edited t' path) d.second)
    (changed_edits t d.value p.value o.value.version o.value.changes encoding (texts_came _ d.value d.first))

-- ---- what was remembered

pub nothing_remembered : (start : Texts) → IsPrior start empty start
nothing_remembered start = record {
  held = λ path text is. absurd (subst (λ o. T (is_some o)) (sym is ∙ get-empty (slice_cmp nat_cmp) path) tt);
  rest = λ path none. refl;
}

there : {X : Type 0} (o : Option X) (x : X) → o ≡ Some x → is_some o ≡ true
there o x is = ap is_some is

-- what is kept of what files show, as they show it in a state
abbrev pub ShowsAll : State → ByPath → Type 0
ShowsAll s by_path = (path : List ℕ) → by_path path ≡ shows s path

-- the reply to an edit is what is meant
edit_told_at : (s : State) (t : Texts) (method : List ℕ) (r : Result (List ℕ) Refusal) (meant : Result Edited Reason) (prior : Prior) (bytes : List ℕ) (before after : ByPath) →
    ShowsAll s before → IfOk r (λ path. meant ≡ Ok (edited t path) → IsEdit path s.texts t × IsPrior s.texts prior t) →
    Answers (edited t) r meant → Leaves r s.texts t → IsReply method t s.encoding r bytes before after prior → IfOk r (λ _. ShowsAll (with_texts t s) after) →
    edits s method meant ≡ tells (with_texts t s) bytes
edit_told_at s t method (Ok path) meant prior bytes before after was edit answers leaves reply are =
    let is = edit answers in
    ap (edits s method) answers
    ∙ ap (tells (with_texts t s)) (sym (touched_told s (with_texts t s) path prior before after (there (text_at t path) is.0.text is.0.shows) is.1 was are) ∙ sym reply)
edit_told_at s t method (Err r) meant prior bytes before after was edit answers leaves reply are =
    ap (edits s method) (answers reply.0)
    ∙ ap (λ (x : Texts). tells (with_texts x s) (log (method ++ codes ": " ++ reason_text (reason r)))) (sym leaves)
    ∙ ap (tells (with_texts t s)) (sym reply.1)

-- in another state that is the same
if_ok_same : {s s' : State} (r : Result (List ℕ) Refusal) (after : ByPath) → s' ≡ s → IfOk r (λ _. ShowsAll s' after) → IfOk r (λ _. ShowsAll s after)
if_ok_same (Ok path) after same are = subst (λ x. ShowsAll x after) same are
if_ok_same (Err r) after same are = tt

pub edit_told : (s s' : State) (t : Texts) (method : List ℕ) (r : Result (List ℕ) Refusal) (meant : Result Edited Reason) (prior : Prior) (bytes : List ℕ) (before after : ByPath) →
    s' ≡ with_texts t s → ShowsAll s before → IfOk r (λ path. meant ≡ Ok (edited t path) → IsEdit path s.texts t × IsPrior s.texts prior t) →
    Answers (edited t) r meant → Leaves r s.texts t → IsReply method t s.encoding r bytes before after prior → IfOk r (λ _. ShowsAll s' after) →
    edits s method meant ≡ tells s' bytes
edit_told s s' t method r meant prior bytes before after same was edit answers leaves reply are =
    edit_told_at s t method r meant prior bytes before after was edit answers leaves reply (if_ok_same r after same are) ∙ ap (λ x. tells x bytes) (sym same)

-- what stands behind the reply
pub shows_behind : (r : Result (List ℕ) Refusal) (old new : Current) → IsBehind r old new → IfOk r (λ _. ShowsAll (current_state new) (shown_in new.kept.shown))
shows_behind (Ok path) old new kept = kept.0.shown.right
shows_behind (Err e) old new same = tt

abbrev pub with_docs : Texts → Current → Current
with_docs t c = record { alloc = c.alloc; words = c.words; docs = t; encoding = c.encoding; phase = c.phase; kept = c.kept; read = c.read }

pub kept_behind : (r : Result (List ℕ) Refusal) (c : Current) (t : Texts) (new : Current) → IsBehind r (with_docs t c) new → Leaves r c.docs t → IsKept c → IsKept new
kept_behind (Ok path) c t new kept leaves was = kept
kept_behind (Err e) c t new same leaves was = subst IsKept (sym (same ∙ ap (λ x. with_docs x c) leaves)) was

-- the text that a document had before it was opened or changed
edit_prior : (start t : Texts) (path : List ℕ) (none prior : Prior) → IsEdit path start t → none ≡ empty → prior ≡ remembered none start path → IsEdit path start t × IsPrior start prior t
edit_prior start t path none prior edit nothing is =
    (edit, subst (λ m. IsPrior start m t) (sym (is ∙ ap (λ m. remembered m start path) nothing)) ((keeps_prior empty start t path edit.others).earlier start (nothing_remembered start)))

pub opening_prior : (t t' : Texts) (params : Option Data) (r : Result (List ℕ) Refusal) (none prior : Prior) → none ≡ empty → IfOk r (λ path. prior ≡ remembered none t path) →
    IfOk r (λ path. opened_by t params ≡ Ok (edited t' path) → IsEdit path t t' × IsPrior t prior t')
opening_prior t t' params (Ok path) none prior nothing is = λ meant. edit_prior t t' path none prior (opening_edits t t' params path meant) nothing is
opening_prior t t' params (Err e) none prior nothing is = tt

pub changing_prior : (t t' : Texts) (encoding : Encoding) (params : Option Data) (r : Result (List ℕ) Refusal) (none prior : Prior) → none ≡ empty → IfOk r (λ path. prior ≡ remembered none t path) →
    IfOk r (λ path. changed_by t encoding params ≡ Ok (edited t' path) → IsEdit path t t' × IsPrior t prior t')
changing_prior t t' encoding params (Ok path) none prior nothing is = λ meant. edit_prior t t' path none prior (changing_edits t t' encoding params path meant) nothing is
changing_prior t t' encoding params (Err e) none prior nothing is = tt

-- ---- files that were read, and what that published

-- texts were loaded, and the reply tells what that changed
published_at : (s : State) (t : Texts) (asking : Asking Loading) (bytes logs : List ℕ) (prior : Prior) (before after : ByPath) (old new : Option (List Entry)) →
    Reached asking (Gives (record { texts = t; logs = logs })) old new → IsPrior s.texts prior t → ShowsAll s before → ShowsAll (with_texts t s) after →
    bytes ≡ logs ++ tidings [] s.encoding before after prior t →
    Reached (and_then asking (λ l. Gives (has_texts s (with_texts l.texts s) [] l.logs []))) (Gives (tells (with_texts t s) bytes)) old new
published_at s t asking bytes logs prior before after old new reached is was are wrote =
    subst (λ o. Reached (and_then asking (λ l. Gives (has_texts s (with_texts l.texts s) [] l.logs []))) (Gives o) old new)
    (ap (tells (with_texts t s)) (ap (λ b. ([] ++ logs) ++ b) (sym (news_told s (with_texts t s) prior before after is was are)) ∙ sym wrote))
    (goes_then asking (Gives (record { texts = t; logs = logs })) old new (λ l. Gives (has_texts s (with_texts l.texts s) [] l.logs [])) reached)

pub published_then : (s s' : State) (asking : Asking Loading) (bytes logs : List ℕ) (prior : Prior) (before after : ByPath) (old new : Option (List Entry)) →
    Reached asking (Gives (record { texts = s'.texts; logs = logs })) old new → s' ≡ with_texts s'.texts s → IsPrior s.texts prior s'.texts → ShowsAll s before → ShowsAll s' after →
    bytes ≡ logs ++ tidings [] s.encoding before after prior s'.texts →
    Reached (and_then asking (λ l. Gives (has_texts s (with_texts l.texts s) [] l.logs []))) (Gives (tells s' bytes)) old new
published_then s s' asking bytes logs prior before after old new reached settings is was are wrote =
    subst (λ x. Reached (and_then asking (λ l. Gives (has_texts s (with_texts l.texts s) [] l.logs []))) (Gives (tells x bytes)) old new) (sym settings)
    (published_at s s'.texts asking bytes logs prior before after old new reached is was (subst (λ x. ShowsAll x after) settings are) wrote)

-- a document was closed, its file read, and the reply tells what that changed
pub closed_then : (s s1 s' : State) (meant : Result Edited Reason) (path bytes : List ℕ) (before after : ByPath) (prior : Prior) (old new : Option (List Entry)) →
    meant ≡ Ok (edited s1.texts path) → s1 ≡ with_texts s1.texts s → IsPrior s.texts prior s1.texts → ShowsAll s before → ShowsAll s' after →
    HasPublished (read_back (record { texts = s1.texts; logs = [] }) path) s1 s' bytes before after prior old new →
    Reached (closes s meant) (Gives (tells s' bytes)) old new
closed_then s s1 s' meant path bytes before after prior old new meets settings is was are h =
    subst (λ m. Reached (closes s m) (Gives (tells s' bytes)) old new) (sym meets)
    (published_then s s' (read_back (record { texts = s1.texts; logs = [] }) path) bytes h.logs h.last before after old new h.reached
    (h.settings ∙ ap (with_texts s'.texts) settings) (h.keeps.earlier s.texts is) was are
    (h.wrote ∙ ap (λ (x : State). h.logs ++ tidings [] x.encoding before after h.last s'.texts) settings))

-- what reading a file back published
pub read_back_tells : (asking : Asking Loading) (s s' : State) (logs bytes : List ℕ) (before after : ByPath) (prior prior' : Prior) (old new : Option (List Entry)) →
    Reached asking (Gives (record { texts = s'.texts; logs = logs })) old new → s' ≡ with_texts s'.texts s → KeepsPrior prior s.texts prior' s'.texts →
    bytes ≡ logs ++ tidings [] s.encoding before after prior' s'.texts → HasPublished asking s s' bytes before after prior old new
read_back_tells asking s s' logs bytes before after prior prior' old new reached settings keeps wrote = record {
  logs = logs;
  reached = reached;
  settings = settings;
  last = prior';
  keeps = keeps;
  wrote = wrote;
}

-- where the file was read, the store refused, or memory was wanted
pub closed_refused : (s : State) (t : Texts) (meant : Result Edited Reason) (path : List ℕ) (old new : Option (List Entry)) (faults faults' : ℕ) (e : SessionError) →
    meant ≡ Ok (edited t path) → Refused e (read_back (record { texts = t; logs = [] }) path) old new faults faults' → Refused e (closes s meant) old new faults faults'
closed_refused s t meant path old new faults faults' e meets h =
    subst (λ m. Refused e (closes s m) old new faults faults') (sym meets)
    (refused_then (read_back (record { texts = t; logs = [] }) path) old new faults faults' (λ l. Gives (has_texts s (with_texts l.texts s) [] l.logs [])) e h)

-- a document that isn't closed
pub not_closed : (s : State) (texts : Texts) (meant : Result Edited Reason) (r : Refusal) (bytes : List ℕ) (told : Option (List Entry)) →
    (r ≢ NoMemory → meant ≡ Err (reason r)) → texts ≡ s.texts → r ≢ NoMemory → bytes ≡ log (did_close ++ codes ": " ++ reason_text (reason r)) →
    Reached (closes s meant) (Gives (tells (with_texts texts s) bytes)) told told
not_closed s texts meant r bytes told means leaves refused wrote =
    reached_same (closes s meant) (Gives (tells (with_texts texts s) bytes)) told
    (ap (closes s) (means refused)
    ∙ ap (λ (t : Texts). Gives (tells (with_texts t s) (log (did_close ++ codes ": " ++ reason_text (reason r))))) (sym leaves)
    ∙ ap (λ (b : List ℕ). Gives (tells (with_texts texts s) b)) (sym wrote))

-- ---- files that changed

-- changes were taken over
pub watched_then : (s s' : State) (changes : List FileChange) (bytes logs : List ℕ) (before after : ByPath) (prior : Prior) (old new : Option (List Entry)) →
    Reached (updates_all (record { texts = s.texts; logs = [] }) changes) (Gives (record { texts = s'.texts; logs = logs })) old new → s' ≡ with_texts s'.texts s →
    KeepsPrior empty s.texts prior s'.texts → ShowsAll s before → ShowsAll s' after → bytes ≡ logs ++ tidings [] s.encoding before after prior s'.texts →
    Reached (watches s (Ok changes)) (Gives (tells s' bytes)) old new
watched_then s s' changes bytes logs before after prior old new reached settings keeps was are wrote =
    published_then s s' (updates_all (record { texts = s.texts; logs = [] }) changes) bytes logs prior before after old new reached settings (keeps.earlier s.texts (nothing_remembered s.texts)) was are wrote

-- ---- the beginning

-- the session began
pub began_then : (s s' : State) (id : Id) (meant : Result Beginning Reason) (b : Beginning) (l : Loading) (bytes : List ℕ) (old new : Option (List Entry)) →
    meant ≡ Ok b → Reached (loads_root b.root) (Gives l) old new → begins s id b.encoding b.prepare l ≡ tells s' bytes → Reached (starts s id meant) (Gives (tells s' bytes)) old new
began_then s s' id meant b l bytes old new meets reached is =
    subst (λ m. Reached (starts s id m) (Gives (tells s' bytes)) old new) (sym meets)
    (subst (λ o. Reached (starts s id (Ok b)) (Gives o) old new) is
    (goes_then (loads_root b.root) (Gives l) old new (λ x. Gives (begins s id b.encoding b.prepare x)) reached))

pub began_refused : (s : State) (id : Id) (meant : Result Beginning Reason) (b : Beginning) (old new : Option (List Entry)) (faults faults' : ℕ) (e : SessionError) →
    meant ≡ Ok b → Refused e (loads_root b.root) old new faults faults' → Refused e (starts s id meant) old new faults faults'
began_refused s id meant b old new faults faults' e meets h =
    subst (λ m. Refused e (starts s id m) old new faults faults') (sym meets)
    (refused_then (loads_root b.root) old new faults faults' (λ x. Gives (begins s id b.encoding b.prepare x)) e h)

-- memory was wanted once the files were loaded
pub began_wants : (s : State) (id : Id) (meant : Result Beginning Reason) (b : Beginning) (l : Loading) (old new : Option (List Entry)) →
    meant ≡ Ok b → Reached (loads_root b.root) (Gives l) old new → GaveUp (starts s id meant) old new
began_wants s id meant b l old new meets reached =
    subst (λ m. GaveUp (starts s id m) old new) (sym meets)
    (gave_up (goes_then (loads_root b.root) (Gives l) old new (λ x. Gives (begins s id b.encoding b.prepare x)) reached))

-- ---- the same, as the calls have it: an empty list of logs, a response, and nothing remembered at first

joined : (bytes response logs logs' news : List ℕ) → bytes ≡ (response ++ logs) ++ news → response ≡ [] → logs ≡ logs' → bytes ≡ logs' ++ news
joined bytes response logs logs' news wrote none same =
    wrote ∙ ap (λ (r : List ℕ). (r ++ logs) ++ news) none ∙ ap (λ (l : List ℕ). ([] ++ l) ++ news) same

abbrev loaded_with : Texts → List ℕ → Loading
loaded_with texts logs = record { texts = texts; logs = logs }

closed_tells_at : (s : State) (t : Texts) (path logs0 logs shown response bytes : List ℕ) (before after : ByPath) (prior prior' : Prior) (old new : Option (List Entry)) →
    Reached (read_back (loaded_with s.texts logs0) path) (Gives (loaded_with t logs)) old new → logs0 ≡ [] →
    KeepsPrior prior s.texts prior' t → bytes ≡ (response ++ shown) ++ tidings [] s.encoding before after prior' t → response ≡ [] → shown ≡ logs →
    HasPublished (read_back (loaded_with s.texts []) path) s (with_texts t s) bytes before after prior old new
closed_tells_at s t path logs0 logs shown response bytes before after prior prior' old new reached none keeps wrote empty_response same =
    read_back_tells (read_back (loaded_with s.texts []) path) s (with_texts t s) logs bytes before after prior prior' old new
    (subst (λ (l : List ℕ). Reached (read_back (loaded_with s.texts l) path) (Gives (loaded_with t logs)) old new) none reached)
    refl keeps (joined bytes response shown logs _ wrote empty_response same)

pub closed_tells : (s s' : State) (t : Texts) (path logs0 logs shown response bytes : List ℕ) (before after : ByPath) (prior prior' : Prior) (old new : Option (List Entry)) → s' ≡ with_texts t s →
    Reached (read_back (loaded_with s.texts logs0) path) (Gives (loaded_with t logs)) old new → logs0 ≡ [] →
    KeepsPrior prior s.texts prior' t → bytes ≡ (response ++ shown) ++ tidings [] s.encoding before after prior' t → response ≡ [] → shown ≡ logs →
    HasPublished (read_back (loaded_with s.texts []) path) s s' bytes before after prior old new
closed_tells s s' t path logs0 logs shown response bytes before after prior prior' old new settings reached none keeps wrote empty_response same =
    subst (λ x. HasPublished (read_back (loaded_with s.texts []) path) s x bytes before after prior old new) (sym settings)
    (closed_tells_at s t path logs0 logs shown response bytes before after prior prior' old new reached none keeps wrote empty_response same)

pub watched_tells : (s s' : State) (t : Texts) (changes : List FileChange) (logs0 logs shown response bytes : List ℕ) (before after : ByPath) (prior0 prior : Prior) (old new : Option (List Entry)) → s' ≡ with_texts t s →
    Reached (updates_all (loaded_with s.texts logs0) changes) (Gives (loaded_with t logs)) old new → logs0 ≡ [] → prior0 ≡ empty →
    KeepsPrior prior0 s.texts prior t → ShowsAll s before → ShowsAll s' after → bytes ≡ (response ++ shown) ++ tidings [] s.encoding before after prior t → response ≡ [] → shown ≡ logs →
    Reached (watches s (Ok changes)) (Gives (tells s' bytes)) old new
watched_tells s s' t changes logs0 logs shown response bytes before after prior0 prior old new settings reached none nothing keeps was are wrote empty_response same =
    subst (λ x. Reached (watches s (Ok changes)) (Gives (tells x bytes)) old new) (sym settings)
    (watched_then s (with_texts t s) changes bytes logs before after prior old new
    (subst (λ (l : List ℕ). Reached (updates_all (loaded_with s.texts l) changes) (Gives (loaded_with t logs)) old new) none reached)
    refl (subst (λ (m : Prior). KeepsPrior m s.texts prior t) nothing keeps) was (subst (λ x. ShowsAll x after) settings are) (joined bytes response shown logs _ wrote empty_response same))

pub watched_refused : (s : State) (changes : List FileChange) (logs0 : List ℕ) (old new : Option (List Entry)) (faults faults' : ℕ) (e : SessionError) →
    Refused e (updates_all (loaded_with s.texts logs0) changes) old new faults faults' → logs0 ≡ [] → Refused e (watches s (Ok changes)) old new faults faults'
watched_refused s changes logs0 old new faults faults' e h none =
    refused_then (updates_all (loaded_with s.texts []) changes) old new faults faults' (λ l. Gives (has_texts s (with_texts l.texts s) [] l.logs [])) e
    (subst (λ (l : List ℕ). Refused e (updates_all (loaded_with s.texts l) changes) old new faults faults') none h)

pub watched_wants : (s : State) (changes : List FileChange) (logs0 : List ℕ) (l : Loading) (old new : Option (List Entry)) →
    Reached (updates_all (loaded_with s.texts logs0) changes) (Gives l) old new → logs0 ≡ [] → GaveUp (watches s (Ok changes)) old new
watched_wants s changes logs0 l old new reached none =
    gave_up (goes_then (updates_all (loaded_with s.texts []) changes) (Gives l) old new (λ x. Gives (has_texts s (with_texts x.texts s) [] x.logs []))
    (subst (λ (ls : List ℕ). Reached (updates_all (loaded_with s.texts ls) changes) (Gives l) old new) none reached))

-- a document that was closed, its text before being remembered
pub closes_tells : (s s1 s' : State) (meant : Result Edited Reason) (path bytes : List ℕ) (before after : ByPath) (prior0 prior : Prior) (old new : Option (List Entry)) →
    meant ≡ Ok (edited s1.texts path) → s1 ≡ with_texts s1.texts s → prior0 ≡ empty → KeepsPrior prior0 s.texts prior s1.texts → ShowsAll s before → ShowsAll s' after →
    HasPublished (read_back (loaded_with s1.texts []) path) s1 s' bytes before after prior old new → Reached (closes s meant) (Gives (tells s' bytes)) old new
closes_tells s s1 s' meant path bytes before after prior0 prior old new meets settings nothing keeps was are h =
    closed_then s s1 s' meant path bytes before after prior old new meets settings (keeps.earlier s.texts (subst (λ (m : Prior). IsPrior s.texts m s.texts) (sym nothing) (nothing_remembered s.texts))) was are h

-- the texts that the session begins with
abbrev pub begun : State → Texts → Encoding → State
begun s docs encoding = record { options = s.options; texts = docs; encoding = encoding; phase = Running }

begins_at_told : (s : State) (id : Id) (encoding : Encoding) (prepare : Bool) (docs : Texts) (logs shown response bytes : List ℕ) (before after : ByPath) (prior : Prior) (d : Data) →
    IsPrior s.texts prior docs → ShowsAll s before → ShowsAll (begun s docs encoding) after → d ≡ initialize_result encoding prepare → response ≡ Replies.response id d → shown ≡ logs →
    bytes ≡ (response ++ shown) ++ tidings [] encoding before after prior docs → begins s id encoding prepare (loaded_with docs logs) ≡ tells (begun s docs encoding) bytes
begins_at_told s id encoding prepare docs logs shown response bytes before after prior d is was are same_data same_response same wrote =
    ap (tells (begun s docs encoding))
    (ap (λ (b : List ℕ). (Replies.response id (initialize_result encoding prepare) ++ logs) ++ b) (sym (news_told s (begun s docs encoding) prior before after is was are))
    ∙ sym (wrote ∙ ap (λ (r : List ℕ). (r ++ shown) ++ tidings [] encoding before after prior docs) (same_response ∙ ap (Replies.response id) same_data)
    ∙ ap (λ (l : List ℕ). (Replies.response id (initialize_result encoding prepare) ++ l) ++ tidings [] encoding before after prior docs) same))

pub begins_tells : (s s' : State) (id : Id) (encoding : Encoding) (prepare : Bool) (docs : Texts) (logs shown response bytes : List ℕ) (before after : ByPath) (prior : Prior) (d : Data) →
    s' ≡ begun s docs encoding → IsPrior s.texts prior docs → ShowsAll s before → ShowsAll s' after → d ≡ initialize_result encoding prepare → response ≡ Replies.response id d → shown ≡ logs →
    bytes ≡ (response ++ shown) ++ tidings [] encoding before after prior docs → begins s id encoding prepare (loaded_with docs logs) ≡ tells s' bytes
begins_tells s s' id encoding prepare docs logs shown response bytes before after prior d now is was are same_data same_response same wrote =
    begins_at_told s id encoding prepare docs logs shown response bytes before after prior d is was (subst (λ x. ShowsAll x after) now are) same_data same_response same wrote
    ∙ ap (λ x. tells x bytes) (sym now)

-- changes whose params are refused
pub not_watched : (s : State) (meant : Result (List FileChange) Reason) (r : Refusal) (bytes : List ℕ) (told : Option (List Entry)) →
    meant ≡ Err (reason r) → bytes ≡ log (did_change_watched ++ codes ": " ++ reason_text (reason r)) → Reached (watches s meant) (Gives (tells s bytes)) told told
not_watched s meant r bytes told means wrote =
    reached_same (watches s meant) (Gives (tells s bytes)) told (ap (watches s) means ∙ ap (λ (b : List ℕ). Gives (tells s b)) (sym wrote))

-- ---- a content

asked_same : (s : State) (content : List ℕ) (read : Option Data) (kind : Message) → read ≡ value_of content → kind ≡ of_read read → on_message s kind ≡ asks s content
unfolding asks
asked_same s content read kind is_value is_kind = ap (on_message s) (is_kind ∙ ap of_read is_value)

pub asked_handled : (s s' : State) (content : List ℕ) (read : Option Data) (kind : Message) (o : Outcome) (old new : Option (List Entry)) → s' ≡ s →
    read ≡ value_of content → kind ≡ of_read read → Reached (on_message s' kind) (Gives o) old new → Reached (asks s content) (Gives o) old new
asked_handled s s' content read kind o old new same is_value is_kind r =
    subst (λ t. Reached t (Gives o) old new) (ap (λ x. on_message x kind) same ∙ asked_same s content read kind is_value is_kind) r

pub asked_refused : (s s' : State) (content : List ℕ) (read : Option Data) (kind : Message) (old new : Option (List Entry)) (faults faults' : ℕ) (e : SessionError) → s' ≡ s →
    read ≡ value_of content → kind ≡ of_read read → Refused e (on_message s' kind) old new faults faults' → Refused e (asks s content) old new faults faults'
asked_refused s s' content read kind old new faults faults' e same is_value is_kind h =
    subst (λ t. Refused e t old new faults faults') (ap (λ x. on_message x kind) same ∙ asked_same s content read kind is_value is_kind) h
