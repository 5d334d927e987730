-- What is kept from message to message, and how the counter of steps stands behind one.
use Rattle.std.proofs.Common.{◌≡◌, ℕ, Bool, true, false, not, cond, codes, bytes_eq, List, [], ◌∷◌, ◌+◌, ◌||◌, length, Option, None, Some, Result, Ok, Err, IfOk, refl, sym, ap, ◌∙◌, subst, arith}
use Rattle.std.specs.FinMap.{empty}
use Rattle.std.specs.Prelude.{OnOk}
use Rattle.std.specs.List.{filter, list_any}
use Rattle.std.proofs.lemmas.Bool.{or_right}
use Rattle.std.proofs.lemmas.Slice.Eq.{bytes_eq-Decides}
use Rattle.serde_json.specs.Data.{Data}
use Rattle.json_view.specs.declared.id.Id.{Id}
use Rattle.doc_texts.specs.Texts.{Texts, text_at}
use Rattle.doc_texts.specs.Prior.{Prior}
use Rattle.project_conf.specs.Entries.{unit_conf}
use Rattle.project_conf.specs.declared.conf.Conf.{Conf}
use Rattle.project_conf.specs.declared.conf.UnitConf.{UnitConf}
use Rattle.plain_mean.specs.Confs.{conf_of}
use Rattle.plain_mean.specs.Renewed.{questions, has_other, is_renewed, renewed}
use Rattle.plain_mean.specs.Same.{same_conf}
use Rattle.plain_mean.specs.Shown.{units}
use Rattle.c_session.specs.Handled.{IsWork, rename_work, running_work}
use Rattle.c_session.specs.Message.{Message}
use Rattle.c_session.specs.Kept.{IsAnalysis}
use Rattle.c_session.specs.Questions.{question_named, about_in}
use Rattle.c_session.specs.React.{Edited, Outcome, tells, answers, answered, asks_about, renames, settled, settles, running_request}
use Rattle.c_session.specs.Renames.{Renaming, rename_method, renaming_in}
use Rattle.rename_core.specs.declared.confirming.Edits.{Edits}
use Rattle.rename_core.specs.declared.error.RenameError.{RenameError}
use Rattle.c_session.specs.Reasons.{Reason}
use Rattle.c_session.specs.Shown.{conf_in}
use Rattle.c_session.specs.State.{State, with_texts}
use Rattle.c_session.specs.Ties.News.{IsPrior, KeepsPrior}
use Rattle.c_session.specs.Ties.Refused.{Answers, Leaves, IsKeptBy, IsWorked, edited}
use Rattle.c_session.specs.Ties.Seen.{seen}
use Rattle.c_session.specs.Ties.Sessions.{IsKept, IsRenewal, WereKept, WasRead, Renews, Works, WorksBeside, Stood, Worked, current_state}
use Rattle.c_session.specs.declared.analysis.Analysis.{Analysis}
use Rattle.c_session.specs.declared.current.Current.{Current}
use Rattle.c_session.specs.declared.message.Message as code
use Rattle.c_session.specs.declared.message.Message.TheVariants as kind
use Rattle.c_session.specs.declared.phase.Phase.{Phase}
use Rattle.c_session.specs.declared.phase.Phase.TheVariants.{Fresh}
use Rattle.c_session.specs.declared.questions.QuestionKind.{QuestionKind}
use Rattle.c_session.specs.declared.reasons.Refusal.{Refusal}
use Rattle.c_session.proofs.Priors.{IsEdit}
use Rattle.c_session.proofs.Readings.{was_read}
use Rattle.c_session.proofs.Telling.{with_docs, nothing_remembered}

-- ---- the texts before

-- what is kept of the texts that stood when nothing was remembered
pub first_kept : (t t' : Texts) (none prior : Prior) → none ≡ empty → KeepsPrior none t prior t' → IsPrior t prior t'
first_kept t t' none prior nothing keeps = keeps.earlier t (subst (λ m. IsPrior t m t) (sym nothing) (nothing_remembered t))

-- what was kept of some texts is so behind a further step
pub kept_further : (prior last : Prior) (t t' : Texts) (kept : Analysis) → KeepsPrior prior t last t' → WereKept prior t kept → WereKept last t' kept
kept_further prior last t t' kept keeps w = record { before = w.before; read = w.read; since = keeps.earlier w.before w.since; were = w.were }

pub renews_as : (prior : Prior) (kept : Analysis) (s : State) (read : Conf) (old new : ℕ) → read ≡ conf_in s →
    ((t : Texts) (conf : Conf) → IsPrior t prior s.texts → IsAnalysis t conf kept → new ≡ old + length (renewed t conf s.texts read)) → Renews prior s.texts kept s old new
renews_as prior kept s read old new same are = subst (λ r. (t : Texts) (conf : Conf) → IsPrior t prior s.texts → IsAnalysis t conf kept → new ≡ old + length (renewed t conf s.texts r)) same are

pub renews_further : (prior last : Prior) (t t' : Texts) (kept : Analysis) (s s' : State) (old new : ℕ) → s' ≡ s → KeepsPrior prior t last t' → Renews last t' kept s old new → Renews prior t kept s' old new
renews_further prior last t t' kept s s' old new same keeps are =
    subst (λ x. Renews prior t kept x old new) (sym same) (λ b conf is were. are b conf (keeps.earlier b is) were)

-- ---- texts that stay

none_by : (f : List ℕ → Bool) (us : List (List ℕ)) → ((u : List ℕ) → list_any (bytes_eq u) us ≡ true → f u ≡ false) → filter f us ≡ []
none_by f [] none = refl
none_by f (u ∷ us) none =
    ap (λ b. cond b (u ∷ filter f us) (filter f us)) (none u (ap (λ b. b || list_any (bytes_eq u) us) ((bytes_eq-Decides u u).1 refl)))
    ∙ none_by f us (λ x among. none x (ap (λ b. bytes_eq x u || b) among ∙ or_right (bytes_eq x u) true refl))

none_other : {A : Type 0} (f : A → Bool) (qs : List A) → ((q : A) → f q ≡ false) → list_any f qs ≡ false
none_other f [] none = refl
none_other f (q ∷ qs) none = ap (λ b. b || list_any f qs) (none q) ∙ none_other f qs none

pub none_renewed : ((t t' : Texts) → ((path : List ℕ) → text_at t' path ≡ text_at t path) → (q : _) → has_other t t' q ≡ false) → ((a : UnitConf) → same_conf a a ≡ true) →
    (t : Texts) (conf : Conf) → renewed t conf t conf ≡ []
unfolding renewed
none_renewed stay same t conf =
    none_by (is_renewed t conf t conf) (units t conf)
    (λ u among i. not (among i) || (not (same (unit_conf conf u) i) || none_other (has_other t t) (questions t conf u) (stay t t (λ path. refl)) i))

is_renewal : ((t : Texts) (conf : Conf) → renewed t conf t conf ≡ []) → (s s' : State) (old new : ℕ) → Works s s' old new → IsRenewal s s' old new
is_renewal law s s' old new (Worked is) = is
is_renewal law s s' old new (Stood texts options are) =
    let same : renewed s.texts (conf_in s) s'.texts (conf_in s') ≡ renewed s.texts (conf_in s) s.texts (conf_in s) = λ i. renewed s.texts (conf_in s) (texts i) (conf_of (options i) (texts i)) in
    let none : length (renewed s.texts (conf_in s) s'.texts (conf_in s')) ≡ 0 = ap length (same ∙ law s.texts (conf_in s)) in
    omega (arith, are, none)

pub is_work : ((t : Texts) (conf : Conf) → renewed t conf t conf ≡ []) → (m : Message) (s s' : State) (more old new : ℕ) → more ≡ rename_work s m → WorksBeside more s s' old new → IsWork m s s' old new
is_work law m s s' more old new same works =
    let is : works.0 ≡ old + length (renewed s.texts (conf_in s) s'.texts (conf_in s')) = is_renewal law s s' old works.0 works.1 in
    let all : new ≡ works.0 + more = works.2 in
    omega (arith, is, all, same)

pub works_alone : (s s' : State) (old new : ℕ) → Works s s' old new → WorksBeside 0 s s' old new
works_alone s s' old new works = (new, works, (let none : new ≡ new + 0 = omega arith in none))

module _ {A E : Type 0} where
  pub alone_ok : (r : Result A E) (s s' : State) (old new : ℕ) → OnOk r (Works s s' old new) → OnOk r (WorksBeside 0 s s' old new)
  alone_ok (Ok x) s s' old new works = works_alone s s' old new works
  alone_ok (Err e) s s' old new works = tt

  pub is_work_ok : ((t : Texts) (conf : Conf) → renewed t conf t conf ≡ []) → (m : Message) (r : Result A E) (s s' : State) (old new : ℕ) → 0 ≡ rename_work s m → OnOk r (Works s s' old new) → OnOk r (IsWork m s s' old new)
  is_work_ok law m (Ok x) s s' old new same works = is_work law m s s' 0 old new same (works_alone s s' old new works)
  is_work_ok law m (Err e) s s' old new same works = tt

-- what a request had worked out beside, once the phase is known
pub works_in : (phase known : Phase) (s s' : State) (method : List ℕ) (params : Option Data) (old new : ℕ) → phase ≡ known → WorksBeside (running_work known s method params) s s' old new →
    WorksBeside (running_work phase s method params) s s' old new
works_in phase known s s' method params old new is works = subst (λ p. WorksBeside (running_work p s method params) s s' old new) (sym is) works

module _ {A E : Type 0} where
  pub fresh_works : (r : Result A E) (phase : Phase) (s s' : State) (method : List ℕ) (params : Option Data) (old new : ℕ) → phase ≡ Fresh → OnOk r (Works s s' old new) → OnOk r (WorksBeside (running_work phase s method params) s s' old new)
  fresh_works r phase s s' method params old new is works = subst (λ p. OnOk r (WorksBeside (running_work p s method params) s s' old new)) (sym is) (alone_ok r s s' old new works)

-- a method that isn't that of renames
pub no_rename : (method other : List ℕ) → bytes_eq method other ≡ true → bytes_eq other rename_method ≡ false → bytes_eq method rename_method ≡ false
no_rename method other is differs = ap (λ m. bytes_eq m rename_method) ((bytes_eq-Decides method other).0 is) ∙ differs

pub idle_counts : (method other : List ℕ) (test : Bool) (old more : ℕ) → test ≡ bytes_eq method other → test ≡ true → bytes_eq other rename_method ≡ false → old ≡ old + cond (bytes_eq method rename_method) more 0
idle_counts method other test old more tested is differs =
    (let zero : old ≡ old + 0 = omega arith in zero) ∙ ap (λ b. old + cond b more 0) (sym (no_rename method other (sym tested ∙ is) differs))

-- a content that is no request
pub others_work : (s : State) (m : code.Message) → ((id : Id) (method : _) (params : _) → m ≡ kind.Request id method params → ⊥) → 0 ≡ rename_work s (seen m)
others_work s kind.NotJson never = refl
others_work s kind.Batch never = refl
others_work s kind.NotObject never = refl
others_work s kind.Ignored never = refl
others_work s kind.BadId never = refl
others_work s (kind.BadMethod id) never = refl
others_work s (kind.Notification method params) never = refl
others_work s (kind.Request id method params) never = absurd (never id method params refl)

-- a message that leaves the state
pub no_work : (s : State) (count : ℕ) → Works s s count count
no_work s count = Stood refl refl refl

-- one that leaves the texts
pub left_works : (s s' : State) (t : Texts) (old new : ℕ) → s' ≡ with_texts t s → t ≡ s.texts → new ≡ old → Works s s' old new
left_works s s' t old new settings same are = subst (λ x. Works s x old new) (sym settings) (Stood same refl are)

-- a request while the session runs
abbrev IsIdle : State → ℕ → Outcome → Type 0
IsIdle s count o = Works s o.state count count

either : (P : Outcome → Type 0) (b : Bool) (x y : Outcome) → P x → P y → P (cond b x y)
either P true x y first second = first
either P false x y first second = second

answer_idles : (s : State) (id : Id) (r : Result Data Reason) (count : ℕ) → IsIdle s count (answers s id r)
answer_idles s id (Ok result) count = no_work s count
answer_idles s id (Err r) count = no_work s count

question_idles : (s : State) (id : Id) (kind : Option QuestionKind) (params : Option Data) (count : ℕ) → IsIdle s count (asks_about s id kind params)
question_idles s id None params count = no_work s count
question_idles s id (Some kind) params count = answer_idles s id (answered s (about_in kind params)) count

settled_idles : (s : State) (id : Id) (r : Result Edits RenameError) (count : ℕ) → IsIdle s count (settles s id r)
settled_idles s id (Ok e) count = no_work s count
settled_idles s id (Err e) count = no_work s count

rename_idles : (s : State) (id : Id) (r : Result Renaming Reason) (count : ℕ) → IsIdle s count (renames s id r)
rename_idles s id (Ok r) count = settled_idles s id (settled s r) count
rename_idles s id (Err r) count = no_work s count

running_idles : (s : State) (id : Id) (method : List ℕ) (params : Option Data) (count : ℕ) → IsIdle s count (running_request s id method params)
unfolding running_request
running_idles s id method params count =
    either (IsIdle s count) (bytes_eq method (codes "initialize")) _ _ (no_work s count)
    (either (IsIdle s count) (bytes_eq method (codes "shutdown")) _ _ (Stood refl refl refl)
    (either (IsIdle s count) (bytes_eq method rename_method) _ _ (rename_idles s id (renaming_in params) count)
    (question_idles s id (question_named method) params count)))

pub running_works : (s s' : State) (id : Id) (method : List ℕ) (params : Option Data) (bytes : List ℕ) (more old new : ℕ) → running_request s id method params ≡ tells s' bytes → new ≡ old + more →
    WorksBeside more s s' old new
running_works s s' id method params bytes more old new is counted =
    (old, subst (λ x. Works s x old old) (ap (λ (o : Outcome). o.state) is) (running_idles s id method params old), counted)

-- ---- texts that may be others

pub works_as : (s s1 s' : State) (old new : ℕ) → s' ≡ s1 → IsRenewal s s1 old new → Works s s' old new
works_as s s1 s' old new same is = subst (λ x. Works s x old new) (sym same) (Worked is)

pub edit_keeps : (c : Current) (t : Texts) (r : Result (List ℕ) Refusal) (meant : Result Edited Reason) (prior : Prior) →
    IfOk r (λ path. meant ≡ Ok (edited t path) → IsEdit path c.docs t × IsPrior c.docs prior t) → Answers (edited t) r meant → IsKept c → IsKeptBy r prior (with_docs t c)
edit_keeps c t (Ok path) meant prior edit answers kept = (
  record { before = c.docs; read = conf_in (current_state c); since = (edit answers).1; were = kept.0 },
  was_read c.words c.docs t prior c.read (edit answers).1 (edit answers).0.others.root kept.1,
)
edit_keeps c t (Err r) meant prior edit answers kept = tt

pub edit_kept : (r : Result (List ℕ) Refusal) (path : List ℕ) (prior : Prior) (c : Current) → r ≡ Ok path → IsKeptBy r prior c → WereKept prior c.docs c.kept × WasRead c.words prior c.docs c.read
edit_kept r path prior c is kept = subst (λ x. IsKeptBy x prior c) is kept

pub edit_works : (c : Current) (s' : State) (t : Texts) (r : Result (List ℕ) Refusal) (meant : Result Edited Reason) (prior : Prior) (old new : ℕ) → s' ≡ with_texts t (current_state c) →
    IfOk r (λ path. meant ≡ Ok (edited t path) → IsEdit path c.docs t × IsPrior c.docs prior t) → Answers (edited t) r meant → Leaves r c.docs t → IsKept c → IsWorked r prior (with_docs t c) old new →
    Works (current_state c) s' old new
edit_works c s' t (Ok path) meant prior old new settings edit answers leaves kept are =
    works_as (current_state c) (with_texts t (current_state c)) s' old new settings (are c.docs (conf_in (current_state c)) (edit answers).1 kept.0)
edit_works c s' t (Err r) meant prior old new settings edit answers leaves kept are = left_works (current_state c) s' t old new settings leaves are

-- ---- a content

pub handled_works : (m m1 : Message) (s s1 s' : State) (old old1 new : ℕ) → m1 ≡ m → s1 ≡ s → old1 ≡ old → IsWork m1 s1 s' old1 new → IsWork m s s' old new
handled_works m m1 s s1 s' old old1 new read same counted are =
    subst (λ o. IsWork m s s' o new) counted (subst (λ x. IsWork m x s' old1 new) same (subst (λ x. IsWork x s1 s' old1 new) read are))
