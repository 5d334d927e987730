-- Refusals of the texts, as the code and the definitions have them.
use Rattle.std.proofs.Common.{◌≡◌, ◌≢◌, ℕ, List, ◌++◌, Result, Ok, Err, Bool, true, false, T, refl, sym, ap, ◌∙◌, subst}
use Rattle.json_view.specs.Refusals as view
use Rattle.json_view.specs.declared.error.ViewError.{ViewError}
use Rattle.json_view.specs.declared.error.ViewError.TheVariants as error
use Rattle.doc_texts.specs.Texts.{Texts}
use Rattle.doc_texts.specs.declared.error.DocError.{DocError}
use Rattle.doc_texts.specs.declared.error.DocError.TheVariants as doc
use Rattle.c_session.specs.Loading.{settles, watched_log}
use Rattle.c_session.specs.Reasons.{Reason, ByTexts, by_params}
use Rattle.c_session.specs.Ties.Refused.{reason, of_params, of_texts}
use Rattle.lsp_answers.specs.Replies.{log}
use Rattle.c_session.specs.Ties.Sessions.{loading}
use Rattle.c_session.specs.declared.reasons.Refusal.{Refusal}
use Rattle.c_session.specs.declared.reasons.Refusal.TheVariants.{NoMemory}

abbrev is_memory : DocError → Bool
is_memory doc.AlreadyOpen = false
is_memory doc.NotOpen = false
is_memory doc.Reversed = false
is_memory doc.TooLong = false
is_memory doc.TooManyFiles = false
is_memory doc.OutsideRoot = false
is_memory doc.TooMuchText = false
is_memory doc.NotText = false
is_memory doc.NoMemory = true

not_memory : (e : DocError) → of_texts e ≢ NoMemory → is_memory e ≡ false
not_memory doc.AlreadyOpen h = refl
not_memory doc.NotOpen h = refl
not_memory doc.Reversed h = refl
not_memory doc.TooLong h = refl
not_memory doc.TooManyFiles h = refl
not_memory doc.OutsideRoot h = refl
not_memory doc.TooMuchText h = refl
not_memory doc.NotText h = refl
not_memory doc.NoMemory h = absurd (h refl)

apart : (e : DocError) → is_memory e ≡ false → e ≢ doc.NoMemory
apart e h is = subst T (sym (ap is_memory is) ∙ h) tt

same_reason : (e : DocError) → of_texts e ≢ NoMemory → reason (of_texts e) ≡ ByTexts e
same_reason doc.AlreadyOpen h = refl
same_reason doc.NotOpen h = refl
same_reason doc.Reversed h = refl
same_reason doc.TooLong h = refl
same_reason doc.TooManyFiles h = refl
same_reason doc.OutsideRoot h = refl
same_reason doc.TooMuchText h = refl
same_reason doc.NotText h = refl
same_reason doc.NoMemory h = absurd (h refl)

-- a change that the texts refused, and that was logged
pub settled_refused : (e : DocError) (meant : Result Texts DocError) (docs docs' : Texts) (logs logs' : List ℕ) →
    (e ≢ doc.NoMemory → meant ≡ Err e) → docs' ≡ docs → of_texts e ≢ NoMemory → logs' ≡ logs ++ log (watched_log (reason (of_texts e))) →
    loading docs' logs' ≡ settles (λ x. watched_log (ByTexts x)) (loading docs logs) meant
settled_refused e meant docs docs' logs logs' means kept refused wrote =
    ap (λ (d : Texts). loading d logs') kept
    ∙ ap (λ (l : List ℕ). loading docs l) (wrote ∙ ap (λ (r : Reason). logs ++ log (watched_log r)) (same_reason e refused))
    ∙ ap (settles (λ x. watched_log (ByTexts x)) (loading docs logs)) (sym (means (apart e (not_memory e refused))))

abbrev is_view_memory : view.Refusal → Bool
is_view_memory (view.Missing key) = false
is_view_memory (view.WrongKind key) = false
is_view_memory (view.OutOfRange key) = false
is_view_memory view.NoMemory = true

-- params that are refused, as the code and the definitions have them
unlike_memory : {T : Type 0} (r : view.Refusal) → is_view_memory r ≡ false → ◌≢◌ {A = Result T view.Refusal} (Err r) (Err view.NoMemory)
unlike_memory r h is = subst T (sym (ap seen_memory is) ∙ h) tt
  where
    seen_memory : {T : Type 0} → Result T view.Refusal → Bool
    seen_memory (Ok x) = false
    seen_memory (Err r) = is_view_memory r

pub params_refused : {T : Type 0} (e : ViewError) (meant : Result T view.Refusal) →
    (◌≢◌ {A = Result T view.Refusal} (Err (view.refusal e)) (Err view.NoMemory) → Err (view.refusal e) ≡ meant) → of_params e ≢ NoMemory →
    by_params meant ≡ Err (reason (of_params e))
params_refused (error.Missing key) meant means h = ap by_params (sym (means (unlike_memory (view.Missing key.now) refl)))
params_refused (error.WrongKind key) meant means h = ap by_params (sym (means (unlike_memory (view.WrongKind key.now) refl)))
params_refused (error.OutOfRange key) meant means h = ap by_params (sym (means (unlike_memory (view.OutOfRange key.now) refl)))
params_refused error.NoMemory meant means h = absurd (h refl)

pub params_refused_by : {T : Type 0} (e : ViewError) (r : Refusal) (meant : Result T view.Refusal) → r ≡ of_params e →
    (◌≢◌ {A = Result T view.Refusal} (Err (view.refusal e)) (Err view.NoMemory) → Err (view.refusal e) ≡ meant) → r ≢ NoMemory → by_params meant ≡ Err (reason r)
params_refused_by e r meant is means h = params_refused e meant means (λ same. h (is ∙ same)) ∙ ap (λ x. Err (reason x)) (sym is)
