-- What a body means, by runs of its parts.
use Rattle.std.proofs.Common.{◌≡◌, refl, sym, ap, ◌∙◌, subst, T, Bool, true, false, List, [], ◌∷◌, Option, None, Some, Result, Ok, Err, IfOk}
use Rattle.asking.specs.Asking.{Answers, Asking, Gives, asks_all}
use Rattle.asking.specs.LookUps.{LookUp, Looked, Ends, Needs, by_found, found_all, run_by, unanswered}
use Rattle.elab_state.proofs.Askings.{some_lack, told_stand}
use Rattle.elab_state.specs.Comes.{Stops}
use Rattle.elab_state.specs.Contexts.{Context}
use Rattle.elab_state.specs.Doings.{begun}
use Rattle.elab_state.specs.Wants.{wants}
use Rattle.elab_state.specs.declared.halt.Halt.{Halt}
use Rattle.elab_state.specs.declared.halt.Halt.TheVariants.{Wants, NoMemory}
use Rattle.elab_state.specs.declared.wants.Elab.{Elab}
use Rattle.elab_state.specs.declared.wants.Wanted.{Wanted}
use Rattle.scope_tables.specs.declared.entities.ScopeKind.TheVariants.{File}
use Rattle.scope_tables.specs.declared.meanings.BodyMeaning.{BodyMeaning}
use Rattle.scope_tables.specs.declared.meanings.HeadMeaning.{HeadMeaning}
use Rattle.stmt_checks.specs.Halts.{IsAsked}
use Rattle.stmt_checks.specs.Meanings.{Means, MeansBehind, MeansBody, body_from, questions}

-- ---- a first list of questions of which some have no answer

abbrev is_end : {A : Type 0} → Looked wants A → Bool
is_end (Ends x) = true
is_end (Needs ws) = false

lacks_by : {A X : Type 0} (ws : List Wanted) (f : X → Looked wants A) (ends : X → Looked wants (Unit {0})) (o : Option X) → ((x : X) → is_end (ends x) ≡ true) →
    by_found {kind = wants} ws ends o ≡ Needs ws → by_found {kind = wants} ws f o ≡ Needs ws
lacks_by ws f ends None t e = refl
lacks_by ws f ends (Some x) t e = absurd (subst T (sym (t x) ∙ ap is_end e) tt)

abbrev nothing_more : Asking wants (Unit {0})
nothing_more = Gives (tt {0})

pub some_lack_by : {A : Type 0} (look : LookUp wants) (qs : List Wanted) (next : Answers wants qs → Asking wants A) → (unanswered wants look qs ≡ [] → ⊥) →
    run_by look (asks_all qs next) ≡ Needs (unanswered wants look qs)
some_lack_by look [] next h = absurd (h refl)
some_lack_by look (q ∷ qs) next h =
    lacks_by (unanswered wants look (q ∷ qs)) (λ answers. run_by look (next answers)) (λ answers. run_by look nothing_more)
    (found_all wants look (q ∷ qs)) (λ x. refl) (some_lack look (q ∷ qs) nothing_more h)

-- ---- and where all have one

pub behind_is : {E : Type 0} (look : LookUp wants) (c : Context) (head : HeadMeaning) (result : Result (Elab BodyMeaning) E) → unanswered wants look (questions c) ≡ [] →
    IfOk result (λ elab. MeansBehind look look c head elab) → IfOk result (λ elab. MeansBody look c head elab)
behind_is look c head (Ok elab) e h =
    λ r is. subst (λ run. Means run elab) (sym (told_stand look (questions c) (λ m. body_from r c head m) (begun File []) e)) (h r is)
behind_is look c head (Err x) e h = tt

-- ---- a run that stopped

pub needs_as : {A : Type 0} (run : Looked wants A) (halt : Halt) (list : List Wanted) → Stops run halt → IsAsked halt list → run ≡ Needs list
needs_as run (Wants q) list h e = h ∙ ap (λ qs. Needs qs) (sym e)
needs_as run NoMemory list h e = absurd e
