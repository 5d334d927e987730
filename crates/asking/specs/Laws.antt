-- The laws of what asks, for each kind of questions and each type of results.
use Rattle.std.specs.Prelude.{◌≡◌, ◌<◌, ◌≤◌, ℕ, true, is_some, List, [], ◌∷◌, ◌++◌, length, map, None, Some}
use Rattle.std.specs.List.{list_any}
use Rattle.asking.specs.Asking.{Kind, IsLawful, Asking, and_then}
use Rattle.asking.specs.InTurn.{Gave, after_all, further, run, and_run}
use Rattle.asking.specs.Lists.{Has, Each}
use Rattle.asking.specs.LookUps.{Given, LookUp, Looked, Ends, Needs, result_of, all_asked, asked, look_up, run_by, and_look}
use Rattle.asking.specs.Translations.{Translation, translate, given_by, look_by, translated}

-- ---- in turn

-- Answers one after the other are first these and then those.
abbrev pub AnswersJoin : Kind → Type 0 → Type 0
AnswersJoin kind A = (asking next : Asking kind A) (entries more : List kind.Entry) →
    after_all asking entries ≡ Some next → after_all asking (entries ++ more) ≡ after_all next more

-- A run goes on from where answers to what is asked in turn led.
abbrev pub RunGoesOn : Kind → Type 0 → Type 0
RunGoesOn kind A = (asking next : Asking kind A) (entries more : List kind.Entry) →
    after_all asking entries ≡ Some next → run asking (entries ++ more) ≡ further (length entries) (run next more)

-- A run that gave a result used no more than there was, and more answers behind them change nothing.
abbrev pub RunStays : Kind → Type 0 → Type 0
RunStays kind A = (asking : Asking kind A) (entries more : List kind.Entry) (x : A) (used : ℕ) →
    run asking entries ≡ Gave x used → (used ≤ length entries) × (run asking (entries ++ more) ≡ Gave x used)

-- What asks and then goes on is answered first, and then goes on.
abbrev pub ThenAnswered : Kind → Type 0 → Type 0 → Type 0
ThenAnswered kind A B = (asking next : Asking kind A) (k : A → Asking kind B) (entries : List kind.Entry) →
    after_all asking entries ≡ Some next → after_all (and_then asking k) entries ≡ Some (and_then next k)

-- Its run is the run of the first, and then the run of what it goes on with.
abbrev pub ThenRuns : Kind → Type 0 → Type 0 → Type 0
ThenRuns kind A B = (asking : Asking kind A) (k : A → Asking kind B) (entries : List kind.Entry) →
    run (and_then asking k) entries ≡ and_run entries (run asking entries) k

-- ---- by look-up

-- What is looked up is what is given.
abbrev pub Agrees : (kind : Kind) → Given kind → LookUp kind → Type 0
Agrees kind given look = (q : kind.Question) (answer : kind.Answer q) → look q ≡ Some answer → answer ≡ given q

-- A run that ends has this result; else it needs at least one question, none of them answered, and each of them is asked.
abbrev pub IsRight : {kind : Kind} {A : Type 0} → LookUp kind → A → List kind.Question → Looked kind A → Type 0
IsRight look x questions (Ends y) = y ≡ x
IsRight look x questions (Needs wanted) = (0 < length wanted) × Each (λ q. (look q ≡ None) × Has questions q) wanted

abbrev pub LookedRight : Kind → Type 0 → Type 0
LookedRight kind A = (given : Given kind) (look : LookUp kind) (asking : Asking kind A) →
    Agrees kind given look → IsRight look (result_of given asking) (all_asked given asking) (run_by look asking)

-- Where all that is asked is answered, the run ends.
abbrev pub LookedEnds : Kind → Type 0 → Type 0
LookedEnds kind A = (given : Given kind) (look : LookUp kind) (asking : Asking kind A) →
    Agrees kind given look → Each (λ q. is_some (look q) ≡ true) (all_asked given asking) → run_by look asking ≡ Ends (result_of given asking)

-- A run that ended ends so over more answers too.
abbrev pub LookedStays : Kind → Type 0 → Type 0
LookedStays kind A = (look more : LookUp kind) (asking : Asking kind A) (x : A) →
    ((q : kind.Question) (answer : kind.Answer q) → look q ≡ Some answer → more q ≡ Some answer) → run_by look asking ≡ Ends x → run_by more asking ≡ Ends x

-- There is an answer to these questions, and to no others.
abbrev pub Knows : (kind : Kind) → LookUp kind → List kind.Question → Type 0
Knows kind look questions = (q : kind.Question) → is_some (look q) ≡ list_any (kind.same q) questions

-- With these questions left, a run needs the next ones, at least one, or, where none is left, ends with the result.
abbrev pub GoesOn : {kind : Kind} {A : Type 0} → List kind.Question → A → Looked kind A → Type 0
GoesOn left x (Ends y) = (left ≡ []) × (y ≡ x)
GoesOn {kind} left x (Needs wanted) = (0 < length wanted) × ((more : List kind.Question) × (left ≡ wanted ++ more))

-- Over the answers to the first questions of all that is asked, wherever that list is cut, a run goes on with the next.
abbrev pub LookedInOrder : Kind → Type 0 → Type 0
LookedInOrder kind A = IsLawful kind → (given : Given kind) (look : LookUp kind) (asking : Asking kind A) (first left : List kind.Question) →
    Agrees kind given look → Knows kind look first → asked given asking ≡ first ++ left → GoesOn left (result_of given asking) (run_by look asking)

-- The entry answers this question, as it is given, and no other.
pub record IsEntryOf (kind : Kind) (given : Given kind) (q : kind.Question) (entry : kind.Entry) : Type 0 where
  pub answers : (p : kind.Question) → is_some (kind.reads p entry) ≡ kind.same p q
  pub tells : (p : kind.Question) (answer : kind.Answer p) → kind.reads p entry ≡ Some answer → answer ≡ given p

-- The entries answer these questions, one each, as it is given.
abbrev pub AreEntriesOf : (kind : Kind) → Given kind → List kind.Question → List kind.Entry → Type 0
AreEntriesOf kind given [] [] = Unit {0}
AreEntriesOf kind given [] (entry ∷ entries) = ⊥
AreEntriesOf kind given (q ∷ questions) [] = ⊥
AreEntriesOf kind given (q ∷ questions) (entry ∷ entries) = IsEntryOf kind given q entry × AreEntriesOf kind given questions entries

-- Answers that are looked up in entries are those given, and to the questions of the entries alone.
abbrev pub EntriesTell : Kind → Type 0
EntriesTell kind = (given : Given kind) (questions : List kind.Question) (entries : List kind.Entry) →
    AreEntriesOf kind given questions entries → Agrees kind given (look_up kind entries) × Knows kind (look_up kind entries) questions

-- Each look-up in what asks and then goes on is in the first, or in what it goes on with.
pub record ThenLooked (kind : Kind) (A B : Type 0) : Type 0 where
  pub runs : (look : LookUp kind) (asking : Asking kind A) (k : A → Asking kind B) →
      run_by look (and_then asking k) ≡ and_look (run_by look asking) (λ x. run_by look (k x))
  pub results : (given : Given kind) (asking : Asking kind A) (k : A → Asking kind B) →
      result_of given (and_then asking k) ≡ result_of given (k (result_of given asking))
  pub asks : (given : Given kind) (asking : Asking kind A) (k : A → Asking kind B) →
      all_asked given (and_then asking k) ≡ all_asked given asking ++ all_asked given (k (result_of given asking))

-- ---- translations

-- What is translated has the same result, and asks and needs the same in the other's words.
pub record TranslatedSame (from to : Kind) (A : Type 0) : Type 0 where
  pub results : (translation : Translation from to) (given : Given to) (asking : Asking from A) →
      result_of given (translate translation asking) ≡ result_of (given_by translation given) asking
  pub asks : (translation : Translation from to) (given : Given to) (asking : Asking from A) →
      all_asked given (translate translation asking) ≡ map translation.question (all_asked (given_by translation given) asking)
  pub runs : IsLawful from → IsLawful to → (translation : Translation from to) (look : LookUp to) (asking : Asking from A) →
      run_by look (translate translation asking) ≡ translated translation (run_by (look_by translation look) asking)
