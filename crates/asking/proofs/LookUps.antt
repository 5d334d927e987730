-- Laws of runs by look-up.
use Rattle.std.proofs.Common.{◌≡◌, ◌<◌, arith, length, List, [], ◌∷◌, ◌++◌, append_assoc, filter, not, ◌||◌, Bool, true, false, cond, Option, None, Some, unwrap_or, is_some, T, refl, sym, ap, ap₂, ◌∙◌, subst, inl, inr}
use Rattle.std.specs.Option.{option_or}
use Rattle.asking.specs.Asking.{Kind, Answers, Asking, Gives, Asks, and_then}
use Rattle.asking.specs.Lists.{Has, Each}
use Rattle.asking.specs.LookUps.{Given, LookUp, Looked, Ends, Needs, given_all, result_of, all_asked, once, found_all, both, unanswered, by_found, look_up, run_by, and_look}
use Rattle.asking.specs.Laws.{Agrees, IsRight, Knows, AreEntriesOf}

not_some : {X Y : Type 0} (x : X) → None ≡ Some x → Y
not_some x e = absurd (subst (λ o. T (is_some o)) (sym e) tt)

pub not_there : {Y Z : Type 0} (o : Option Y) → is_some o ≡ true → o ≡ None → Z
not_there o e n = absurd (subst T (sym e ∙ ap is_some n) tt)

-- ---- answers that are looked up

both_given : {X Y : Type 0} (o : Option X) (p : Option Y) (xy : X × Y) (x : X) (y : Y) →
    ((a : X) → o ≡ Some a → a ≡ x) → ((b : Y) → p ≡ Some b → b ≡ y) → both o p ≡ Some xy → xy ≡ (x, y)
both_given None p xy x y f g e = not_some xy e
both_given (Some a) None xy x y f g e = not_some xy e
both_given (Some a) (Some b) xy x y f g e = sym (ap (λ o. unwrap_or o xy) e) ∙ ap₂ (λ a b. (a, b)) (f a refl) (g b refl)

pub found_given : (kind : Kind) (given : Given kind) (look : LookUp kind) → Agrees kind given look → (questions : List kind.Question) (answers : Answers kind questions) →
    found_all kind look questions ≡ Some answers → answers ≡ given_all kind given questions
found_given kind given look agrees [] answers e = refl
found_given kind given look agrees (q ∷ more) answers e =
    both_given (look q) (found_all kind look more) answers (given q) (given_all kind given more) (agrees q) (found_given kind given look agrees more) e

both_more : {X Y : Type 0} (o o' : Option X) (p p' : Option Y) (xy : X × Y) →
    ((a : X) → o ≡ Some a → o' ≡ Some a) → ((b : Y) → p ≡ Some b → p' ≡ Some b) → both o p ≡ Some xy → both o' p' ≡ Some xy
both_more None o' p p' xy f g e = not_some xy e
both_more (Some a) o' None p' xy f g e = not_some xy e
both_more (Some a) o' (Some b) p' xy f g e = ap₂ both (f a refl) (g b refl) ∙ e

found_more : (kind : Kind) (look look' : LookUp kind) → ((q : kind.Question) (a : kind.Answer q) → look q ≡ Some a → look' q ≡ Some a) →
    (questions : List kind.Question) (answers : Answers kind questions) → found_all kind look questions ≡ Some answers → found_all kind look' questions ≡ Some answers
found_more kind look look' more [] answers e = e
found_more kind look look' more (q ∷ qs) answers e =
    both_more (look q) (look' q) (found_all kind look qs) (found_all kind look' qs) answers (more q) (found_more kind look look' more qs) e

both_there : {X Y : Type 0} (o : Option X) (p : Option Y) → is_some o ≡ true → is_some p ≡ true → is_some (both o p) ≡ true
both_there None p e f = e
both_there (Some a) None e f = f
both_there (Some a) (Some b) e f = refl

pub all_found : (kind : Kind) (look : LookUp kind) (questions : List kind.Question) → Each (λ q. is_some (look q) ≡ true) questions → is_some (found_all kind look questions) ≡ true
all_found kind look [] h = refl
all_found kind look (q ∷ more) h = both_there (look q) (found_all kind look more) h.0 (all_found kind look more h.1)

-- ---- questions without an answer

module _ {X : Type 0} where
  each_cons : (P : X → Type 0) (b : Bool) (x : X) (xs : List X) → P x → Each P xs → Each P (cond b (x ∷ xs) xs)
  each_cons P true x xs p h = (p, h)
  each_cons P false x xs p h = h

  each_filter : (P : X → Type 0) (test : X → Bool) (xs : List X) → Each P xs → Each P (filter test xs)
  each_filter P test [] h = tt
  each_filter P test (x ∷ xs) h = each_cons P (test x) x (filter test xs) h.0 (each_filter P test xs h.1)

  pub each_weaker : (P Q : X → Type 0) → ((x : X) → P x → Q x) → (xs : List X) → Each P xs → Each Q xs
  each_weaker P Q f [] h = tt
  each_weaker P Q f (x ∷ xs) h = (f x h.0, each_weaker P Q f xs h.1)

  each_front : (P : X → Type 0) (xs ys : List X) → Each P (xs ++ ys) → Each P xs
  each_front P [] ys h = tt
  each_front P (x ∷ xs) ys h = (h.0, each_front P xs ys h.1)

  pub each_back : (P : X → Type 0) (xs ys : List X) → Each P (xs ++ ys) → Each P ys
  each_back P [] ys h = h
  each_back P (x ∷ xs) ys h = each_back P xs ys h.1

  pub has_front : (xs ys : List X) (x : X) → Has xs x → Has (xs ++ ys) x
  has_front (y ∷ xs) ys x (inl e) = inl e
  has_front (y ∷ xs) ys x (inr h) = inr (has_front xs ys x h)
  has_front [] ys x h = absurd h

  pub has_back : (xs ys : List X) (x : X) → Has ys x → Has (xs ++ ys) x
  has_back [] ys x h = h
  has_back (y ∷ xs) ys x h = inr (has_back xs ys x h)

module _ (kind : Kind) where
  each_once : (P : kind.Question → Type 0) (questions : List kind.Question) → Each P questions → Each P (once kind questions)
  each_once P [] h = tt
  each_once P (q ∷ more) h = (h.0, each_filter P (λ p. not (kind.same p q)) (once kind more) (each_once P more h.1))

  abbrev IsOpen : LookUp kind → List kind.Question → kind.Question → Type 0
  IsOpen look questions q = (look q ≡ None) × Has questions q

  none_there : {Y : Type 0} (o : Option Y) → not (is_some o) ≡ true → o ≡ None
  none_there None e = refl
  none_there (Some y) e = absurd (subst T (sym e) tt)

  open_first : (look : LookUp kind) (q : kind.Question) (more : List kind.Question) (b : Bool) (rest : List kind.Question) →
      not (is_some (look q)) ≡ b → Each (IsOpen look more) rest → Each (IsOpen look (q ∷ more)) (cond b (q ∷ rest) rest)
  open_first look q more true rest e h = ((none_there (look q) e, inl refl), each_weaker (IsOpen look more) (IsOpen look (q ∷ more)) (λ p x. (x.0, inr x.1)) rest h)
  open_first look q more false rest e h = each_weaker (IsOpen look more) (IsOpen look (q ∷ more)) (λ p x. (x.0, inr x.1)) rest h

  each_open : (look : LookUp kind) (questions : List kind.Question) → Each (IsOpen look questions) (filter (λ q. not (is_some (look q))) questions)
  each_open look [] = tt
  each_open look (q ∷ more) = open_first look q more (not (is_some (look q))) (filter (λ p. not (is_some (look p))) more) refl (each_open look more)

  -- where not all are found, one has no answer
  some_open : {X Y : Type 0} (q : kind.Question) (rest : List kind.Question) (o : Option X) (p : Option Y) →
      both o p ≡ None → (p ≡ None → 0 < length rest) → 0 < length (cond (not (is_some o)) (q ∷ rest) rest)
  some_open q rest None p e h = omega arith
  some_open q rest (Some x) None e h = h refl
  some_open q rest (Some x) (Some y) e h = not_some (x, y) (sym e)

  gap : (look : LookUp kind) (questions : List kind.Question) → found_all kind look questions ≡ None → 0 < length (filter (λ q. not (is_some (look q))) questions)
  gap look [] e = not_some tt (sym e)
  gap look (q ∷ more) e = some_open q (filter (λ p. not (is_some (look p))) more) (look q) (found_all kind look more) e (gap look more)

  once_some : (questions : List kind.Question) → 0 < length questions → 0 < length (once kind questions)
  once_some [] lt = lt
  once_some (q ∷ more) lt = omega arith

  right_needs : {A : Type 0} (look : LookUp kind) (x : A) (questions back : List kind.Question) → found_all kind look questions ≡ None → IsRight {kind = kind} look x (questions ++ back) (Needs (unanswered kind look questions))
  right_needs look x questions back e = (
    once_some (filter (λ q. not (is_some (look q))) questions) (gap look questions e),
    each_once (IsOpen look (questions ++ back)) (filter (λ q. not (is_some (look q))) questions)
        (each_weaker (IsOpen look questions) (IsOpen look (questions ++ back)) (λ q o. (o.0, has_front questions back q o.1)) (filter (λ q. not (is_some (look q))) questions) (each_open look questions)),
  )

-- ---- runs

module _ {kind : Kind} {A : Type 0} where
  -- by cases on whether all is found
  pub by_cases : {X : Type 0} (P : Looked kind A → Type 0) (wanted : List kind.Question) (next : X → Looked kind A) (o : Option X) →
      (o ≡ None → P (Needs wanted)) → ((x : X) → o ≡ Some x → P (next x)) → P (by_found wanted next o)
  by_cases P wanted next None f g = f refl
  by_cases P wanted next (Some x) f g = g x refl

  right_behind : (look : LookUp kind) (x : A) (front back : List kind.Question) (looked : Looked kind A) → IsRight look x back looked → IsRight look x (front ++ back) looked
  right_behind look x front back (Ends y) h = h
  right_behind look x front back (Needs wanted) h = (h.0, each_weaker (IsOpen kind look back) (IsOpen kind look (front ++ back)) (λ q o. (o.0, has_back front back q o.1)) wanted h.1)

  pub looked_right : (given : Given kind) (look : LookUp kind) (asking : Asking kind A) → Agrees kind given look →
      IsRight look (result_of given asking) (all_asked given asking) (run_by look asking)
  looked_right given look (Gives x) agrees = refl
  looked_right given look (Asks q more next) agrees =
      let g = given_all kind given (q ∷ more) in
      by_cases (IsRight look (result_of given (next g)) ((q ∷ more) ++ all_asked given (next g))) (unanswered kind look (q ∷ more)) (λ answers. run_by look (next answers)) (found_all kind look (q ∷ more))
      (right_needs kind look (result_of given (next g)) (q ∷ more) (all_asked given (next g)))
      (λ answers found.
      subst (λ a. IsRight look (result_of given (next a)) ((q ∷ more) ++ all_asked given (next a)) (run_by look (next answers))) (found_given kind given look agrees (q ∷ more) answers found)
      (right_behind look (result_of given (next answers)) (q ∷ more) (all_asked given (next answers)) (run_by look (next answers)) (looked_right given look (next answers) agrees)))

  pub looked_ends : (given : Given kind) (look : LookUp kind) (asking : Asking kind A) → Agrees kind given look →
      Each (λ q. is_some (look q) ≡ true) (all_asked given asking) → run_by look asking ≡ Ends (result_of given asking)
  looked_ends given look (Gives x) agrees h = refl
  looked_ends given look (Asks q more next) agrees h =
      let g = given_all kind given (q ∷ more) in
      let P : kind.Question → Type 0 = λ p. is_some (look p) ≡ true in
      by_cases (λ r. r ≡ Ends (result_of given (next g))) (unanswered kind look (q ∷ more)) (λ answers. run_by look (next answers)) (found_all kind look (q ∷ more))
      (not_there (found_all kind look (q ∷ more)) (all_found kind look (q ∷ more) (each_front P (q ∷ more) (all_asked given (next g)) h)))
      (λ answers found.
      let same = found_given kind given look agrees (q ∷ more) answers found in
      looked_ends given look (next answers) agrees (subst (λ a. Each P (all_asked given (next a))) (sym same) (each_back P (q ∷ more) (all_asked given (next g)) h)) ∙ ap (λ a. Ends (result_of given (next a))) same)

  abbrev IsGap : Looked kind A → Type 0
  IsGap (Ends y) = ⊥
  IsGap (Needs w) = Unit {0}

  pub looked_stays : (look look' : LookUp kind) (asking : Asking kind A) (x : A) → ((q : kind.Question) (a : kind.Answer q) → look q ≡ Some a → look' q ≡ Some a) →
      run_by look asking ≡ Ends x → run_by look' asking ≡ Ends x
  looked_stays look look' (Gives y) x more = λ e. e
  looked_stays look look' (Asks q qs next) x more =
      by_cases (λ r. r ≡ Ends x → run_by look' (Asks q qs next) ≡ Ends x) (unanswered kind look (q ∷ qs)) (λ answers. run_by look (next answers)) (found_all kind look (q ∷ qs))
      (λ none e. absurd (subst IsGap e tt))
      (λ answers found e.
      ap (by_found (unanswered kind look' (q ∷ qs)) (λ a. run_by look' (next a))) (found_more kind look look' more (q ∷ qs) answers found) ∙ looked_stays look look' (next answers) x more e)

-- ---- what asks and then goes on

module _ {kind : Kind} {A B : Type 0} where
  then_found : {X : Type 0} (wanted : List kind.Question) (o : Option X) (f : X → Looked kind B) (g : X → Looked kind A) (k : A → Looked kind B) →
      ((x : X) → f x ≡ and_look (g x) k) → by_found wanted f o ≡ and_look (by_found wanted g o) k
  then_found wanted None f g k h = refl
  then_found wanted (Some x) f g k h = h x

  pub then_runs : (look : LookUp kind) (asking : Asking kind A) (k : A → Asking kind B) → run_by look (and_then asking k) ≡ and_look (run_by look asking) (λ x. run_by look (k x))
  then_runs look (Gives x) k = refl
  then_runs look (Asks q more next) k =
      then_found (unanswered kind look (q ∷ more)) (found_all kind look (q ∷ more)) (λ answers. run_by look (and_then (next answers) k)) (λ answers. run_by look (next answers)) (λ x. run_by look (k x))
      (λ answers. then_runs look (next answers) k)

  pub then_results : (given : Given kind) (asking : Asking kind A) (k : A → Asking kind B) → result_of given (and_then asking k) ≡ result_of given (k (result_of given asking))
  then_results given (Gives x) k = refl
  then_results given (Asks q more next) k = then_results given (next (given_all kind given (q ∷ more))) k

  pub then_asks : (given : Given kind) (asking : Asking kind A) (k : A → Asking kind B) →
      all_asked given (and_then asking k) ≡ all_asked given asking ++ all_asked given (k (result_of given asking))
  then_asks given (Gives x) k = refl
  then_asks given (Asks q more next) k =
      let behind = next (given_all kind given (q ∷ more)) in
      ap (λ qs. (q ∷ more) ++ qs) (then_asks given (next (given_all kind given (q ∷ more))) k) ∙
      sym (append_assoc (q ∷ more) (all_asked given behind) (all_asked given (k (result_of given behind))))

-- ---- entries

module _ (kind : Kind) (given : Given kind) where
  or_there : {Y : Type 0} (o p : Option Y) → is_some (option_or o p) ≡ (is_some o || is_some p)
  or_there None p = refl
  or_there (Some y) p = refl

  or_tells : (q : kind.Question) (o p : Option (kind.Answer q)) (answer : kind.Answer q) →
      ((a : kind.Answer q) → o ≡ Some a → a ≡ given q) → ((a : kind.Answer q) → p ≡ Some a → a ≡ given q) → option_or o p ≡ Some answer → answer ≡ given q
  or_tells q None p answer f g e = g answer e
  or_tells q (Some a) p answer f g e = f answer e

  entries_agree : (questions : List kind.Question) (entries : List kind.Entry) → AreEntriesOf kind given questions entries → Agrees kind given (look_up kind entries)
  entries_agree [] [] h q answer e = not_some answer e
  entries_agree [] (entry ∷ entries) h q answer e = absurd h
  entries_agree (p ∷ questions) [] h q answer e = absurd h
  entries_agree (p ∷ questions) (entry ∷ entries) h q answer e =
      or_tells q (kind.reads q entry) (look_up kind entries q) answer (h.0.tells q) (entries_agree questions entries h.1 q) e

  entries_know : (questions : List kind.Question) (entries : List kind.Entry) → AreEntriesOf kind given questions entries → Knows kind (look_up kind entries) questions
  entries_know [] [] h q = refl
  entries_know [] (entry ∷ entries) h q = absurd h
  entries_know (p ∷ questions) [] h q = absurd h
  entries_know (p ∷ questions) (entry ∷ entries) h q =
      or_there (kind.reads q entry) (look_up kind entries q) ∙ ap₂ (λ a b. a || b) (h.0.answers q) (entries_know questions entries h.1 q)

  pub entries_tell : (questions : List kind.Question) (entries : List kind.Entry) → AreEntriesOf kind given questions entries →
      Agrees kind given (look_up kind entries) × Knows kind (look_up kind entries) questions
  entries_tell questions entries h = (entries_agree questions entries h, entries_know questions entries h)
