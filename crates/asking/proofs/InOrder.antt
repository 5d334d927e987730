-- What is asked, each question once, is looked up in that order, wherever the list of it is cut.
use Rattle.std.proofs.Common.{◌≡◌, arith, drop, get_or, List, [], ◌∷◌, ◌++◌, filter, not, ◌&&◌, ◌||◌, Bool, true, false, cond, Option, None, Some, is_some, T, refl, sym, ap, ap₂, ◌∙◌, subst}
use Rattle.std.specs.List.{list_any}
use Rattle.asking.specs.Asking.{Kind, IsLawful, Asking, Gives, Asks}
use Rattle.asking.specs.Lists.{Each}
use Rattle.asking.specs.LookUps.{Given, LookUp, Ends, Needs, given_all, result_of, all_asked, once, found_all, both, unanswered, run_by}
use Rattle.asking.specs.Laws.{Agrees, Knows, GoesOn}
use Rattle.asking.proofs.LookUps.{not_there, found_given, by_cases, each_weaker, each_back, all_found}

-- ---- tests

and_true : (b : Bool) → (b && true) ≡ b
and_true true = refl
and_true false = refl

and_false : (b : Bool) → (b && false) ≡ false
and_false true = refl
and_false false = refl

and_swap : (a b : Bool) → (a && b) ≡ (b && a)
and_swap true b = sym (and_true b)
and_swap false b = sym (and_false b)

or_true : (b : Bool) → (b || true) ≡ true
or_true true = refl
or_true false = refl

-- neither of two
neither : (a b : Bool) → (not a && not b) ≡ not (a || b)
neither true b = refl
neither false b = refl

neither_swap : (a b : Bool) → (not a && not b) ≡ not (b || a)
neither_swap a b = and_swap (not a) (not b) ∙ neither b a

or_else : (a b : Bool) → (a || (b && not a)) ≡ (a || b)
or_else true b = refl
or_else false b = and_true b

or_last : (a b c : Bool) → (a || ((b && not a) || c)) ≡ ((a || b) || c)
or_last true b c = refl
or_last false b c = ap (λ x. x || c) (and_true b)

one_kept : (f p b m : Bool) → (p ≡ true → f ≡ b) → cond f (p || (m && b)) (m && b) ≡ ((p || m) && b)
one_kept true true b m h = h refl
one_kept true false b m h = refl
one_kept false true b true h = refl
one_kept false true b false h = h refl
one_kept false false b m h = refl

-- ---- lists

module _ {X : Type 0} where
  cond_append : (b : Bool) (x : X) (xs ys : List X) → cond b (x ∷ xs ++ ys) (xs ++ ys) ≡ cond b (x ∷ xs) xs ++ ys
  cond_append true x xs ys = refl
  cond_append false x xs ys = refl

  filter_append : (f : X → Bool) (xs ys : List X) → filter f (xs ++ ys) ≡ filter f xs ++ filter f ys
  filter_append f [] ys = refl
  filter_append f (x ∷ xs) ys = ap (λ zs. cond (f x) (x ∷ zs) zs) (filter_append f xs ys) ∙ cond_append (f x) x (filter f xs) (filter f ys)

  filter_one : (f : X → Bool) (b : Bool) (x : X) (xs ys : List X) → filter f xs ≡ ys → filter f (cond b (x ∷ xs) xs) ≡ cond (b && f x) (x ∷ ys) ys
  filter_one f true x xs ys e = ap (λ zs. cond (f x) (x ∷ zs) zs) e
  filter_one f false x xs ys e = e

  pub filter_both : (f g : X → Bool) (xs : List X) → filter f (filter g xs) ≡ filter (λ x. g x && f x) xs
  filter_both f g [] = refl
  filter_both f g (x ∷ xs) = filter_one f (g x) x (filter g xs) (filter (λ y. g y && f y) xs) (filter_both f g xs)

  pub filter_same : (f g : X → Bool) (xs : List X) → ((x : X) → f x ≡ g x) → filter f xs ≡ filter g xs
  filter_same f g [] e = refl
  filter_same f g (x ∷ xs) e = ap₂ (λ b zs. cond b (x ∷ zs) zs) (e x) (filter_same f g xs e)

  filter_keeps : (f : X → Bool) (xs : List X) → Each (λ x. f x ≡ true) xs → filter f xs ≡ xs
  filter_keeps f [] h = refl
  filter_keeps f (x ∷ xs) h = ap₂ (λ b zs. cond b (x ∷ zs) zs) h.0 (filter_keeps f xs h.1)

  filter_drops : (f : X → Bool) (xs : List X) → Each (λ x. f x ≡ false) xs → filter f xs ≡ []
  filter_drops f [] h = refl
  filter_drops f (x ∷ xs) h = ap₂ (λ b zs. cond b (x ∷ zs) zs) h.0 (filter_drops f xs h.1)

  any_append : (p : X → Bool) (xs ys : List X) → list_any p (xs ++ ys) ≡ (list_any p xs || list_any p ys)
  any_append p [] ys = refl
  any_append p (x ∷ xs) ys = ap (λ b. p x || b) (any_append p xs ys) ∙ assoc (p x) (list_any p xs) (list_any p ys)
    where
      assoc : (a b c : Bool) → (a || (b || c)) ≡ ((a || b) || c)
      assoc true b c = refl
      assoc false b c = refl

  any_one : (p : X → Bool) (b : Bool) (x : X) (xs : List X) → list_any p (cond b (x ∷ xs) xs) ≡ cond b (p x || list_any p xs) (list_any p xs)
  any_one p true x xs = refl
  any_one p false x xs = refl

  -- what passes p is kept or not as b says
  any_filter : (p f : X → Bool) (b : Bool) (xs : List X) → ((x : X) → p x ≡ true → f x ≡ b) → list_any p (filter f xs) ≡ (list_any p xs && b)
  any_filter p f b [] h = refl
  any_filter p f b (x ∷ xs) h =
      any_one p (f x) x (filter f xs) ∙ ap (λ m. cond (f x) (p x || m) m) (any_filter p f b xs h) ∙ one_kept (f x) (p x) b (list_any p xs) (h x)

  none_each : (p : X → Bool) (xs : List X) → list_any p xs ≡ false → Each (λ x. p x ≡ false) xs
  none_each p [] e = tt
  none_each p (x ∷ xs) e = let both = parts (p x) (list_any p xs) e in (both.0, none_each p xs both.1)
    where
      parts : (a b : Bool) → (a || b) ≡ false → (a ≡ false) × (b ≡ false)
      parts true b e = absurd (subst T e tt)
      parts false b e = (refl, e)

  each_zip : (P Q R : X → Type 0) → ((x : X) → P x → Q x → R x) → (xs : List X) → Each P xs → Each Q xs → Each R xs
  each_zip P Q R f [] h k = tt
  each_zip P Q R f (x ∷ xs) h k = (f x h.0 k.0, each_zip P Q R f xs h.1 k.1)

  -- two ways to cut one list
  data Cut (xs ys us vs : List X) : Type 0 where
    Later : (more : List X) → us ≡ xs ++ more → ys ≡ more ++ vs → Cut xs ys us vs
    Earlier : (w : X) (ws : List X) → xs ≡ us ++ (w ∷ ws) → vs ≡ (w ∷ ws) ++ ys → Cut xs ys us vs

  same_tail : (x y : X) (xs ys : List X) → x ∷ xs ≡ y ∷ ys → xs ≡ ys
  same_tail x y xs ys e = ap (drop 1) e

  same_head : (x y : X) (xs ys : List X) → x ∷ xs ≡ y ∷ ys → x ≡ y
  same_head x y xs ys e = ap (λ zs. get_or zs 0 x) e

  cut_further : (x y : X) (xs ys us vs : List X) → x ≡ y → Cut xs ys us vs → Cut (x ∷ xs) ys (y ∷ us) vs
  cut_further x y xs ys us vs same (Later more e f) = Later more (ap₂ (λ z zs. z ∷ zs) (sym same) e) f
  cut_further x y xs ys us vs same (Earlier w ws e f) = Earlier w ws (ap₂ (λ z zs. z ∷ zs) same e) f

  cut : (xs ys us vs : List X) → xs ++ ys ≡ us ++ vs → Cut xs ys us vs
  cut [] ys us vs e = Later us refl e
  cut (x ∷ xs) ys [] vs e = Earlier x xs refl (sym e)
  cut (x ∷ xs) ys (u ∷ us) vs e = cut_further x u xs ys us vs (same_head x u (xs ++ ys) (us ++ vs) e) (cut xs ys us vs (same_tail x u (xs ++ ys) (us ++ vs) e))

-- ---- questions, each once

module _ (kind : Kind) (lawful : IsLawful kind) where
  -- one of the questions is this one
  abbrev holds : List kind.Question → kind.Question → Bool
  holds questions q = list_any (kind.same q) questions

  -- a test says the same of questions that are the same
  kept : (f : kind.Question → Bool) (p q : kind.Question) → kind.same p q ≡ true → f q ≡ f p
  kept f p q e = ap f (sym (lawful.same p q e))

  holds_filter : (f : kind.Question → Bool) (q : kind.Question) (questions : List kind.Question) → holds (filter f questions) q ≡ (holds questions q && f q)
  holds_filter f q questions = any_filter (kind.same q) f (f q) questions (kept f q)

  holds_once : (q : kind.Question) (questions : List kind.Question) → holds (once kind questions) q ≡ holds questions q
  holds_once q [] = refl
  holds_once q (x ∷ xs) =
      ap (λ b. kind.same q x || b) (holds_filter (λ p. not (kind.same p x)) q (once kind xs) ∙ ap (λ b. b && not (kind.same q x)) (holds_once q xs)) ∙
      or_else (kind.same q x) (holds xs q)

  each_holds : (questions : List kind.Question) → Each (λ q. holds questions q ≡ true) questions
  each_holds [] = tt
  each_holds (x ∷ xs) = (
    ap (λ b. b || holds xs x) (lawful.same_self x),
    each_weaker (λ q. holds xs q ≡ true) (λ q. holds (x ∷ xs) q ≡ true) (λ q e. ap (λ b. kind.same q x || b) e ∙ or_true (kind.same q x)) xs (each_holds xs),
  )

  filter_at : (f : kind.Question → Bool) (x : kind.Question) (b : Bool) (xs ys : List kind.Question) → f x ≡ b → once kind xs ≡ filter f ys →
      once kind (cond b (x ∷ xs) xs) ≡ cond b (x ∷ filter f (filter (λ p. not (kind.same p x)) ys)) (filter f (filter (λ p. not (kind.same p x)) ys))
  filter_at f x true xs ys e ih =
      let n : kind.Question → Bool = λ p. not (kind.same p x) in
      ap (λ zs. x ∷ zs) (ap (filter n) ih ∙ filter_both n f ys ∙ filter_same (λ p. f p && n p) (λ p. n p && f p) ys (λ p. and_swap (f p) (n p)) ∙ sym (filter_both f n ys))
  filter_at f x false xs ys e ih =
      let n : kind.Question → Bool = λ p. not (kind.same p x) in
      ih ∙ sym (filter_both f n ys ∙ filter_same (λ p. n p && f p) f ys (λ p. unlike p (kind.same p x) refl))
    where
      unlike : (p : kind.Question) (b : Bool) → kind.same p x ≡ b → (not b && f p) ≡ f p
      unlike p true same = sym e ∙ kept f p x same
      unlike p false same = refl

  pub once_filter : (f : kind.Question → Bool) (questions : List kind.Question) → once kind (filter f questions) ≡ filter f (once kind questions)
  once_filter f [] = refl
  once_filter f (x ∷ xs) = filter_at f x (f x) (filter f xs) (once kind xs) refl (once_filter f xs)

  -- those that aren't among these
  abbrev except : List kind.Question → List kind.Question → List kind.Question
  except front questions = filter (λ q. not (holds front q)) questions

  once_append : (xs ys : List kind.Question) → once kind (xs ++ ys) ≡ once kind xs ++ except xs (once kind ys)
  once_append [] ys = sym (filter_keeps (λ q. true) (once kind ys) (all_true (once kind ys)))
    where
      all_true : (zs : List kind.Question) → Each (λ q. true ≡ true) zs
      all_true [] = tt
      all_true (z ∷ zs) = (refl, all_true zs)
  once_append (x ∷ xs) ys =
      let n : kind.Question → Bool = λ p. not (kind.same p x) in
      ap (λ zs. x ∷ zs)
      (ap (filter n) (once_append xs ys) ∙ filter_append n (once kind xs) (except xs (once kind ys)) ∙
      ap (λ zs. filter n (once kind xs) ++ zs)
      (filter_both n (λ q. not (holds xs q)) (once kind ys) ∙ filter_same _ _ (once kind ys) (λ q. neither_swap (holds xs q) (kind.same q x))))

  -- no question stands twice
  abbrev IsOnce : List kind.Question → Type 0
  IsOnce [] = Unit {0}
  IsOnce (x ∷ xs) = (list_any (λ p. kind.same p x) xs ≡ false) × IsOnce xs

  once_kept : (f : kind.Question → Bool) (b : Bool) (x : kind.Question) (xs : List kind.Question) →
      list_any (λ p. kind.same p x) (filter f xs) ≡ false → IsOnce (filter f xs) → IsOnce (cond b (x ∷ filter f xs) (filter f xs))
  once_kept f true x xs e h = (e, h)
  once_kept f false x xs e h = h

  none_left : (p f : kind.Question → Bool) (xs : List kind.Question) → list_any p xs ≡ false → list_any p (filter f xs) ≡ false
  none_left p f xs e = no_any (filter f xs) (kept_each xs (none_each p xs e))
    where
      no_any : (zs : List kind.Question) → Each (λ z. p z ≡ false) zs → list_any p zs ≡ false
      no_any [] h = refl
      no_any (z ∷ zs) h = ap₂ (λ a b. a || b) h.0 (no_any zs h.1)

      keep : (b : Bool) (z : kind.Question) (zs : List kind.Question) → p z ≡ false → Each (λ y. p y ≡ false) zs → Each (λ y. p y ≡ false) (cond b (z ∷ zs) zs)
      keep true z zs e h = (e, h)
      keep false z zs e h = h

      kept_each : (zs : List kind.Question) → Each (λ y. p y ≡ false) zs → Each (λ y. p y ≡ false) (filter f zs)
      kept_each [] h = tt
      kept_each (z ∷ zs) h = keep (f z) z (filter f zs) h.0 (kept_each zs h.1)

  filter_once : (f : kind.Question → Bool) (xs : List kind.Question) → IsOnce xs → IsOnce (filter f xs)
  filter_once f [] h = tt
  filter_once f (x ∷ xs) h = once_kept f (f x) x xs (none_left (λ p. kind.same p x) f xs h.0) (filter_once f xs h.1)

  is_once : (xs : List kind.Question) → IsOnce (once kind xs)
  is_once [] = tt
  is_once (x ∷ xs) =
      let n : kind.Question → Bool = λ p. not (kind.same p x) in
      (any_filter (λ p. kind.same p x) n false (once kind xs) (λ p e. ap not e) ∙ and_false (list_any (λ p. kind.same p x) (once kind xs)), filter_once n (once kind xs) (is_once xs))

  -- those behind the first ones aren't among these
  none_before : (front back : List kind.Question) → IsOnce (front ++ back) → Each (λ q. holds front q ≡ false) back
  none_before [] back h = all_false back
    where
      all_false : (zs : List kind.Question) → Each (λ q. false ≡ false) zs
      all_false [] = tt
      all_false (z ∷ zs) = (refl, all_false zs)
  none_before (x ∷ front) back h =
      each_zip (λ q. kind.same q x ≡ false) (λ q. holds front q ≡ false) (λ q. holds (x ∷ front) q ≡ false) (λ q e f. ap₂ (λ a b. a || b) e f) back
      (each_back (λ q. kind.same q x ≡ false) front back (none_each (λ p. kind.same p x) (front ++ back) h.0)) (none_before front back h.1)

  behind : (front back : List kind.Question) → IsOnce (front ++ back) → except front (front ++ back) ≡ back
  behind front back h =
      filter_append (λ q. not (holds front q)) front back ∙
      ap₂ (λ xs ys. xs ++ ys)
      (filter_drops (λ q. not (holds front q)) front (each_weaker (λ q. holds front q ≡ true) (λ q. not (holds front q) ≡ false) (λ q e. ap not e) front (each_holds front)))
      (filter_keeps (λ q. not (holds front q)) back
      (each_weaker (λ q. holds front q ≡ false) (λ q. not (holds front q) ≡ true) (λ q e. ap not e) back (none_before front back h)))

  -- ---- runs

  parts_there : {Y Z : Type 0} (o : Option Y) (p : Option Z) → is_some (both o p) ≡ true → (not (is_some o) ≡ false) × (is_some p ≡ true)
  parts_there None p e = absurd (subst T (sym e) tt)
  parts_there (Some y) None e = absurd (subst T (sym e) tt)
  parts_there (Some y) (Some z) e = (refl, refl)

  none_open : (look : LookUp kind) (questions : List kind.Question) → is_some (found_all kind look questions) ≡ true → filter (λ q. not (is_some (look q))) questions ≡ []
  none_open look [] e = refl
  none_open look (q ∷ more) e =
      let there = parts_there (look q) (found_all kind look more) e in ap₂ (λ b zs. cond b (q ∷ zs) zs) there.0 (none_open look more there.1)

  module _ (look : LookUp kind) where
    -- what is seen when this list has been asked
    abbrev or_asked : (kind.Question → Bool) → List kind.Question → kind.Question → Bool
    or_asked seen questions q = seen q || holds questions q

    -- the new ones of a list come first, and then the new ones of the rest
    parted : (seen : kind.Question → Bool) (questions rest : List kind.Question) →
        filter (λ q. not (seen q)) (once kind (questions ++ rest)) ≡
        filter (λ q. not (seen q)) (once kind questions) ++ filter (λ q. not (or_asked seen questions q)) (once kind rest)
    parted seen questions rest =
        let n : kind.Question → Bool = λ q. not (seen q) in
        ap (filter n) (once_append questions rest) ∙ filter_append n (once kind questions) (except questions (once kind rest)) ∙
        ap (λ zs. filter n (once kind questions) ++ zs)
        (filter_both n (λ q. not (holds questions q)) (once kind rest) ∙ filter_same _ _ (once kind rest) (λ q. neither_swap (holds questions q) (seen q)))

    -- all of a list is known: the run goes on
    knows_on : (seen : kind.Question → Bool) (questions first more : List kind.Question) →
        ((q : kind.Question) → is_some (look q) ≡ (seen q || holds first q)) → first ≡ filter (λ q. not (seen q)) (once kind questions) ++ more →
        (q : kind.Question) → is_some (look q) ≡ (or_asked seen questions q || holds more q)
    knows_on seen questions first more knows e q =
        let new = filter (λ p. not (seen p)) (once kind questions) in
        knows q ∙ ap (λ qs. seen q || holds qs q) e ∙
        ap (λ b. seen q || b)
        (any_append (kind.same q) new more ∙
        ap (λ b. b || holds more q) (holds_filter (λ p. not (seen p)) q (once kind questions) ∙ ap (λ b. b && not (seen q)) (holds_once q questions))) ∙
        or_last (seen q) (holds questions q) (holds more q)

    all_known : (seen : kind.Question → Bool) (questions more : List kind.Question) →
        ((q : kind.Question) → is_some (look q) ≡ (or_asked seen questions q || holds more q)) → Each (λ q. is_some (look q) ≡ true) questions
    all_known seen questions more knows =
        each_weaker (λ q. holds questions q ≡ true) (λ q. is_some (look q) ≡ true)
        (λ q e. knows q ∙ ap (λ b. (seen q || b) || holds more q) e ∙ ap (λ b. b || holds more q) (or_true (seen q))) questions (each_holds questions)

    -- a list with a gap: what is wanted is the front of what is left
    wanted_is : (seen : kind.Question → Bool) (questions first back : List kind.Question) →
        ((q : kind.Question) → is_some (look q) ≡ (seen q || holds first q)) → filter (λ q. not (seen q)) (once kind questions) ≡ first ++ back →
        unanswered kind look questions ≡ back
    wanted_is seen questions first back knows e =
        let new = filter (λ p. not (seen p)) (once kind questions) in
        once_filter (λ q. not (is_some (look q))) questions ∙
        filter_same _ _ (once kind questions) (λ q. ap not (knows q) ∙ sym (neither (seen q) (holds first q))) ∙
        sym (filter_both (λ q. not (holds first q)) (λ q. not (seen q)) (once kind questions)) ∙
        ap (except first) e ∙ behind first back (subst IsOnce e (filter_once (λ q. not (seen q)) (once kind questions) (is_once questions)))

    no_gap : (questions : List kind.Question) (w : kind.Question) (ws : List kind.Question) → unanswered kind look questions ≡ w ∷ ws → is_some (found_all kind look questions) ≡ true → ⊥
    no_gap questions w ws e there = subst (λ qs. is_empty qs) (sym (ap (once kind) (none_open look questions there)) ∙ e) tt
      where
        is_empty : List kind.Question → Type 0
        is_empty [] = Unit {0}
        is_empty (y ∷ ys) = ⊥

  module _ {A : Type 0} (given : Given kind) (look : LookUp kind) (agrees : Agrees kind given look) where
    -- what was asked before is `seen`; of what is asked from here on, the first questions have answers
    abbrev InOrder : Asking kind A → Type 0
    InOrder asking = (seen : kind.Question → Bool) (first left : List kind.Question) →
        filter (λ q. not (seen q)) (once kind (all_asked given asking)) ≡ first ++ left →
        ((q : kind.Question) → is_some (look q) ≡ (seen q || holds first q)) → GoesOn left (result_of given asking) (run_by look asking)

    ends_here : (x : A) (first left : List kind.Question) → [] ≡ first ++ left → GoesOn {kind = kind} left x (Ends x)
    ends_here x [] left e = (sym e, refl)
    ends_here x (q ∷ first) left e = absurd (subst is_none_left e tt)
      where
        is_none_left : List kind.Question → Type 0
        is_none_left [] = Unit {0}
        is_none_left (y ∷ ys) = ⊥

    pub in_order : (asking : Asking kind A) → InOrder asking
    in_order (Gives x) seen first left e knows = ends_here x first left e
    in_order (Asks q more next) seen first left e knows =
        let questions = q ∷ more in
        let answers = given_all kind given (q ∷ more) in
        let rest = all_asked given (next answers) in
        elim (cut (filter (λ p. not (seen p)) (once kind questions)) (filter (λ p. not (or_asked look seen questions p)) (once kind rest)) first left (sym (parted look seen questions rest) ∙ e)) [
          | Later f is_first is_rest ↦
              let known = knows_on look seen questions first f knows is_first in
              by_cases (GoesOn left (result_of given (next answers))) (unanswered kind look questions) (λ a. run_by look (next a)) (found_all kind look questions)
              (not_there (found_all kind look questions) (all_found kind look questions (all_known look seen questions f known)))
              (λ a found.
              let same = found_given kind given look agrees questions a found in
              subst (λ b. GoesOn left (result_of given (next b)) (run_by look (next a))) same
              (in_order (next a) (or_asked look seen questions) f left (subst (λ b. filter (λ p. not (or_asked look seen questions p)) (once kind (all_asked given (next b))) ≡ f ++ left) (sym same) is_rest) known))
          | Earlier w ws is_new is_left ↦
              let wanted = wanted_is look seen questions first (w ∷ ws) knows is_new in
              by_cases (GoesOn left (result_of given (next answers))) (unanswered kind look questions) (λ a. run_by look (next a)) (found_all kind look questions)
              (λ none.
              subst (λ qs. GoesOn {kind = kind} left (result_of given (next answers)) (Needs qs)) (sym wanted) ((omega arith), (filter (λ p. not (or_asked look seen questions p)) (once kind rest), is_left)))
              (λ a found. absurd (no_gap look questions w ws wanted (ap is_some found)))
        ]

pub looked_in_order : {kind : Kind} {A : Type 0} → IsLawful kind → (given : Given kind) (look : LookUp kind) (asking : Asking kind A) (first left : List kind.Question) →
    Agrees kind given look → Knows kind look first → once kind (all_asked given asking) ≡ first ++ left → GoesOn left (result_of given asking) (run_by look asking)
looked_in_order {kind = kind} lawful given look asking first left agrees knows e =
    in_order kind lawful given look agrees asking (λ q. false) first left (filter_keeps (λ q. true) (once kind (all_asked given asking)) (all_true (once kind (all_asked given asking))) ∙ e) knows
  where
    all_true : (zs : List kind.Question) → Each (λ q. true ≡ true) zs
    all_true [] = tt
    all_true (z ∷ zs) = (refl, all_true zs)
