-- What asks, over answers that are the same where it asks: it comes to the same, and asks the same.
use Rattle.std.proofs.Common.{◌≡◌, Bool, true, false, not, ◌||◌, cond, List, [], ◌∷◌, ◌++◌, filter, refl, sym, ap, ◌∙◌, subst}
use Rattle.std.specs.List.{list_any}
use Rattle.asking.specs.Asking.{Kind, IsLawful, Asking, Gives, Asks}
use Rattle.asking.specs.Lists.{Each}
use Rattle.asking.specs.LookUps.{Given, given_all, result_of, all_asked, once, asked}

either_false : (a b : Bool) → (a || b) ≡ false → (a ≡ false) × (b ≡ false)
either_false true b e = cc e
either_false false b e = (refl, e)

module _ {X : Type 0} where
  none_of : (f : X → Bool) (xs : List X) → list_any f xs ≡ false → Each (λ x. f x ≡ false) xs
  none_of f [] e = tt
  none_of f (x ∷ xs) e = let h = either_false (f x) (list_any f xs) e in (h.0, none_of f xs h.1)

  each_by : (P Q : X → Type 0) → ((x : X) → P x → Q x) → (xs : List X) → Each P xs → Each Q xs
  each_by P Q f [] e = tt
  each_by P Q f (x ∷ xs) e = (f x e.0, each_by P Q f xs e.1)

  each_parts : (P : X → Type 0) (xs ys : List X) → Each P (xs ++ ys) → Each P xs × Each P ys
  each_parts P [] ys e = (tt, e)
  each_parts P (x ∷ xs) ys e = let h = each_parts P xs ys e.1 in ((e.0, h.0), h.1)

module _ (kind : Kind) (lawful : IsLawful kind) (P : kind.Question → Type 0) where
  with_first : (q x : kind.Question) (ys : List kind.Question) (b : Bool) → kind.same x q ≡ b → P q → Each P (cond (not b) (x ∷ ys) ys) → P x × Each P ys
  with_first q x ys true same first e = (subst P (sym (lawful.same x q same)) first, e)
  with_first q x ys false same first e = e

  each_filtered : (q : kind.Question) (xs : List kind.Question) → P q → Each P (filter (λ p. not (kind.same p q)) xs) → Each P xs
  each_filtered q [] first e = tt
  each_filtered q (x ∷ xs) first e =
      let h = with_first q x (filter (λ p. not (kind.same p q)) xs) (kind.same x q) refl first e in (h.0, each_filtered q xs first h.1)

  -- what holds of each question once holds of all that are asked
  each_asked : (xs : List kind.Question) → Each P (once kind xs) → Each P xs
  each_asked [] e = tt
  each_asked (x ∷ xs) e = (e.0, each_asked xs (each_filtered x (once kind xs) e.0 e.1))

  picked_by : (q x : kind.Question) (xs : List kind.Question) (b : Bool) → kind.same q x ≡ b → P x → (list_any (kind.same q) xs ≡ true → P q) → (b || list_any (kind.same q) xs) ≡ true → P q
  picked_by q x xs true same first rest any = subst P (sym (lawful.same q x same)) first
  picked_by q x xs false same first rest any = rest any

  -- it holds of a question that is one of these
  picked : (q : kind.Question) (xs : List kind.Question) → Each P xs → list_any (kind.same q) xs ≡ true → P q
  picked q [] e any = cc any
  picked q (x ∷ xs) e any = picked_by q x xs (kind.same q x) refl e.0 (picked q xs e.1) any

module _ (kind : Kind) (given given' : Given kind) where
  abbrev Stays : kind.Question → Type 0
  Stays q = given' q ≡ given q

  same_answers : (questions : List kind.Question) → Each Stays questions → given_all kind given' questions ≡ given_all kind given questions
  same_answers [] e = refl
  same_answers (q ∷ more) e = λ i. (e.0 i, same_answers more e.1 i)

module _ {kind : Kind} {A : Type 0} (given given' : Given kind) where
  same_run : (asking : Asking kind A) → Each (Stays kind given given') (all_asked given asking) →
      (result_of given' asking ≡ result_of given asking) × (all_asked given' asking ≡ all_asked given asking)
  same_run (Gives x) e = (refl, refl)
  same_run (Asks q more next) e =
      let h = each_parts (Stays kind given given') (q ∷ more) (all_asked given (next (given_all kind given (q ∷ more)))) e in
      let same = same_answers kind given given' (q ∷ more) h.0 in
      let rest = same_run (next (given_all kind given (q ∷ more))) h.1 in (
        ap (λ answers. result_of given' (next answers)) same ∙ rest.0,
        ap (λ answers. (q ∷ more) ++ all_asked given' (next answers)) same ∙ ap (λ qs. (q ∷ more) ++ qs) rest.1,
      )

  -- where no question that is asked passes a test that passes those with other answers
  pub stays : IsLawful kind → (other : kind.Question → Bool) → ((q : kind.Question) → other q ≡ false → given' q ≡ given q) → (asking : Asking kind A) →
      list_any other (asked given asking) ≡ false → (result_of given' asking ≡ result_of given asking) × (asked given' asking ≡ asked given asking)
  stays lawful other says asking none =
      let each = each_by (λ q. other q ≡ false) (Stays kind given given') says (asked given asking) (none_of other (asked given asking) none) in
      let h = same_run asking (each_asked kind lawful (Stays kind given given') (all_asked given asking) each) in (h.0, ap (once kind) h.1)

  -- and a question that is asked has the same answer
  pub answer_stays : IsLawful kind → (other : kind.Question → Bool) → ((q : kind.Question) → other q ≡ false → given' q ≡ given q) → (asking : Asking kind A) →
      list_any other (asked given asking) ≡ false → (q : kind.Question) → list_any (kind.same q) (asked given asking) ≡ true → given' q ≡ given q
  answer_stays lawful other says asking none q any =
      picked kind lawful (Stays kind given given') q (asked given asking)
      (each_by (λ q. other q ≡ false) (Stays kind given given') says (asked given asking) (none_of other (asked given asking) none)) any
