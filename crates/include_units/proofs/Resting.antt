-- What is left of what asks.
use Rattle.std.proofs.Common.{◌≡◌, refl, sym, ap, ap₂, subst, ◌∙◌, T, is_some, List, [], ◌∷◌, Option, None, Some}
use Rattle.asking.specs.Asking.{Kind, Answers, Asking, Gives, Asks, and_then}
use Rattle.asking.specs.LookUps.{LookUp, Looked, Ends, Needs, run_by, by_found, found_all, both, unanswered}
use Rattle.include_units.specs.Rests.{by_rest, rest_of}

not_some : {X Y : Type 0} (x : X) → None ≡ Some x → Y
not_some x e = absurd (subst (λ o. T (is_some o)) (sym e) tt)

both_more : {X Y : Type 0} (o o' : Option X) (p p' : Option Y) (xy : X × Y) →
    ((a : X) → o ≡ Some a → o' ≡ Some a) → ((b : Y) → p ≡ Some b → p' ≡ Some b) → both o p ≡ Some xy → both o' p' ≡ Some xy
both_more None o' p p' xy f g e = not_some xy e
both_more (Some a) o' None p' xy f g e = not_some xy e
both_more (Some a) o' (Some b) p' xy f g e = ap₂ both (f a refl) (g b refl) ∙ e

found_more : (kind : Kind) (look look' : LookUp kind) → ((q : kind.Question) (a : kind.Answer q) → look q ≡ Some a → look' q ≡ Some a) →
    (questions : List kind.Question) (answers : Answers kind questions) → found_all kind look questions ≡ Some answers → found_all kind look' questions ≡ Some answers
found_more kind look look' more [] answers e = e
found_more kind look look' more (q ∷ qs) answers e =
    both_more (look q) (look' q) (found_all kind look qs) (found_all kind look' qs) answers (more q) (found_more kind look look' more qs) e

module _ {kind : Kind} {A : Type 0} where
  by_cases : {X : Type 0} (P : Asking kind A → Option X → Type 0) (whole : Asking kind A) (next : X → Asking kind A) (o : Option X) →
      (o ≡ None → P whole None) → ((x : X) → o ≡ Some x → P (next x) (Some x)) → P (by_rest whole next o) o
  by_cases P whole next None f g = f refl
  by_cases P whole next (Some x) f g = g x refl

  -- it runs as the whole
  pub rest_runs : (look : LookUp kind) (asking : Asking kind A) → run_by look (rest_of look asking) ≡ run_by look asking
  rest_runs look (Gives x) = refl
  rest_runs look (Asks q more next) =
      by_cases (λ a o. run_by look a ≡ by_found (unanswered kind look (q ∷ more)) (λ answers. run_by look (next answers)) o) (Asks q more next) (λ answers. rest_of look (next answers)) (found_all kind look (q ∷ more))
      (λ e. ap (by_found (unanswered kind look (q ∷ more)) (λ answers. run_by look (next answers))) e)
      (λ answers e. rest_runs look (next answers))

  pub same_runs : (look : LookUp kind) (a b : Asking kind A) → rest_of look a ≡ rest_of look b → run_by look a ≡ run_by look b
  same_runs look a b e = sym (rest_runs look a) ∙ ap (run_by look) e ∙ rest_runs look b

  -- over more answers the same is left of it
  pub rest_more : (look look' : LookUp kind) → ((q : kind.Question) (a : kind.Answer q) → look q ≡ Some a → look' q ≡ Some a) → (asking : Asking kind A) →
      rest_of look' (rest_of look asking) ≡ rest_of look' asking
  rest_more look look' h (Gives x) = refl
  rest_more look look' h (Asks q more next) =
      by_cases (λ a o. (o ≡ found_all kind look (q ∷ more)) → rest_of look' a ≡ rest_of look' (Asks q more next)) (Asks q more next) (λ answers. rest_of look (next answers)) (found_all kind look (q ∷ more))
      (λ e f. refl)
      (λ answers e f.
      rest_more look look' h (next answers)
      ∙ ap (by_rest (Asks q more next) (λ answers. rest_of look' (next answers))) (sym (found_more kind look look' h (q ∷ more) answers e)))
      refl

  pub same_more : (look look' : LookUp kind) → ((q : kind.Question) (a : kind.Answer q) → look q ≡ Some a → look' q ≡ Some a) → (a b : Asking kind A) →
      rest_of look a ≡ rest_of look b → rest_of look' a ≡ rest_of look' b
  same_more look look' h a b e = sym (rest_more look look' h a) ∙ ap (rest_of look') e ∙ rest_more look look' h b

  abbrev ended : Looked kind A → Type 0
  ended (Ends z) = Unit {0}
  ended (Needs qs) = ⊥

  ends : {X : Type 0} (wanted : List kind.Question) (whole : Asking kind A) (f : X → Looked kind A) (next : X → Asking kind A) (o : Option X) (x : A) →
      ((a : X) → f a ≡ Ends x → next a ≡ Gives x) → by_found wanted f o ≡ Ends x → by_rest whole next o ≡ Gives x
  ends wanted whole f next None x h e = absurd (subst ended (sym e) tt)
  ends wanted whole f next (Some a) x h e = h a e

  -- where the run ends, nothing is left
  pub rest_ends : (look : LookUp kind) (asking : Asking kind A) (x : A) → run_by look asking ≡ Ends x → rest_of look asking ≡ Gives x
  rest_ends look (Gives y) x e = ap (λ l. given l y) e
    where
      given : Looked kind A → A → Asking kind A
      given (Ends z) y = Gives z
      given (Needs qs) y = Gives y
  rest_ends look (Asks q more next) x e = ends (unanswered kind look (q ∷ more)) (Asks q more next) (λ answers. run_by look (next answers)) (λ answers. rest_of look (next answers)) (found_all kind look (q ∷ more)) x
      (λ answers f. rest_ends look (next answers) x f) e

module _ {kind : Kind} {A B : Type 0} where
  by_step : {X : Type 0} (look : LookUp kind) (whole : Asking kind A) (next : X → Asking kind A) (k : A → Asking kind B) (again : Option X → Asking kind B) (o : Option X) →
      rest_of look (and_then whole k) ≡ again o → ((x : X) → rest_of look (and_then (next x) k) ≡ again (Some x)) →
      rest_of look (and_then (by_rest whole next o) k) ≡ again o
  by_step look whole next k again None e h = e
  by_step look whole next k again (Some x) e h = h x

  pub rest_and : (look : LookUp kind) (asking : Asking kind A) (k : A → Asking kind B) →
      rest_of look (and_then (rest_of look asking) k) ≡ rest_of look (and_then asking k)
  rest_and look (Gives x) k = refl
  rest_and look (Asks q more next) k =
      by_step look (Asks q more next) (λ answers. rest_of look (next answers)) k (by_rest (and_then (Asks q more next) k) (λ answers. rest_of look (and_then (next answers) k))) (found_all kind look (q ∷ more))
      refl (λ answers. rest_and look (next answers) k)

  pub and_same : (look : LookUp kind) (a b : Asking kind A) (k : A → Asking kind B) → rest_of look a ≡ rest_of look b →
      rest_of look (and_then a k) ≡ rest_of look (and_then b k)
  and_same look a b k e = sym (rest_and look a k) ∙ ap (λ c. rest_of look (and_then c k)) e ∙ rest_and look b k

  pub then_ends : (look : LookUp kind) (asking : Asking kind A) (k : A → Asking kind B) (x : A) → run_by look asking ≡ Ends x →
      rest_of look (and_then asking k) ≡ rest_of look (k x)
  then_ends look asking k x e = sym (rest_and look asking k) ∙ ap (λ c. rest_of look (and_then c k)) (rest_ends look asking x e)

module _ {kind : Kind} {A B C : Type 0} where
  pub and_assoc : (asking : Asking kind A) (f : A → Asking kind B) (g : B → Asking kind C) →
      and_then (and_then asking f) g ≡ and_then asking (λ x. and_then (f x) g)
  and_assoc (Gives x) f g = refl
  and_assoc (Asks q more next) f g = ap (Asks q more) (λ t answers. and_assoc (next answers) f g t)
