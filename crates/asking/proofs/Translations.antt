-- Laws of translations.
use Rattle.std.proofs.Common.{◌≡◌, List, [], ◌∷◌, ◌++◌, map, filter, not, ◌&&◌, Bool, true, false, cond, Option, None, Some, option_map, is_some, refl, sym, ap, ◌∙◌}
use Rattle.asking.specs.Asking.{Kind, IsLawful, Asking, Gives, Asks}
use Rattle.asking.specs.LookUps.{Given, LookUp, Looked, Needs, given_all, result_of, all_asked, once, both, found_all, unanswered, by_found, run_by}
use Rattle.asking.specs.Translations.{Translation, answers_by, translate, given_by, look_by, translated}
use Rattle.asking.proofs.InOrder.{filter_both, filter_same, once_filter}

module _ (from to : Kind) (translation : Translation from to) (given : Given to) where
  all_given : (questions : List from.Question) →
      answers_by translation questions (given_all to given (map translation.question questions)) ≡ given_all from (given_by translation given) questions
  all_given [] = refl
  all_given (q ∷ more) = ap (λ answers. (given_by translation given q, answers)) (all_given more)

  map_append : {X Y : Type 0} (f : X → Y) (xs ys : List X) → map f (xs ++ ys) ≡ map f xs ++ map f ys
  map_append f [] ys = refl
  map_append f (x ∷ xs) ys = ap (λ zs. f x ∷ zs) (map_append f xs ys)

  pub results : {A : Type 0} (asking : Asking from A) → result_of given (translate translation asking) ≡ result_of (given_by translation given) asking
  results (Gives x) = refl
  results (Asks q more next) =
      results (next (answers_by translation (q ∷ more) (given_all to given (map translation.question (q ∷ more))))) ∙
      ap (λ answers. result_of (given_by translation given) (next answers)) (all_given (q ∷ more))

  pub asks : {A : Type 0} (asking : Asking from A) → all_asked given (translate translation asking) ≡ map translation.question (all_asked (given_by translation given) asking)
  asks (Gives x) = refl
  asks (Asks q more next) =
      ap (λ qs. map translation.question (q ∷ more) ++ qs)
      (asks (next (answers_by translation (q ∷ more) (given_all to given (map translation.question (q ∷ more))))) ∙
      ap (λ answers. map translation.question (all_asked (given_by translation given) (next answers))) (all_given (q ∷ more))) ∙
      sym (map_append translation.question (q ∷ more) (all_asked (given_by translation given) (next (given_all from (given_by translation given) (q ∷ more)))))

-- ---- runs

module _ (from to : Kind) (translation : Translation from to) (look : LookUp to) where
  both_by : {X X' Y Y' : Type 0} (f : X → X') (g : Y → Y') (o : Option X) (p : Option Y) (p' : Option Y') → p' ≡ option_map g p →
      both (option_map f o) p' ≡ option_map (λ xy. (f xy.0, g xy.1)) (both o p)
  both_by f g None p p' e = refl
  both_by f g (Some x) None p' e = ap (option_map (λ y. (f x, y))) e
  both_by f g (Some x) (Some y) p' e = ap (option_map (λ y. (f x, y))) e

  found_by : (questions : List from.Question) →
      found_all from (look_by translation look) questions ≡ option_map (answers_by translation questions) (found_all to look (map translation.question questions))
  found_by [] = refl
  found_by (q ∷ more) =
      both_by (translation.answer q) (answers_by translation more) (look (translation.question q)) (found_all to look (map translation.question more)) (found_all from (look_by translation look) more) (found_by more)

  some_by : {X Y : Type 0} (f : X → Y) (o : Option X) → is_some (option_map f o) ≡ is_some o
  some_by f None = refl
  some_by f (Some x) = refl

  -- the test is made behind the translation
  kept_by : {X Y : Type 0} (f : X → Y) (test : Y → Bool) (xs : List X) → filter test (map f xs) ≡ map f (filter (λ x. test (f x)) xs)
  kept_by f test [] = refl
  kept_by {X = X} f test (x ∷ xs) = ap (λ zs. cond (test (f x)) (f x ∷ zs) zs) (kept_by f test xs) ∙ first (test (f x)) (filter (λ y. test (f y)) xs)
    where
      first : (b : Bool) (ys : List X) → cond b (f x ∷ map f ys) (map f ys) ≡ map f (cond b (x ∷ ys) ys)
      first true ys = refl
      first false ys = refl

  module _ (from_lawful : IsLawful from) (to_lawful : IsLawful to) where
    -- what stands twice before the translation stands twice behind it
    once_by : (questions : List from.Question) → once to (map translation.question questions) ≡ once to (map translation.question (once from questions))
    once_by [] = refl
    once_by (x ∷ xs) =
        let f : from.Question → to.Question = translation.question in
        let n : from.Question → Bool = λ p. not (from.same p x) in
        let n' : to.Question → Bool = λ p. not (to.same p (f x)) in
        ap (λ zs. f x ∷ zs)
        (ap (filter n') (once_by xs) ∙ sym (once_filter to to_lawful n' (map f (once from xs))) ∙
        ap (once to)
        (kept_by f n' (once from xs) ∙
        ap (map f) (sym (filter_both (λ p. n' (f p)) n (once from xs) ∙ filter_same (λ p. n p && n' (f p)) (λ p. n' (f p)) (once from xs) (λ p. other p (from.same p x) refl))) ∙
        sym (kept_by f n' (filter n (once from xs)))) ∙
        once_filter to to_lawful n' (map f (filter n (once from xs))))
      where
        other : (p : from.Question) (b : Bool) → from.same p x ≡ b → (not b && not (to.same (translation.question p) (translation.question x))) ≡ not (to.same (translation.question p) (translation.question x))
        other p true same = sym (ap not (ap (λ q. to.same q (translation.question x)) (ap translation.question (from_lawful.same p x same)) ∙ to_lawful.same_self (translation.question x)))
        other p false same = refl

    wanted_by : (questions : List from.Question) →
        unanswered to look (map translation.question questions) ≡ once to (map translation.question (unanswered from (look_by translation look) questions))
    wanted_by questions =
        ap (once to) (kept_by translation.question (λ q. not (is_some (look q))) questions) ∙
        ap (λ qs. once to (map translation.question qs))
        (filter_same _ _ questions (λ q. ap not (sym (some_by (translation.answer q) (look (translation.question q)))))) ∙
        once_by (filter (λ q. not (is_some (look_by translation look q))) questions)

    by_option : {A X Y : Type 0} (wanted : List to.Question) (wanted' : List from.Question) (g : X → Y) (next : X → Looked to A) (next' : Y → Looked from A) (o : Option X) →
        wanted ≡ once to (map translation.question wanted') → ((x : X) → next x ≡ translated translation (next' (g x))) →
        by_found wanted next o ≡ translated translation (by_found wanted' next' (option_map g o))
    by_option wanted wanted' g next next' None e h = ap Needs e
    by_option wanted wanted' g next next' (Some x) e h = h x

    pub runs : {A : Type 0} (asking : Asking from A) → run_by look (translate translation asking) ≡ translated translation (run_by (look_by translation look) asking)
    runs (Gives x) = refl
    runs (Asks q more next) =
        by_option (unanswered to look (map translation.question (q ∷ more))) (unanswered from (look_by translation look) (q ∷ more))
        (answers_by translation (q ∷ more)) (λ answers. run_by look (translate translation (next (answers_by translation (q ∷ more) answers)))) (λ answers. run_by (look_by translation look) (next answers))
        (found_all to look (map translation.question (q ∷ more))) (wanted_by (q ∷ more)) (λ answers. runs (next (answers_by translation (q ∷ more) answers))) ∙
        ap (λ o. translated translation (by_found (unanswered from (look_by translation look) (q ∷ more)) (λ answers. run_by (look_by translation look) (next answers)) o)) (sym (found_by (q ∷ more)))
