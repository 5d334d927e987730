-- What maps have that were made view by view, the first entry of a key being kept.
use Rattle.std.proofs.Common.{arith, rules, ◌≡◌, ℕ, suc, zero, ◌+◌, ◌<◌, Bool, true, false, List, [], ◌∷◌, drop, length, Option, Some, None, refl, sym, ap, ◌∙◌}
use Rattle.std.proofs.lemmas.Option.{slice_get_read}
use Rattle.std.specs.Bool.{Decides}
use Rattle.std.specs.List.{slice_get, slice_index_or}
use Rattle.std.specs.Prelude.{if◌then◌else◌, is_some}
use Rattle.rename_core.specs.Occurrences.{or_later, first_some}
use Rattle.rename_core.specs.Views.{same_text}

pub text_exact : (a b : List ℕ) → Decides (same_text a b) (a ≡ b)
text_exact a b = search rules

pub later_joined : {A : Type 0} (a b c : Option A) → or_later (or_later a b) c ≡ or_later a (or_later b c)
later_joined None b c = refl
later_joined (Some x) b c = refl

none_later : {A : Type 0} (a : Option A) → a ≡ or_later a None
none_later None = refl
none_later (Some x) = refl

some_first : {A : Type 0} (a b : Option A) → is_some a ≡ true → a ≡ or_later a b
some_first None b e = absurd (cc e)
some_first (Some x) b e = refl

none_first : {A : Type 0} (a b : Option A) → is_some a ≡ false → b ≡ or_later a b
none_first None b e = refl
none_first (Some x) b e = absurd (cc e)

turned : (a b : List ℕ) → same_text a b ≡ same_text b a
turned a b = by_tests (same_text a b) (same_text b a) refl refl
  where
    by_tests : (x y : Bool) → same_text a b ≡ x → same_text b a ≡ y → x ≡ y
    by_tests true true e f = refl
    by_tests false false e f = refl
    by_tests true false e f = absurd (let g : same_text b a ≡ true = (text_exact b a).1 (sym ((text_exact a b).0 e)) in let bad : ⊥ = cc (g, f) in bad)
    by_tests false true e f = absurd (let g : same_text a b ≡ true = (text_exact a b).1 (sym ((text_exact b a).0 f)) in let bad : ⊥ = cc (g, e) in bad)

module _ {A : Type 0} where
  -- a key that is there stays
  pub is_there : (old : List ℕ → Option A) (key : List ℕ) (v : A) → is_some (old key) ≡ true → (q : List ℕ) → old q ≡ or_later (old q) (if same_text q key then Some v else None)
  is_there old key v there q = by_test (same_text q key) refl
    where
      by_test : (b : Bool) → same_text q key ≡ b → old q ≡ or_later (old q) (if b then Some v else None)
      by_test true e = some_first (old q) (Some v) (ap (λ k. is_some (old k)) ((text_exact q key).0 e) ∙ there)
      by_test false e = none_later (old q)

  -- one that isn't there is put in
  pub is_put : (old new : List ℕ → Option A) (key : List ℕ) (v : A) → is_some (old key) ≡ false → ((q : List ℕ) → new q ≡ (if same_text key q then Some v else old q))
      → (q : List ℕ) → new q ≡ or_later (old q) (if same_text q key then Some v else None)
  is_put old new key v absent puts q = puts q ∙ ap (λ b. if b then Some v else old q) (turned key q) ∙ by_test (same_text q key) refl
    where
      by_test : (b : Bool) → same_text q key ≡ b → (if b then Some v else old q) ≡ or_later (old q) (if b then Some v else None)
      by_test true e = none_first (old q) (Some v) (ap (λ k. is_some (old k)) ((text_exact q key).0 e) ∙ absent)
      by_test false e = none_later (old q)

  -- an entry more, `test` telling whether it has the key that is asked for
  pub entry_more : (test : Bool) (v : A) (old new rest all : Option A) → new ≡ or_later old (if test then Some v else None) → or_later old (if test then Some v else rest) ≡ all → or_later new rest ≡ all
  entry_more test v old new rest all is was = ap (λ o. or_later o rest) is ∙ later_joined old (if test then Some v else None) rest ∙ ap (or_later old) (by_test test) ∙ was
    where
      by_test : (b : Bool) → or_later (if b then Some v else None) rest ≡ (if b then Some v else rest)
      by_test true = refl
      by_test false = refl

  -- entries more
  pub entries_more : (more old new rest all : Option A) → new ≡ or_later old more → or_later old (or_later more rest) ≡ all → or_later new rest ≡ all
  entries_more more old new rest all is was = ap (λ o. or_later o rest) is ∙ later_joined old more rest ∙ was

-- ---- the rest of a list from a place on

pub there : {A : Type 0} (xs : List A) (n : ℕ) (x : A) → n < length xs → x ≡ slice_index_or xs n x → Some x ≡ slice_get xs n
there xs n x within is = sym (slice_get_read xs (length xs) n x refl within is)

pub rest_here : {A : Type 0} (xs : List A) (n : ℕ) (x : A) → Some x ≡ slice_get xs n → drop n xs ≡ x ∷ drop (n + 1) xs
rest_here [] n x e = absurd (cc e)
rest_here (y ∷ ys) zero x e = let same : y ≡ x = cc e in ap (λ z. z ∷ ys) same
rest_here (y ∷ ys) (suc n) x e = let f : suc (n + 1) ≡ suc n + 1 = omega arith in rest_here ys n x e ∙ ap (λ m. x ∷ drop m (y ∷ ys)) f

-- what the first that has a result gives
pub some_here : {A B : Type 0} (f : A → Option B) (xs : List A) (n : ℕ) (x : A) (y : B) (all : Option B) → Some x ≡ slice_get xs n → Some y ≡ f x → first_some f (drop n xs) ≡ all → Some y ≡ all
some_here f xs n x y all here found was =
    ap (λ o. or_later o (first_some f (drop (n + 1) xs))) found ∙ ap (first_some f) (sym (rest_here xs n x here)) ∙ was

pub some_later : {A B : Type 0} (f : A → Option B) (xs : List A) (n : ℕ) (x : A) (all : Option B) → Some x ≡ slice_get xs n → None ≡ f x → first_some f (drop n xs) ≡ all
    → first_some f (drop (n + 1) xs) ≡ all
some_later f xs n x all here none was =
    ap (λ o. or_later o (first_some f (drop (n + 1) xs))) none ∙ ap (first_some f) (sym (rest_here xs n x here)) ∙ was
