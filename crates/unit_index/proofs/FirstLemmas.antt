-- The first of some that gives something, found while a walk keeps what it found before.
use Rattle.std.proofs.Common.{arith, ◌≡◌, ℕ, zero, suc, ◌+◌, List, [], ◌∷◌, length, drop, Option, Some, None, refl, sym, ap, ◌∙◌}
use Rattle.std.specs.List.{slice_get}
use Rattle.unit_index.specs.Firsts.{first_some, or_else}

or_grouped : {A : Type 0} (a b c : Option A) → or_else (or_else a b) c ≡ or_else a (or_else b c)
or_grouped None b c = refl
or_grouped (Some x) b c = refl

or_nothing : {A : Type 0} (a : Option A) → or_else a None ≡ a
or_nothing None = refl
or_nothing (Some x) = refl

pub firsts_turn : {A B : Type 0} (f : A → Option B) (old now all : Option B) (x : A) (rest behind : List A)
    → rest ≡ x ∷ behind → now ≡ or_else old (f x) → or_else old (first_some f rest) ≡ all → or_else now (first_some f behind) ≡ all
firsts_turn f old now all x rest behind here is was =
    ap (λ o. or_else o (first_some f behind)) is ∙ or_grouped old (f x) (first_some f behind) ∙ sym (ap (λ xs. or_else old (first_some f xs)) here) ∙ was

firsts_left : {A B : Type 0} (f : A → Option B) (now all : Option B) (rest : List A) → rest ≡ [] → or_else now (first_some f rest) ≡ all → now ≡ all
firsts_left f now all rest none was = sym (or_nothing now) ∙ sym (ap (λ xs. or_else now (first_some f xs)) none) ∙ was

pub empty : {A : Type 0} (xs : List A) → length xs ≡ 0 → xs ≡ []
empty [] e = refl
empty (x ∷ xs) e = let bad : ⊥ = omega (arith, e) in absurd bad

pub firsts_end : {A B : Type 0} (f : A → Option B) (now all : Option B) (rest : List A) → length rest ≡ 0 → or_else now (first_some f rest) ≡ all → now ≡ all
firsts_end f now all rest none was = firsts_left f now all rest (empty rest none) was

-- what is left from a place on
pub rest_here : {A : Type 0} (xs : List A) (n : ℕ) (x : A) → Some x ≡ slice_get xs n → drop n xs ≡ x ∷ drop (n + 1) xs
rest_here [] n x e = absurd (cc e)
rest_here (y ∷ ys) zero x e = let same : y ≡ x = cc e in ap (λ z. z ∷ ys) same
rest_here (y ∷ ys) (suc n) x e = let f : suc (n + 1) ≡ suc n + 1 = omega arith in rest_here ys n x e ∙ ap (λ m. x ∷ drop m (y ∷ ys)) f

pub rest_none : {A : Type 0} (xs : List A) (n : ℕ) → None ≡ slice_get xs n → drop n xs ≡ []
rest_none [] zero e = refl
rest_none [] (suc n) e = refl
rest_none (y ∷ ys) zero e = absurd (cc e)
rest_none (y ∷ ys) (suc n) e = rest_none ys n e

pub firsts_turn_at : {A B : Type 0} (f : A → Option B) (old now all : Option B) (x : A) (xs : List A) (n : ℕ)
    → Some x ≡ slice_get xs n → now ≡ or_else old (f x) → or_else old (first_some f (drop n xs)) ≡ all → or_else now (first_some f (drop (n + 1) xs)) ≡ all
firsts_turn_at f old now all x xs n here is was = firsts_turn f old now all x (drop n xs) (drop (n + 1) xs) (rest_here xs n x here) is was

pub firsts_end_at : {A B : Type 0} (f : A → Option B) (now all : Option B) (xs : List A) (n : ℕ) → None ≡ slice_get xs n → or_else now (first_some f (drop n xs)) ≡ all → now ≡ all
firsts_end_at f now all xs n none was = firsts_left f now all (drop n xs) (rest_none xs n none) was
