-- The top of a stack that is seen turned round, changed in place.
use Rattle.std.proofs.Common.{arith, ◌≡◌, ℕ, ◌+◌, ◌-◌, ◌<◌, List, [], ◌∷◌, ◌++◌, length, slice_index_or, slice_set, sym, ap, ◌∙◌, length-append}
use Rattle.std.proofs.Math.Seq.{get_or-append_seam, set-append_seam}
use Rattle.std.proofs.lemmas.List.{reverse-append, reverse-reverse}
use Rattle.std.specs.Prelude.{reverse}

pub record Topped {A : Type 0} (xs : List A) (n : ℕ) (x : A) : Type 0 where
  pub rest : List A
  pub was : reverse xs ≡ x ∷ rest
  pub becomes : (y : A) → reverse (slice_set xs n y) ≡ y ∷ rest

topped : {A : Type 0} (xs ys : List A) (r x : A) (n : ℕ) → xs ≡ ys ++ r ∷ [] → n ≡ length ys → x ≡ slice_index_or xs n x → Topped xs n x
topped xs ys r x n is place at =
    let same : x ≡ r = at ∙ ap (λ l. slice_index_or l n x) is ∙ ap (λ k. slice_index_or (ys ++ r ∷ []) k x) place ∙ get_or-append_seam ys r [] x in
    record {
      rest = reverse ys;
      was = ap (λ l. reverse l) is ∙ reverse-append ys (r ∷ []) ∙ ap (λ z. z ∷ reverse ys) (sym same);
      becomes = λ y.
          ap (λ l. reverse (slice_set l n y)) is ∙ ap (λ k. reverse (slice_set (ys ++ r ∷ []) k y)) place
          ∙ ap (λ l. reverse l) (set-append_seam ys r [] y) ∙ reverse-append ys (y ∷ []);
    }

by_turned : {A : Type 0} (rs xs : List A) (x : A) (n : ℕ) → xs ≡ reverse rs → n + 1 ≡ length xs → x ≡ slice_index_or xs n x → Topped xs n x
by_turned [] xs x n is some at =
    let none : length xs ≡ 0 = ap (λ l. length l) is in
    let bad : ⊥ = omega (arith, none, some) in
    absurd bad
by_turned (r ∷ rest) xs x n is some at =
    let cut : xs ≡ reverse rest ++ r ∷ [] = is ∙ reverse-append (r ∷ []) rest in
    let whole : length xs ≡ length (reverse rest) + 1 = ap (λ l. length l) cut ∙ length-append (reverse rest) (r ∷ []) in
    let place : n ≡ length (reverse rest) = omega (arith, whole, some) in
    topped xs (reverse rest) r x n cut place at

pub top_of : {A : Type 0} (xs : List A) (x : A) (n : ℕ) → n + 1 ≡ length xs → x ≡ slice_index_or xs n x → Topped xs n x
top_of xs x n some at = by_turned (reverse xs) xs x n (sym (reverse-reverse xs)) some at

-- what stands on top is changed by f, and g changes the top so
pub changed : {A : Type 0} (g : List A → List A) (xs seen : List A) (x y : A) (n len : ℕ) → len ≡ length xs → 0 < len → n ≡ len - 1 → reverse xs ≡ seen
    → x ≡ slice_index_or xs n x → ((rest : List A) → g (x ∷ rest) ≡ y ∷ rest) → reverse (slice_set xs n y) ≡ g seen
changed g xs seen x y n len is some last seen_is at does =
    let whole : n + 1 ≡ length xs = omega (arith, is, some, last) in
    let t = top_of xs x n whole at in
    t.becomes y ∙ sym (does t.rest) ∙ ap (λ l. g l) (sym t.was ∙ seen_is)
