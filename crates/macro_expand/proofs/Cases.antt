-- Facts about both branches of an `if`.
use Rattle.std.proofs.Common.{◌≡◌, ℕ, ◌<◌, Bool, true, false, refl, if◌then◌else◌, arith, eqb}
use Rattle.std.proofs.lemmas.Bool.{eqb-false}

pub if_cases : {A : Type 0} (P : A → Type 0) (b : Bool) (x y : A) → (b ≡ true → P x) → (b ≡ false → P y) → P
    (if b then x else y)
if_cases P true x y holds fails = holds refl
if_cases P false x y holds fails = fails refl

pub if_both : {A : Type 0} (P : A → A → Type 0) (b : Bool) (x y x' y' : A) → (b ≡ true → P x x')
    → (b ≡ false → P y y') → P (if b then x else y) (if b then x' else y')
if_both P true x y x' y' holds fails = holds refl
if_both P false x y x' y' holds fails = fails refl

pub above_zero : (n : ℕ) → eqb n 0 ≡ false → 0 < n
above_zero n e = let ne : n ≡ 0 → ⊥ = eqb-false n 0 e in omega (arith, ne)
