-- The parts of a cut list, one after another.
use Rattle.std.proofs.Common.{◌≡◌, ℕ, zero, suc, ◌-◌, ◌<◌, List, [], ◌∷◌, length, drop, refl, ap, arith}
use Rattle.c_tokens.specs.Cut.{cut}

pub cut_skip : {A P : Type 0} (first : List A → P) (width : P → ℕ) (k : ℕ) (xs : List A) → cut first width k xs ≡ cut first width 0 (drop k xs)
cut_skip first width zero xs = refl
cut_skip first width (suc k) [] = refl
cut_skip first width (suc k) (a ∷ xs) = cut_skip first width k xs

cut_behind : {A P : Type 0} (first : List A → P) (width : P → ℕ) (w : ℕ) (a : A) (xs : List A) → 0 < w → cut first width (w - 1) xs ≡ cut first width 0 (drop w (a ∷ xs))
cut_behind first width zero a xs some = absurd (omega arith)
cut_behind first width (suc k) a xs some = let e : suc k - 1 ≡ k = omega arith in rw e (cut_skip first width k xs)

pub cut_at : {A P : Type 0} (first : List A → P) (width : P → ℕ) (xs : List A) → 0 < length xs → 0 < width (first xs) → cut first width 0 xs ≡ first xs ∷ cut first width 0 (drop (width (first xs)) xs)
cut_at first width [] long some = absurd (omega arith)
cut_at first width (a ∷ xs) long some = ap (λ ps. first (a ∷ xs) ∷ ps) (cut_behind first width (width (first (a ∷ xs))) a xs some)
