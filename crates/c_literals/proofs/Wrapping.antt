-- What 128 bits have of a number decides what fewer bits have.
use Rattle.std.proofs.Common.{rules, ◌≡◌, ◌≤◌, ◌<◌, ◌^◌, ℕ, ◌+◌, ◌-◌, ◌*◌, ◌%◌, ◌/◌, ℤ, pos, ◌≤ℤ◌, ◌+ℤ◌, FitsSigned, Bool, true, false, ap, sym, ◌∙◌, arith, inl, inr}
use Rattle.std.specs.Prelude.{refl, negsuc, suc, neg_ℤ, int_le, int_lt, ◌&&◌, if◌then◌else◌}
use Rattle.std.specs.Int.{w128, int_wrap, int_rem_euclid, cast_signed, cast_unsigned}
use Rattle.std.proofs.lemmas.Int.{ints, int_rem_euclid_is, int_wrap_fits, to_z-of_z, SFits-int_wrap}
use Rattle.std.proofs.lemmas.Nat.{mod-pow-add, mod_low, mod_below, pow_pos, pow-add}
use Rattle.std.proofs.lemmas.Bool.{cases_lt}
use Rattle.type_data.specs.declared.integers.IntTy.{IntTy}
use Rattle.type_data.specs.declared.integers.IntTy.TheVariants as ty
use Rattle.type_data.specs.declared.values.Value.TheVariants.{Known, Faulty}
use Rattle.c_literals.specs.Ranges.{is_signed, least, limit, fits, residue, into, tested}

-- the rest of a rest
rest_of_rest : (j k n : ℕ) → n % 2 ^ (j + k) % 2 ^ k ≡ n % 2 ^ k
rest_of_rest j k n = ap (λ m. m % 2 ^ k) (mod-pow-add n j k) ∙ mod_low (n / 2 ^ k % 2 ^ j) k (n % 2 ^ k) (mod_below n (2 ^ k) (pow_pos k))

spread : (h g m k : ℕ) → m ≡ h + 1 + g → m * k ≡ h * k + k + g * k
spread h g m k e = let widened : (h + 1 + g) * k ≡ h * k + k + g * k = omega arith in ap (λ x. x * k) e ∙ widened

-- the distance from the last place, in rows of k places
mirrored : (h l m k : ℕ) → h < m → l < k → m * k - 1 - (h * k + l) ≡ (m - 1 - h) * k + (k - 1 - l)
mirrored h l m k p q = let e = spread h (m - 1 - h) m k (omega arith) in omega (arith, e)

rest_mirrored : (j k n : ℕ) → (2 ^ (j + k) - 1 - n % 2 ^ (j + k)) % 2 ^ k ≡ 2 ^ k - 1 - n % 2 ^ k
rest_mirrored j k n =
    let l = n % 2 ^ k in
    let h = n / 2 ^ k % 2 ^ j in
    let low : l < 2 ^ k = mod_below n (2 ^ k) (pow_pos k) in
    let high : h < 2 ^ j = mod_below (n / 2 ^ k) (2 ^ j) (pow_pos j) in
    let turned : 2 ^ (j + k) - 1 - n % 2 ^ (j + k) ≡ (2 ^ j - 1 - h) * 2 ^ k + (2 ^ k - 1 - l) =
    ap (λ m. 2 ^ (j + k) - 1 - m) (mod-pow-add n j k) ∙ ap (λ m. m - 1 - (h * 2 ^ k + l)) (pow-add 2 j k) ∙ mirrored h l (2 ^ j) (2 ^ k) high low in
    ap (λ m. m % 2 ^ k) turned ∙ mod_low (2 ^ j - 1 - h) k (2 ^ k - 1 - l) (omega (arith, low))

negative : (r : ℕ) → 2 ^ 127 ≤ r → cast_signed w128 r ≡ negsuc (2 ^ 128 - suc r)
negative r high = grind arith

lifted : (r : ℕ) → 2 ^ 127 ≤ r → r < 2 ^ 128 → cast_signed w128 r +ℤ pos (2 ^ 128) ≡ pos r
lifted r high p =
    let signed : cast_signed w128 r ≡ negsuc (2 ^ 128 - suc r) = negative r high in
    let sum : negsuc (2 ^ 128 - suc r) +ℤ pos (2 ^ 128) ≡ pos r = omega (arith, ints) in
    ap (λ z. z +ℤ pos (2 ^ 128)) signed ∙ sum

-- the rest of what 128 bits have of a number is the number's rest
signed_rest : (j k r : ℕ) → 2 ^ j * 2 ^ k ≡ 2 ^ 128 → r < 2 ^ 128 → int_rem_euclid (cast_signed w128 r) (pos (2 ^ k)) ≡ pos (r % 2 ^ k)
signed_rest j k r e p = elim (cases_lt r (2 ^ 127)) [
  | inl low ↦ int_rem_euclid_is (cast_signed w128 r) (pos (2 ^ k)) (2 ^ k) 0 r (pow_pos k) refl (omega (arith, ints))
  | inr high ↦ int_rem_euclid_is (cast_signed w128 r) (pos (2 ^ k)) (2 ^ k) (2 ^ j) r (pow_pos k) refl (ap (λ m. cast_signed w128 r +ℤ pos m) e ∙ lifted r high p)
]

wrapped_rest : (j k : ℕ) (z : ℤ) → j + k ≡ 128 → int_rem_euclid (int_wrap w128 z) (pos (2 ^ k)) ≡ int_rem_euclid z (pos (2 ^ k))
unfolding int_wrap
wrapped_rest j k (pos a) e =
    signed_rest j k (a % 2 ^ 128) (sym (pow-add 2 j k) ∙ ap (λ m. 2 ^ m) e) (mod_below a (2 ^ 128) (pow_pos 128))
    ∙ ap pos (ap (λ m. a % 2 ^ m % 2 ^ k) (sym e) ∙ rest_of_rest j k a)
wrapped_rest j k (negsuc a) e =
    signed_rest j k (2 ^ 128 - 1 - a % 2 ^ 128) (sym (pow-add 2 j k) ∙ ap (λ m. 2 ^ m) e) (omega arith)
    ∙ ap pos (ap (λ m. (2 ^ m - 1 - a % 2 ^ m) % 2 ^ k) (sym e) ∙ rest_mirrored j k a)

-- 128 bits have every value of a type
ranged : (low high z : ℤ) → neg_ℤ (pos (2 ^ 64)) ≤ℤ low → high ≤ℤ pos (2 ^ 64) → (int_le low z && int_lt z high) ≡ true → FitsSigned w128 z
ranged low high z l h t = grind (arith, ints)

low_end : (ty : IntTy) → neg_ℤ (pos (2 ^ 64)) ≤ℤ least ty
unfolding least
low_end ty.Bool = search rules
low_end ty.Char = search rules
low_end ty.SChar = search rules
low_end ty.UChar = search rules
low_end ty.Short = search rules
low_end ty.UShort = search rules
low_end ty.Int = search rules
low_end ty.UInt = search rules
low_end ty.Long = search rules
low_end ty.ULong = search rules
low_end ty.LongLong = search rules
low_end ty.ULongLong = search rules

high_end : (ty : IntTy) → limit ty ≤ℤ pos (2 ^ 64)
unfolding limit
high_end ty.Bool = search rules
high_end ty.Char = search rules
high_end ty.SChar = search rules
high_end ty.UChar = search rules
high_end ty.Short = search rules
high_end ty.UShort = search rules
high_end ty.Int = search rules
high_end ty.UInt = search rules
high_end ty.Long = search rules
high_end ty.ULong = search rules
high_end ty.LongLong = search rules
high_end ty.ULongLong = search rules

fits_128 : (ty : IntTy) (z : ℤ) → fits ty z ≡ true → FitsSigned w128 z
unfolding fits
fits_128 ty z t = ranged (least ty) (limit ty) z (low_end ty) (high_end ty) t

-- modulo 2^k nothing is lost where 128 bits wrap
residue_wrap : (ty : IntTy) (z : ℤ) → residue ty (int_wrap w128 z) ≡ residue ty z
unfolding residue
residue_wrap ty.Bool z = wrapped_rest 127 1 z refl
residue_wrap ty.Char z = wrapped_rest 120 8 z refl
residue_wrap ty.SChar z = wrapped_rest 120 8 z refl
residue_wrap ty.UChar z = wrapped_rest 120 8 z refl
residue_wrap ty.Short z = wrapped_rest 112 16 z refl
residue_wrap ty.UShort z = wrapped_rest 112 16 z refl
residue_wrap ty.Int z = wrapped_rest 96 32 z refl
residue_wrap ty.UInt z = wrapped_rest 96 32 z refl
residue_wrap ty.Long z = wrapped_rest 64 64 z refl
residue_wrap ty.ULong z = wrapped_rest 64 64 z refl
residue_wrap ty.LongLong z = wrapped_rest 64 64 z refl
residue_wrap ty.ULongLong z = wrapped_rest 64 64 z refl

else_is : {A : Type 0} (b : Bool) (x y w : A) → b ≡ false → w ≡ y → w ≡ (if b then x else y)
else_is false x y w e f = f
else_is true x y w e f = search rules

then_is : {A : Type 0} (b : Bool) (x y w : A) → b ≡ true → w ≡ x → w ≡ (if b then x else y)
then_is true x y w e f = f
then_is false x y w e f = search rules

pub into_unsigned : (ty : IntTy) (number z : ℤ) → is_signed ty ≡ false → int_wrap w128 z ≡ number → Known (residue ty number) ≡ into ty z
unfolding into
into_unsigned ty number z e f =
    else_is (is_signed ty) (tested ty z) (Known (residue ty z)) _ e (ap (λ n. Known (residue ty n)) (sym f) ∙ ap Known (residue_wrap ty z))

pub into_overflowed : (ty : IntTy) (z : ℤ) → is_signed ty ≡ true → ¬ (FitsSigned w128 z) → Faulty 531 ≡ into ty z
unfolding into
into_overflowed ty z e lacks =
    then_is (is_signed ty) (tested ty z) (Known (residue ty z)) _ e
    (else_is (fits ty z) (Known z) (Faulty 531) _ (search (rules, fits_128)) refl)

pub into_signed : (ty : IntTy) (number z : ℤ) → is_signed ty ≡ true → int_wrap w128 z ≡ number → FitsSigned w128 z → tested ty number ≡ into ty z
unfolding into
into_signed ty number z e f h =
    then_is (is_signed ty) (tested ty z) (Known (residue ty z)) _ e (ap (tested ty) (sym f ∙ int_wrap_fits w128 z h))

-- a result of 128 bits as it is passed on
pub as_passed : (exact number : ℤ) → int_wrap w128 exact ≡ number → int_wrap w128 exact ≡ cast_signed w128 (cast_unsigned w128 number)
as_passed exact number e =
    sym (to_z-of_z w128 (int_wrap w128 exact) (SFits-int_wrap w128 exact)) ∙ ap (λ z. cast_signed w128 (cast_unsigned w128 z)) e
