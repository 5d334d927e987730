-- Digits in the productions, and the run of digits at the front of a text.
use Rattle.std.proofs.Common.{◌≡◌, ℕ, suc, ◌+◌, ◌⊎◌, inl, inr, Bool, true, false, ◌&&◌, ◌||◌, List, [], ◌∷◌, ◌++◌, append_assoc, length, take, refl, sym, subst, arith, slice_index, ◌==◌}
use Rattle.std.proofs.lemmas.Grind.{common_steps}
use Rattle.std.proofs.lemmas.List.{append-nil}
use Rattle.std.specs.Char.{is_digit}
use Rattle.std.specs.List.{list_all}
use Rattle.c_literals.specs.Digits.{run}
use Rattle.c_literals.specs.Productions.{is_decimal_digit, is_nonzero_digit, is_octal_digit, is_hexadecimal_digit, AreDigits, first_digit, next_digit, IsDecimal, first_nonzero, next_decimal, IsOctal, first_zero, next_octal}

pub first_part : (a b : Bool) → a && b ≡ true → a ≡ true
first_part true b e = refl
first_part false b e = e

pub second_part : (a b : Bool) → a && b ≡ true → b ≡ true
second_part true b e = e
second_part false b e = cc e

pub both : (a b : Bool) → a ≡ true → b ≡ true → a && b ≡ true
both a b e f = rw (e, f) refl

pub either_part : (a b : Bool) → a || b ≡ true → (a ≡ true) ⊎ (b ≡ true)
either_part true b e = inl refl
either_part false b e = inr e

pub same_test : (a b : ℕ) → a == b ≡ true → a ≡ b
same_test a b e = grind (arith, common_steps, e)

-- a test of digits is that of their base
agree : (a b : Bool) → (a ≡ true → b ≡ true) → (b ≡ true → a ≡ true) → a ≡ b
agree true b f g = sym (f refl)
agree false true f g = cc (g refl)
agree false false f g = refl

abbrev pub Tests : ℕ → (ℕ → Bool) → Type 0
Tests base is = (c : ℕ) → is_digit c base ≡ is c

pub decimal_tests : Tests 10 is_decimal_digit
decimal_tests c = agree (is_digit c 10) (is_decimal_digit c) (λ e. grind (arith, common_steps, e)) (λ e. grind (arith, common_steps, e))

pub octal_tests : Tests 8 is_octal_digit
octal_tests c = agree (is_digit c 8) (is_octal_digit c) (λ e. grind (arith, common_steps, e)) (λ e. grind (arith, common_steps, e))

pub hexadecimal_tests : Tests 16 is_hexadecimal_digit
hexadecimal_tests c = agree (is_digit c 16) (is_hexadecimal_digit c) (λ e. grind (arith, common_steps, e)) (λ e. grind (arith, common_steps, e))

-- one digit at least, and nothing else
abbrev pub Digits : (ℕ → Bool) → List ℕ → Type 0
Digits is w = (is (slice_index w 0) ≡ true) × (list_all is w ≡ true)

more_digit : (is : ℕ → Bool) (w : List ℕ) (d : ℕ) → is 0 ≡ false → Digits is w → is d ≡ true → Digits is (w ++ d ∷ [])
more_digit is [] d none k e = cc (k.0, none)
more_digit is (c ∷ w) d none k e = (k.0, both (is c) (list_all is (w ++ d ∷ [])) (first_part (is c) (list_all is w) k.1) (all_more w (second_part (is c) (list_all is w) k.1)))
  where
    all_more : (v : List ℕ) → list_all is v ≡ true → list_all is (v ++ d ∷ []) ≡ true
    all_more [] f = both (is d) true e refl
    all_more (b ∷ v) f = both (is b) (list_all is (v ++ d ∷ [])) (first_part (is b) (list_all is v) f) (all_more v (second_part (is b) (list_all is v) f))

pub digits_of : (is : ℕ → Bool) → is 0 ≡ false → (w : List ℕ) → AreDigits is w → Digits is w
digits_of is none w (first_digit d e) = (e, both (is d) true e refl)
digits_of is none w (next_digit v d a e) = more_digit is v d none (digits_of is none v a) e

digits_on : (is : ℕ → Bool) (done w : List ℕ) → AreDigits is done → list_all is w ≡ true → AreDigits is (done ++ w)
digits_on is done [] a e = subst (AreDigits is) (sym (append-nil done)) a
digits_on is done (c ∷ w) a e = subst (AreDigits is) (append_assoc done (c ∷ []) w) (digits_on is (done ++ c ∷ []) w (next_digit done c a (first_part (is c) (list_all is w) e)) (second_part (is c) (list_all is w) e))

pub are_digits : (is : ℕ → Bool) → is 0 ≡ false → (w : List ℕ) → Digits is w → AreDigits is w
are_digits is none [] k = cc (k.0, none)
are_digits is none (c ∷ w) k = digits_on is (c ∷ []) w (first_digit c k.0) (second_part (is c) (list_all is w) k.1)

nonzero_digit : (d : ℕ) → is_nonzero_digit d ≡ true → is_decimal_digit d ≡ true
nonzero_digit d e = grind (arith, common_steps, e)

abbrev pub Decimal : List ℕ → Type 0
Decimal w = (is_nonzero_digit (slice_index w 0) ≡ true) × Digits is_decimal_digit w

pub decimal_of : (w : List ℕ) → IsDecimal w → Decimal w
decimal_of w (first_nonzero d e) = (e, (nonzero_digit d e, both (is_decimal_digit d) true (nonzero_digit d e) refl))
decimal_of w (next_decimal v d a e) = more v (decimal_of v a)
  where
    more : (v : List ℕ) → Decimal v → Decimal (v ++ d ∷ [])
    more [] k = cc k.0
    more (c ∷ v) k = (k.0, more_digit is_decimal_digit (c ∷ v) d refl k.1 e)

decimal_on : (done w : List ℕ) → IsDecimal done → list_all is_decimal_digit w ≡ true → IsDecimal (done ++ w)
decimal_on done [] a e = subst IsDecimal (sym (append-nil done)) a
decimal_on done (c ∷ w) a e = subst IsDecimal (append_assoc done (c ∷ []) w) (decimal_on (done ++ c ∷ []) w (next_decimal done c a (first_part (is_decimal_digit c) (list_all is_decimal_digit w) e)) (second_part (is_decimal_digit c) (list_all is_decimal_digit w) e))

pub is_decimal : (w : List ℕ) → Decimal w → IsDecimal w
is_decimal [] k = cc k.0
is_decimal (c ∷ w) k = decimal_on (c ∷ []) w (first_nonzero c k.0) (second_part (is_decimal_digit c) (list_all is_decimal_digit w) k.1.1)

abbrev pub Octal : List ℕ → Type 0
Octal w = (slice_index w 0 ≡ 48) × Digits is_octal_digit w

pub octal_of : (w : List ℕ) → IsOctal w → Octal w
octal_of w first_zero = (refl, (refl, refl))
octal_of w (next_octal v d a e) = more v (octal_of v a)
  where
    more : (v : List ℕ) → Octal v → Octal (v ++ d ∷ [])
    more [] k = cc k.0
    more (c ∷ v) k = (k.0, more_digit is_octal_digit (c ∷ v) d refl k.1 e)

octal_on : (done w : List ℕ) → IsOctal done → list_all is_octal_digit w ≡ true → IsOctal (done ++ w)
octal_on done [] a e = subst IsOctal (sym (append-nil done)) a
octal_on done (c ∷ w) a e = subst IsOctal (append_assoc done (c ∷ []) w) (octal_on (done ++ c ∷ []) w (next_octal done c a (first_part (is_octal_digit c) (list_all is_octal_digit w) e)) (second_part (is_octal_digit c) (list_all is_octal_digit w) e))

pub is_octal : (w : List ℕ) → Octal w → IsOctal w
is_octal [] k = cc k.0
is_octal (c ∷ w) k = subst (λ (z : ℕ). IsOctal (z ∷ w)) (sym k.0) (octal_on (48 ∷ []) w first_zero (second_part (is_octal_digit c) (list_all is_octal_digit w) k.1.1))

-- how far the digits at the front go
pub run_is : (base : ℕ) (is : ℕ → Bool) → Tests base is → (w rest : List ℕ) → list_all is w ≡ true → is (slice_index rest 0) ≡ false → run base (w ++ rest) ≡ length w
run_is base is same [] [] e stop = refl
run_is base is same [] (c ∷ rest) e stop = rw (same c, stop) refl
run_is base is same (c ∷ w) rest e stop =
    let here : is c ≡ true = first_part (is c) (list_all is w) e in
    let more : run base (w ++ rest) ≡ length w = run_is base is same w rest (second_part (is c) (list_all is w) e) stop in
    rw (same c, here) (omega (arith, more))

-- what stands at the front is digits, and no digit stands behind them
pub run_all : (base : ℕ) (is : ℕ → Bool) → Tests base is → (text : List ℕ) → list_all is (take (run base text) text) ≡ true
run_all base is same [] = refl
run_all base is same (c ∷ text) = by (is c) refl (run_all base is same text)
  where
    by : (b : Bool) → is c ≡ b → list_all is (take (run base text) text) ≡ true → list_all is (take (run base (c ∷ text)) (c ∷ text)) ≡ true
    by true e more =
        let n : 1 + run base text ≡ suc (run base text) = omega arith in
        rw (same c, e, n, e) more
    by false e more = rw (same c, e) refl

pub run_digits : (base : ℕ) (is : ℕ → Bool) → Tests base is → is 0 ≡ false → (text : List ℕ) → run base text == 0 ≡ false → Digits is (take (run base text) text)
run_digits base is same none text some = (front text some, run_all base is same text)
  where
    front : (text : List ℕ) → run base text == 0 ≡ false → is (slice_index (take (run base text) text) 0) ≡ true
    front [] e = cc e
    front (c ∷ text) e = by (is c) refl e
      where
        by : (b : Bool) → is c ≡ b → run base (c ∷ text) == 0 ≡ false → is (slice_index (take (run base (c ∷ text)) (c ∷ text)) 0) ≡ true
        by true f k =
            let n : 1 + run base text ≡ suc (run base text) = omega arith in
            rw (same c, f, n) f
        by false f k = cc (rw (same c, f) at k)

pub some_digits : (is : ℕ → Bool) → is 0 ≡ false → (w : List ℕ) → Digits is w → length w == 0 ≡ false
some_digits is none [] k = cc (k.0, none)
some_digits is none (c ∷ w) k = grind (arith, common_steps)
