-- What is read as a floating constant is one by its productions, and the other way round.
use Rattle.std.proofs.Common.{◌≡◌, ℕ, ◌⊎◌, inl, inr, Bool, true, false, not, ◌&&◌, ◌||◌, List, [], ◌∷◌, ◌++◌, append_assoc, length, take, drop, refl, ap, sym, ◌∙◌, subst, arith, Option, Some, None, slice_index, ◌==◌, if◌then◌else◌}
use Rattle.std.proofs.lemmas.Grind.{common_steps}
use Rattle.std.proofs.lemmas.List.{drop_at, take-append-drop}
use Rattle.std.specs.List.{list_all}
use Rattle.type_data.specs.declared.basics.Basic.{Basic}
use Rattle.type_data.specs.declared.basics.Basic.TheVariants as basic
use Rattle.c_literals.specs.Digits.{run, begins_with}
use Rattle.c_literals.specs.Integer.{has_prefix}
use Rattle.c_literals.specs.Floating.{behind, floating_suffix, without_sign, exponent, ending, fraction, floating, floating_constant}
use Rattle.c_literals.specs.Productions.{is_decimal_digit, is_hexadecimal_digit, AreDigits, IsPrefix, prefix_x, prefix_X, IsFloatingSuffix, no_floating, floating_f, floating_F, floating_l, floating_L, IsSign, no_sign, plus, minus, IsExponent, small_exponent, capital_exponent, IsFractional, behind_point, around_point, before_point, IsFloatingConstant, fraction_alone, fraction_exponent, digits_exponent, hexadecimal_fraction, hexadecimal_digits}
use Rattle.c_literals.proofs.DigitRuns.{first_part, second_part, either_part, same_test, Tests, decimal_tests, hexadecimal_tests, Digits, digits_of, are_digits, run_is, run_digits, some_digits}
use Rattle.c_literals.proofs.IntegerReads.{if_cases}

-- suffixes
suffix_read : (ty : Basic) (t : List ℕ) → IsFloatingSuffix ty t → floating_suffix t ≡ Some ty
unfolding floating_suffix begins_with
suffix_read ty t no_floating = refl
suffix_read ty t floating_f = refl
suffix_read ty t floating_F = refl
suffix_read ty t floating_l = refl
suffix_read ty t floating_L = refl

-- the first letter of a suffix, or 0, and that of an exponent
abbrev IsLetter : ℕ → Type 0
IsLetter c = (c == 102 || c == 70) || (c == 108 || c == 76) || c == 0 ≡ true

suffix_letter : (ty : Basic) (t : List ℕ) → IsFloatingSuffix ty t → IsLetter (slice_index t 0)
suffix_letter ty t no_floating = refl
suffix_letter ty t floating_f = refl
suffix_letter ty t floating_F = refl
suffix_letter ty t floating_l = refl
suffix_letter ty t floating_L = refl

letter_no_digit : (c : ℕ) → IsLetter c → is_decimal_digit c ≡ false
letter_no_digit c e = grind (arith, common_steps, e)

letter_no_x : (c : ℕ) → IsLetter c → c == 120 || c == 88 ≡ false
letter_no_x c e = grind (arith, common_steps, e)

ending_suffix : (ty : Basic) (t : List ℕ) → IsFloatingSuffix ty t → ending 10 true t ≡ Some ty
unfolding ending floating_suffix begins_with
ending_suffix ty t no_floating = refl
ending_suffix ty t floating_f = refl
ending_suffix ty t floating_F = refl
ending_suffix ty t floating_l = refl
ending_suffix ty t floating_L = refl

-- exponents
exponent_digits : (w t : List ℕ) (ty : Basic) → Digits is_decimal_digit w → IsFloatingSuffix ty t → (if run 10 (w ++ t) == 0 then None else floating_suffix (behind 10 (w ++ t))) ≡ Some ty
exponent_digits w t ty k a =
    let n : run 10 (w ++ t) ≡ length w = run_is 10 is_decimal_digit decimal_tests w t k.1 (letter_no_digit (slice_index t 0) (suffix_letter ty t a)) in
    rw (n, some_digits is_decimal_digit refl w k, drop_at w t (length w) refl, suffix_read ty t a) refl

digit_no_sign : (c : ℕ) → is_decimal_digit c ≡ true → c == 43 || c == 45 ≡ false
digit_no_sign c e = grind (arith, common_steps, e)

unsigned_digits : (w t : List ℕ) → Digits is_decimal_digit w → without_sign (w ++ t) ≡ w ++ t
unfolding begins_with
unsigned_digits [] t k = cc k.0
unsigned_digits (c ∷ w) t k = rw (digit_no_sign c k.0) refl

exponent_read : (s w t : List ℕ) (ty : Basic) → IsSign s → Digits is_decimal_digit w → IsFloatingSuffix ty t → exponent ((s ++ w) ++ t) ≡ Some ty
unfolding exponent begins_with
exponent_read s w t ty no_sign k a = rw (unsigned_digits w t k) (exponent_digits w t ty k a)
exponent_read s w t ty plus k a = exponent_digits w t ty k a
exponent_read s w t ty minus k a = exponent_digits w t ty k a

decimal_ending : (pointed : Bool) (e t : List ℕ) (ty : Basic) → IsExponent 101 69 e → IsFloatingSuffix ty t → ending 10 pointed (e ++ t) ≡ Some ty
unfolding ending begins_with
decimal_ending pointed e t ty (small_exponent s w a b) k = exponent_read s w t ty a (digits_of is_decimal_digit refl w b) k
decimal_ending pointed e t ty (capital_exponent s w a b) k = exponent_read s w t ty a (digits_of is_decimal_digit refl w b) k

hexadecimal_ending : (pointed : Bool) (e t : List ℕ) (ty : Basic) → IsExponent 112 80 e → IsFloatingSuffix ty t → ending 16 pointed (e ++ t) ≡ Some ty
unfolding ending begins_with
hexadecimal_ending pointed e t ty (small_exponent s w a b) k = exponent_read s w t ty a (digits_of is_decimal_digit refl w b) k
hexadecimal_ending pointed e t ty (capital_exponent s w a b) k = exponent_read s w t ty a (digits_of is_decimal_digit refl w b) k

-- what stands in front of the ending
module _ (base : ℕ) (is : ℕ → Bool) (same : Tests base is) (none : is 0 ≡ false) (point : is 46 ≡ false) where
  digits_read : (w r : List ℕ) → Digits is w → is (slice_index r 0) ≡ false → slice_index r 0 == 46 ≡ false → floating base (w ++ r) ≡ ending base false r
  unfolding floating
  digits_read w r k stop other =
      let n : run base (w ++ r) ≡ length w = run_is base is same w r k.1 stop in
      rw (n, drop_at w r (length w) refl, other, some_digits is none w k) refl

  pointed_read : (v d : List ℕ) → list_all is v ≡ true → floating base (v ++ 46 ∷ d) ≡ fraction base (not (length v == 0)) d
  unfolding floating
  pointed_read v d k =
      let n : run base (v ++ 46 ∷ d) ≡ length v = run_is base is same v (46 ∷ d) k point in
      rw (n, drop_at v (46 ∷ d) (length v) refl) refl

  fraction_digits : (some : Bool) (w r : List ℕ) → Digits is w → is (slice_index r 0) ≡ false → fraction base some (w ++ r) ≡ ending base true r
  unfolding fraction
  fraction_digits some w r k stop =
      let n : run base (w ++ r) ≡ length w = run_is base is same w r k.1 stop in
      rw (n, drop_at w r (length w) refl, some_digits is none w k, or_true some) refl
    where
      or_true : (b : Bool) → b || true ≡ true
      or_true true = refl
      or_true false = refl

  fraction_bare : (r : List ℕ) → is (slice_index r 0) ≡ false → fraction base true r ≡ ending base true r
  unfolding fraction
  fraction_bare r stop =
      let n : run base r ≡ 0 = run_is base is same [] r refl stop in
      rw n refl

  fraction_read : (w : List ℕ) → IsFractional is w → (r : List ℕ) → is (slice_index r 0) ≡ false → floating base (w ++ r) ≡ ending base true r
  fraction_read w (behind_point d a) r stop = pointed_read [] (d ++ r) refl ∙ fraction_digits false d r (digits_of is none d a) stop
  fraction_read w (around_point v d a b) r stop =
      ap (floating base) (append_assoc v (46 ∷ d) r) ∙ pointed_read v (d ++ r) (digits_of is none v a).1 ∙ fraction_digits (not (length v == 0)) d r (digits_of is none d b) stop
  fraction_read w (before_point v a) r stop =
      ap (floating base) (append_assoc v (46 ∷ []) r) ∙ pointed_read v r (digits_of is none v a).1
      ∙ ap (λ (b : Bool). fraction base (not b) r) (some_digits is none v (digits_of is none v a)) ∙ fraction_bare r stop

-- no decimal constant has the prefix
digit_no_x : (c : ℕ) → is_decimal_digit c ≡ true → c == 120 || c == 88 ≡ false
digit_no_x c e = grind (arith, common_steps, e)

behind_no_x : (w r : List ℕ) → list_all is_decimal_digit w ≡ true → slice_index r 0 == 120 || slice_index r 0 == 88 ≡ false → slice_index (w ++ r) 0 == 120 || slice_index (w ++ r) 0 == 88 ≡ false
behind_no_x [] r e f = f
behind_no_x (c ∷ w) r e f = digit_no_x c (first_part (is_decimal_digit c) (list_all is_decimal_digit w) e)

and_false : (a b : Bool) → b ≡ false → a && b ≡ false
and_false true b e = e
and_false false b e = refl

second_no_x : (c : ℕ) (text : List ℕ) → slice_index text 0 == 120 || slice_index text 0 == 88 ≡ false → has_prefix (c ∷ text) ≡ false
unfolding has_prefix begins_with
second_no_x c text e = and_false (c == 48) _ e

unprefixed : (w r : List ℕ) → Digits is_decimal_digit w → slice_index r 0 == 120 || slice_index r 0 == 88 ≡ false → has_prefix (w ++ r) ≡ false
unprefixed [] r k e = cc k.0
unprefixed (c ∷ w) r k e = second_no_x c (w ++ r) (behind_no_x w r (second_part (is_decimal_digit c) (list_all is_decimal_digit w) k.1) e)

fraction_unprefixed : (w : List ℕ) → IsFractional is_decimal_digit w → (r : List ℕ) → has_prefix (w ++ r) ≡ false
unfolding has_prefix
fraction_unprefixed w (behind_point d a) r = refl
fraction_unprefixed w (around_point v d a b) r = rw (append_assoc v (46 ∷ d) r) (unprefixed v (46 ∷ d ++ r) (digits_of is_decimal_digit refl v a) refl)
fraction_unprefixed w (before_point v a) r = rw (append_assoc v (46 ∷ []) r) (unprefixed v (46 ∷ r) (digits_of is_decimal_digit refl v a) refl)

without_prefix : (text : List ℕ) → has_prefix text ≡ false → floating_constant text ≡ floating 10 text
unfolding floating_constant
without_prefix text e = rw e refl

with_prefix : (p text : List ℕ) → IsPrefix p → floating_constant (p ++ text) ≡ floating 16 text
unfolding floating_constant has_prefix begins_with
with_prefix p text prefix_x = refl
with_prefix p text prefix_X = refl

-- an exponent begins with its letter
exponent_no_digit : (is : ℕ → Bool) (small capital : ℕ) → is small ≡ false → is capital ≡ false → (e : List ℕ) → IsExponent small capital e → (t : List ℕ) → is (slice_index (e ++ t) 0) ≡ false
exponent_no_digit is small capital f g e (small_exponent s w a b) t = f
exponent_no_digit is small capital f g e (capital_exponent s w a b) t = g

exponent_no_point : (e : List ℕ) → IsExponent 101 69 e → (t : List ℕ) → slice_index (e ++ t) 0 == 46 ≡ false
exponent_no_point e (small_exponent s w a b) t = refl
exponent_no_point e (capital_exponent s w a b) t = refl

binary_no_point : (e : List ℕ) → IsExponent 112 80 e → (t : List ℕ) → slice_index (e ++ t) 0 == 46 ≡ false
binary_no_point e (small_exponent s w a b) t = refl
binary_no_point e (capital_exponent s w a b) t = refl

exponent_no_x : (e : List ℕ) → IsExponent 101 69 e → (t : List ℕ) → slice_index (e ++ t) 0 == 120 || slice_index (e ++ t) 0 == 88 ≡ false
exponent_no_x e (small_exponent s w a b) t = refl
exponent_no_x e (capital_exponent s w a b) t = refl

pub floating_read : (ty : Basic) (text : List ℕ) → IsFloatingConstant ty text → floating_constant text ≡ Some ty
floating_read ty text (fraction_alone w t u a k) =
    without_prefix (w ++ t) (fraction_unprefixed w a t)
    ∙ fraction_read 10 is_decimal_digit decimal_tests refl refl w a t (letter_no_digit (slice_index t 0) (suffix_letter u t k)) ∙ ending_suffix u t k
floating_read ty text (fraction_exponent w e t u a b k) =
    without_prefix (w ++ (e ++ t)) (fraction_unprefixed w a (e ++ t))
    ∙ fraction_read 10 is_decimal_digit decimal_tests refl refl w a (e ++ t) (exponent_no_digit is_decimal_digit 101 69 refl refl e b t) ∙ decimal_ending true e t u b k
floating_read ty text (digits_exponent w e t u a b k) =
    let d : Digits is_decimal_digit w = digits_of is_decimal_digit refl w a in
    without_prefix (w ++ (e ++ t)) (unprefixed w (e ++ t) d (exponent_no_x e b t))
    ∙ digits_read 10 is_decimal_digit decimal_tests refl refl w (e ++ t) d (exponent_no_digit is_decimal_digit 101 69 refl refl e b t) (exponent_no_point e b t) ∙ decimal_ending false e t u b k
floating_read ty text (hexadecimal_fraction p w e t u q a b k) =
    with_prefix p (w ++ (e ++ t)) q
    ∙ fraction_read 16 is_hexadecimal_digit hexadecimal_tests refl refl w a (e ++ t) (exponent_no_digit is_hexadecimal_digit 112 80 refl refl e b t) ∙ hexadecimal_ending true e t u b k
floating_read ty text (hexadecimal_digits p w e t u q a b k) =
    let d : Digits is_hexadecimal_digit w = digits_of is_hexadecimal_digit refl w a in
    with_prefix p (w ++ (e ++ t)) q
    ∙ digits_read 16 is_hexadecimal_digit hexadecimal_tests refl refl w (e ++ t) d (exponent_no_digit is_hexadecimal_digit 112 80 refl refl e b t) (binary_no_point e b t) ∙ hexadecimal_ending false e t u b k

-- the other way round: suffixes
long_past : (a b : ℕ) (t : List ℕ) (ty : Basic) → floating_suffix (a ∷ b ∷ t) ≡ Some ty → ⊥
unfolding floating_suffix
long_past a b t ty e =
    let none_no : length (a ∷ b ∷ t) == 0 ≡ false = grind (arith, common_steps) in
    let one_no : length (a ∷ b ∷ t) == 1 ≡ false = grind (arith, common_steps) in
    cc (rw (none_no, one_no) at e)

suffix_only : (ty : Basic) (t : List ℕ) → floating_suffix t ≡ Some ty → IsFloatingSuffix ty t
unfolding floating_suffix begins_with
suffix_only ty [] e = let same : basic.Double ≡ ty = cc e in subst (λ (u : Basic). IsFloatingSuffix u []) same no_floating
suffix_only ty (a ∷ []) e =
    let P : Option Basic → Type 0 = λ o. o ≡ Some ty → IsFloatingSuffix ty (a ∷ []) in
    if_cases P (a == 102 || a == 70) (Some basic.Float) (if a == 108 || a == 76 then Some basic.LongDouble else None)
    (λ f k. let same : basic.Float ≡ ty = cc k in subst (λ (u : Basic). IsFloatingSuffix u (a ∷ [])) same (single a f))
    (λ _. if_cases P (a == 108 || a == 76) (Some basic.LongDouble) None
    (λ f k. let same : basic.LongDouble ≡ ty = cc k in subst (λ (u : Basic). IsFloatingSuffix u (a ∷ [])) same (double a f)) (λ _ k. cc k)) e
  where
    single : (a : ℕ) → a == 102 || a == 70 ≡ true → IsFloatingSuffix basic.Float (a ∷ [])
    single a f = elim (either_part (a == 102) (a == 70) f) as (λ _. IsFloatingSuffix basic.Float (a ∷ [])) [
      | inl g ↦ rw (same_test a 102 g) floating_f
      | inr g ↦ rw (same_test a 70 g) floating_F
    ]

    double : (a : ℕ) → a == 108 || a == 76 ≡ true → IsFloatingSuffix basic.LongDouble (a ∷ [])
    double a f = elim (either_part (a == 108) (a == 76) f) as (λ _. IsFloatingSuffix basic.LongDouble (a ∷ [])) [
      | inl g ↦ rw (same_test a 108 g) floating_l
      | inr g ↦ rw (same_test a 76 g) floating_L
    ]
suffix_only ty (a ∷ b ∷ t) e = absurd (long_past a b t ty e)

-- exponents
record Signed (text : List ℕ) (ty : Basic) : Type 0 where
  s : List ℕ
  w : List ℕ
  t : List ℕ
  sign : IsSign s
  digits : AreDigits is_decimal_digit w
  suffix : IsFloatingSuffix ty t
  whole : (s ++ w) ++ t ≡ text

signed_at : (s text : List ℕ) (ty : Basic) → IsSign s → (if run 10 text == 0 then None else floating_suffix (behind 10 text)) ≡ Some ty → Signed (s ++ text) ty
signed_at s text ty a = if_cases (λ (o : Option Basic). o ≡ Some ty → Signed (s ++ text) ty) (run 10 text == 0) _ _ (λ _ k. cc k)
    (λ e k. record {
      s = s;
      w = take (run 10 text) text;
      t = drop (run 10 text) text;
      sign = a;
      digits = are_digits is_decimal_digit refl (take (run 10 text) text) (run_digits 10 is_decimal_digit decimal_tests refl text e);
      suffix = suffix_only ty (drop (run 10 text) text) k;
      whole = append_assoc s (take (run 10 text) text) (drop (run 10 text) text) ∙ ap (λ (v : List ℕ). s ++ v) (take-append-drop (run 10 text) text);
    })

sign_of : (c : ℕ) → c == 43 || c == 45 ≡ true → IsSign (c ∷ [])
sign_of c e = elim (either_part (c == 43) (c == 45) e) as (λ _. IsSign (c ∷ [])) [
  | inl f ↦ rw (same_test c 43 f) plus
  | inr f ↦ rw (same_test c 45 f) minus
]

exponent_only : (text : List ℕ) (ty : Basic) → exponent text ≡ Some ty → Signed text ty
unfolding exponent begins_with
exponent_only [] ty e = cc e
exponent_only (c ∷ text) ty e =
    if_cases (λ (v : List ℕ). (if run 10 v == 0 then None else floating_suffix (behind 10 v)) ≡ Some ty → Signed (c ∷ text) ty) (c == 43 || c == 45) text (c ∷ text)
    (λ f k. signed_at (c ∷ []) text ty (sign_of c f) k) (λ _ k. signed_at [] (c ∷ text) ty no_sign k) e

record Ended (small capital : ℕ) (text : List ℕ) (ty : Basic) : Type 0 where
  e : List ℕ
  t : List ℕ
  exponent : IsExponent small capital e
  suffix : IsFloatingSuffix ty t
  whole : e ++ t ≡ text

ended_by : (small capital c : ℕ) (text : List ℕ) (ty : Basic) → c == small || c == capital ≡ true → Signed text ty → Ended small capital (c ∷ text) ty
ended_by small capital c text ty f k = elim (either_part (c == small) (c == capital) f) as (λ _. Ended small capital (c ∷ text) ty) [
  | inl g ↦ record { e = small ∷ k.s ++ k.w; t = k.t; exponent = small_exponent k.s k.w k.sign k.digits; suffix = k.suffix; whole = (λ i. sym (same_test c small g) i ∷ k.whole i) }
  | inr g ↦ record { e = capital ∷ k.s ++ k.w; t = k.t; exponent = capital_exponent k.s k.w k.sign k.digits; suffix = k.suffix; whole = (λ i. sym (same_test c capital g) i ∷ k.whole i) }
]

binary_ended : (pointed : Bool) (text : List ℕ) (ty : Basic) → ending 16 pointed text ≡ Some ty → Ended 112 80 text ty
unfolding ending begins_with
binary_ended pointed [] ty e = no_end pointed e
  where
    no_end : (b : Bool) → (if b && false then floating_suffix [] else None) ≡ Some ty → Ended 112 80 [] ty
    no_end true e = cc e
    no_end false e = cc e
binary_ended pointed (c ∷ text) ty e =
    if_cases (λ (o : Option Basic). o ≡ Some ty → Ended 112 80 (c ∷ text) ty) (c == 112 || c == 80) (exponent text) (if pointed && false then floating_suffix (c ∷ text) else None)
    (λ f k. ended_by 112 80 c text ty f (exponent_only text ty k)) (λ _ k. no_end pointed k) e
  where
    no_end : (b : Bool) → (if b && false then floating_suffix (c ∷ text) else None) ≡ Some ty → Ended 112 80 (c ∷ text) ty
    no_end true e = cc e
    no_end false e = cc e

-- a decimal constant with a point may end in a suffix alone
abbrev Closed : Bool → List ℕ → Basic → Type 0
Closed pointed text ty = ((pointed ≡ true) × IsFloatingSuffix ty text) ⊎ Ended 101 69 text ty

decimal_ended : (pointed : Bool) (text : List ℕ) (ty : Basic) → ending 10 pointed text ≡ Some ty → Closed pointed text ty
unfolding ending begins_with
decimal_ended pointed [] ty e = bare pointed e
  where
    bare : (b : Bool) → (if b && true then floating_suffix [] else None) ≡ Some ty → Closed b [] ty
    bare true e = inl (refl, suffix_only ty [] e)
    bare false e = cc e
decimal_ended pointed (c ∷ text) ty e =
    if_cases (λ (o : Option Basic). o ≡ Some ty → Closed pointed (c ∷ text) ty) (c == 101 || c == 69) (exponent text) (if pointed && true then floating_suffix (c ∷ text) else None)
    (λ f k. inr (ended_by 101 69 c text ty f (exponent_only text ty k))) (λ _ k. bare pointed k) e
  where
    bare : (b : Bool) → (if b && true then floating_suffix (c ∷ text) else None) ≡ Some ty → Closed b (c ∷ text) ty
    bare true e = inl (refl, suffix_only ty (c ∷ text) e)
    bare false e = cc e

-- what stands in front of an ending
record Fractioned (base : ℕ) (is : ℕ → Bool) (text : List ℕ) (ty : Basic) : Type 0 where
  w : List ℕ
  r : List ℕ
  fractional : IsFractional is w
  ends : ending base true r ≡ Some ty
  whole : w ++ r ≡ text

record Plain (base : ℕ) (is : ℕ → Bool) (text : List ℕ) (ty : Basic) : Type 0 where
  w : List ℕ
  r : List ℕ
  digits : AreDigits is w
  ends : ending base false r ≡ Some ty
  whole : w ++ r ≡ text

module _ (base : ℕ) (is : ℕ → Bool) (same : Tests base is) (none : is 0 ≡ false) (ty : Basic) where
  digits_there : (text : List ℕ) → run base text == 0 ≡ false → AreDigits is (take (run base text) text)
  digits_there text e = are_digits is none (take (run base text) text) (run_digits base is same none text e)

  -- digits before the point, or none, and those behind it
  abbrev IsFront : List ℕ → Bool → Type 0
  IsFront v true = AreDigits is v
  IsFront v false = v ≡ []

  fractional_of : (v : List ℕ) (some : Bool) → IsFront v some → (d : List ℕ) → fraction base some d ≡ Some ty → Fractioned base is (v ++ 46 ∷ d) ty
  unfolding fraction
  fractional_of v some front d = if_cases (λ (o : Option Basic). o ≡ Some ty → Fractioned base is (v ++ 46 ∷ d) ty) (some || not (run base d == 0)) _ _ (λ e k. by some front (run base d == 0) refl e k) (λ _ k. cc k)
    where
      rest_is : take (run base d) d ++ drop (run base d) d ≡ d
      rest_is = take-append-drop (run base d) d

      joined : (x : List ℕ) → (v ++ 46 ∷ x) ++ drop (run base d) d ≡ v ++ 46 ∷ (x ++ drop (run base d) d)
      joined x = append_assoc v (46 ∷ x) (drop (run base d) d)

      by : (some : Bool) → IsFront v some → (b : Bool) → run base d == 0 ≡ b → some || not b ≡ true → ending base true (behind base d) ≡ Some ty → Fractioned base is (v ++ 46 ∷ d) ty
      by true front false e f k = record {
        w = v ++ 46 ∷ take (run base d) d;
        r = drop (run base d) d;
        fractional = around_point v (take (run base d) d) front (digits_there d e);
        ends = k;
        whole = joined (take (run base d) d) ∙ ap (λ (x : List ℕ). v ++ 46 ∷ x) rest_is;
      }
      by false front false e f k = record {
        w = 46 ∷ take (run base d) d;
        r = drop (run base d) d;
        fractional = behind_point (take (run base d) d) (digits_there d e);
        ends = k;
        whole = ap (λ (x : List ℕ). 46 ∷ x) rest_is ∙ ap (λ (x : List ℕ). x ++ 46 ∷ d) (sym front);
      }
      by true front true e f k = record {
        w = v ++ 46 ∷ [];
        r = drop (run base d) d;
        fractional = before_point v front;
        ends = k;
        whole = append_assoc v (46 ∷ []) (drop (run base d) d) ∙ ap (λ (n : ℕ). v ++ 46 ∷ drop n d) (same_test (run base d) 0 e);
      }
      by false front true e f k = cc f

  abbrev Shaped : List ℕ → Type 0
  Shaped text = Fractioned base is text ty ⊎ Plain base is text ty

  pointed_at : (v b : List ℕ) (some : Bool) → IsFront v some → slice_index b 0 == 46 ≡ true → fraction base some (drop 1 b) ≡ Some ty → Fractioned base is (v ++ b) ty
  pointed_at v [] some front e k = cc e
  pointed_at v (c ∷ d) some front e k = subst (λ (z : ℕ). Fractioned base is (v ++ z ∷ d) ty) (sym (same_test c 46 e)) (fractional_of v some front d k)

  front_is : (text : List ℕ) (b : Bool) → run base text == 0 ≡ b → IsFront (take (run base text) text) (not b)
  front_is text true e = ap (λ (n : ℕ). take n text) (same_test (run base text) 0 e)
  front_is text false e = digits_there text e

  floating_shaped : (text : List ℕ) → floating base text ≡ Some ty → Shaped text
  unfolding floating
  floating_shaped text =
      let P : Option Basic → Type 0 = λ o. o ≡ Some ty → Shaped text in
      let whole : take (run base text) text ++ drop (run base text) text ≡ text = take-append-drop (run base text) text in
      if_cases P (slice_index (behind base text) 0 == 46) _ _
      (λ e k. inl (subst (λ (v : List ℕ). Fractioned base is v ty) whole (pointed_at (take (run base text) text) (drop (run base text) text) (not (run base text == 0)) (front_is text (run base text == 0) refl) e k)))
      (λ _. if_cases P (run base text == 0) _ _ (λ _ k. cc k)
      (λ e k. inr (record { w = take (run base text) text; r = drop (run base text) text; digits = digits_there text e; ends = k; whole = whole })))

decimal_only : (text : List ℕ) (ty : Basic) → floating 10 text ≡ Some ty → IsFloatingConstant ty text
decimal_only text ty e = elim (floating_shaped 10 is_decimal_digit decimal_tests refl ty text e) as (λ _. IsFloatingConstant ty text) [
  | inl k ↦ elim (decimal_ended true k.r ty k.ends) as (λ _. IsFloatingConstant ty text) [
    | inl a ↦ subst (IsFloatingConstant ty) k.whole (fraction_alone k.w k.r ty k.fractional a.1)
    | inr a ↦ subst (IsFloatingConstant ty) (ap (λ (x : List ℕ). k.w ++ x) a.whole ∙ k.whole) (fraction_exponent k.w a.e a.t ty k.fractional a.exponent a.suffix)
  ]
  | inr k ↦ elim (decimal_ended false k.r ty k.ends) as (λ _. IsFloatingConstant ty text) [
    | inl a ↦ cc a.0
    | inr a ↦ subst (IsFloatingConstant ty) (ap (λ (x : List ℕ). k.w ++ x) a.whole ∙ k.whole) (digits_exponent k.w a.e a.t ty k.digits a.exponent a.suffix)
  ]
]

hexadecimal_only : (p text : List ℕ) (ty : Basic) → IsPrefix p → floating 16 text ≡ Some ty → IsFloatingConstant ty (p ++ text)
hexadecimal_only p text ty q e = elim (floating_shaped 16 is_hexadecimal_digit hexadecimal_tests refl ty text e) as (λ _. IsFloatingConstant ty (p ++ text)) [
  | inl k ↦
      let a = binary_ended true k.r ty k.ends in
      subst (λ (v : List ℕ). IsFloatingConstant ty (p ++ v)) (ap (λ (x : List ℕ). k.w ++ x) a.whole ∙ k.whole) (hexadecimal_fraction p k.w a.e a.t ty q k.fractional a.exponent a.suffix)
  | inr k ↦
      let a = binary_ended false k.r ty k.ends in
      subst (λ (v : List ℕ). IsFloatingConstant ty (p ++ v)) (ap (λ (x : List ℕ). k.w ++ x) a.whole ∙ k.whole) (hexadecimal_digits p k.w a.e a.t ty q k.digits a.exponent a.suffix)
]

prefixed_only : (text : List ℕ) (ty : Basic) → has_prefix text ≡ true → floating 16 (drop 2 text) ≡ Some ty → IsFloatingConstant ty text
unfolding has_prefix begins_with
prefixed_only [] ty e k = cc e
prefixed_only (a ∷ []) ty e k = cc (second_part (a == 48) false e)
prefixed_only (a ∷ b ∷ text) ty e k = hexadecimal_only (a ∷ b ∷ []) text ty (prefix_of a b (first_part (a == 48) (b == 120 || b == 88) e) (second_part (a == 48) (b == 120 || b == 88) e)) k
  where
    prefix_of : (a b : ℕ) → a == 48 ≡ true → b == 120 || b == 88 ≡ true → IsPrefix (a ∷ b ∷ [])
    prefix_of a b e f = elim (either_part (b == 120) (b == 88) f) as (λ _. IsPrefix (a ∷ b ∷ [])) [
      | inl g ↦ rw (same_test a 48 e, same_test b 120 g) prefix_x
      | inr g ↦ rw (same_test a 48 e, same_test b 88 g) prefix_X
    ]

pub floating_only : (text : List ℕ) (ty : Basic) → floating_constant text ≡ Some ty → IsFloatingConstant ty text
unfolding floating_constant
floating_only text ty = if_cases (λ (o : Option Basic). o ≡ Some ty → IsFloatingConstant ty text) (has_prefix text) _ _ (λ e k. prefixed_only text ty e k) (λ _ k. decimal_only text ty k)
