-- What is read as an integer constant is one by its productions, and the other way round.
use Rattle.std.proofs.Common.{◌≡◌, ℕ, ◌-◌, ◌⊎◌, inl, inr, Bool, true, false, ◌&&◌, ◌||◌, List, [], ◌∷◌, ◌++◌, length, take, drop, refl, ap, sym, ◌∙◌, subst, arith, Option, Some, None, slice_index, ◌==◌, if◌then◌else◌}
use Rattle.std.proofs.lemmas.Grind.{common_steps}
use Rattle.std.proofs.lemmas.List.{take_at, drop_at, take-append-drop, length-drop}
use Rattle.std.specs.List.{list_all}
use Rattle.std.specs.Str.Parse.{digits_value}
use Rattle.c_literals.specs.declared.literal.Literal.{Literal}
use Rattle.c_literals.specs.declared.suffixes.Long.{Long}
use Rattle.c_literals.specs.declared.suffixes.Long.TheVariants as long
use Rattle.c_literals.specs.declared.suffixes.Suffix.{Suffix}
use Rattle.c_literals.specs.Digits.{run, begins_with, small}
use Rattle.c_literals.specs.Integer.{long_suffix, with_sign, suffix_of, of_number, with_suffix, constant, has_prefix, integer_constant}
use Rattle.c_literals.specs.Productions.{is_decimal_digit, is_octal_digit, is_hexadecimal_digit, is_nonzero_digit, IsPrefix, prefix_x, prefix_X, IsUnsigned, suffix_u, suffix_U, IsLong, suffix_l, suffix_L, suffix_ll, suffix_LL, suffix, IsSuffix, no_suffix, unsigned_alone, unsigned_first, long_alone, long_first, IsIntegerConstant, decimal, octal, hexadecimal}
use Rattle.c_literals.proofs.DigitRuns.{first_part, second_part, either_part, same_test, Tests, decimal_tests, octal_tests, hexadecimal_tests, Digits, digits_of, are_digits, Decimal, decimal_of, is_decimal, Octal, octal_of, is_octal, run_is, run_digits, some_digits}

pub if_cases : {A : Type 0} (P : A → Type 0) (b : Bool) (x y : A) → (b ≡ true → P x) → (b ≡ false → P y) → P (if b then x else y)
if_cases P true x y holds fails = holds refl
if_cases P false x y holds fails = fails refl

-- suffixes
abbrev Reads : Suffix → List ℕ → Type 0
Reads s t = suffix_of t ≡ Some s

alone_read : (u : List ℕ) → IsUnsigned u → Reads (suffix true long.Short) u
unfolding suffix_of long_suffix begins_with
alone_read u suffix_u = refl
alone_read u suffix_U = refl

first_read : (u l : List ℕ) (size : Long) → IsUnsigned u → IsLong size l → Reads (suffix true size) (u ++ l)
unfolding suffix_of long_suffix begins_with
first_read u l size suffix_u suffix_l = refl
first_read u l size suffix_u suffix_L = refl
first_read u l size suffix_u suffix_ll = refl
first_read u l size suffix_u suffix_LL = refl
first_read u l size suffix_U suffix_l = refl
first_read u l size suffix_U suffix_L = refl
first_read u l size suffix_U suffix_ll = refl
first_read u l size suffix_U suffix_LL = refl

long_read : (l : List ℕ) (size : Long) → IsLong size l → Reads (suffix false size) l
unfolding suffix_of long_suffix begins_with
long_read l size suffix_l = refl
long_read l size suffix_L = refl
long_read l size suffix_ll = refl
long_read l size suffix_LL = refl

last_read : (l u : List ℕ) (size : Long) → IsLong size l → IsUnsigned u → Reads (suffix true size) (l ++ u)
unfolding suffix_of long_suffix begins_with
last_read l u size suffix_l suffix_u = refl
last_read l u size suffix_L suffix_u = refl
last_read l u size suffix_ll suffix_u = refl
last_read l u size suffix_LL suffix_u = refl
last_read l u size suffix_l suffix_U = refl
last_read l u size suffix_L suffix_U = refl
last_read l u size suffix_ll suffix_U = refl
last_read l u size suffix_LL suffix_U = refl

suffix_read : (s : Suffix) (t : List ℕ) → IsSuffix s t → Reads s t
unfolding suffix_of long_suffix begins_with
suffix_read s t no_suffix = refl
suffix_read s t (unsigned_alone u a) = alone_read u a
suffix_read s t (unsigned_first u l size a b) = first_read u l size a b
suffix_read s t (long_alone l size a) = long_read l size a
suffix_read s t (long_first l u size a b) = last_read l u size a b

-- the first letter of a suffix, or 0
abbrev IsLetter : ℕ → Type 0
IsLetter c = (c == 117 || c == 85) || (c == 108 || c == 76) || c == 0 ≡ true

unsigned_letter : (u rest : List ℕ) → IsUnsigned u → IsLetter (slice_index (u ++ rest) 0)
unsigned_letter u rest suffix_u = refl
unsigned_letter u rest suffix_U = refl

unsigned_alone_letter : (u : List ℕ) → IsUnsigned u → IsLetter (slice_index u 0)
unsigned_alone_letter u suffix_u = refl
unsigned_alone_letter u suffix_U = refl

long_letter : (l rest : List ℕ) (size : Long) → IsLong size l → IsLetter (slice_index (l ++ rest) 0)
long_letter l rest size suffix_l = refl
long_letter l rest size suffix_L = refl
long_letter l rest size suffix_ll = refl
long_letter l rest size suffix_LL = refl

long_alone_letter : (l : List ℕ) (size : Long) → IsLong size l → IsLetter (slice_index l 0)
long_alone_letter l size suffix_l = refl
long_alone_letter l size suffix_L = refl
long_alone_letter l size suffix_ll = refl
long_alone_letter l size suffix_LL = refl

suffix_letter : (s : Suffix) (t : List ℕ) → IsSuffix s t → IsLetter (slice_index t 0)
suffix_letter s t no_suffix = refl
suffix_letter s t (unsigned_alone u a) = unsigned_alone_letter u a
suffix_letter s t (unsigned_first u l size a b) = unsigned_letter u l a
suffix_letter s t (long_alone l size a) = long_alone_letter l size a
suffix_letter s t (long_first l u size a b) = long_letter l u size a

letter_no_decimal : (c : ℕ) → IsLetter c → is_decimal_digit c ≡ false
letter_no_decimal c e = grind (arith, common_steps, e)

letter_no_octal : (c : ℕ) → IsLetter c → is_octal_digit c ≡ false
letter_no_octal c e = grind (arith, common_steps, e)

letter_no_hexadecimal : (c : ℕ) → IsLetter c → is_hexadecimal_digit c ≡ false
letter_no_hexadecimal c e = grind (arith, common_steps, e)

letter_no_x : (c : ℕ) → IsLetter c → c == 120 || c == 88 ≡ false
letter_no_x c e = grind (arith, common_steps, e)

-- digits and a suffix
abbrev pub value_of : ℕ → List ℕ → Suffix → Literal
value_of base w s = of_number (base == 10) s (small (digits_value base w))

constant_read : (base : ℕ) (is : ℕ → Bool) → Tests base is → is 0 ≡ false → (w t : List ℕ) (s : Suffix) → Digits is w → is (slice_index t 0) ≡ false → suffix_of t ≡ Some s
    → constant base (w ++ t) ≡ Some (value_of base w s)
unfolding constant
constant_read base is same none w t s k stop e =
    let n : run base (w ++ t) ≡ length w = run_is base is same w t k.1 stop in
    rw (n, some_digits is none w k, take_at w t (length w) refl, drop_at w t (length w) refl, e) refl

-- no prefix where the text begins with another digit than 0, or what stands behind that is no x
unprefixed : (c : ℕ) (text : List ℕ) → c == 48 ≡ false → has_prefix (c ∷ text) ≡ false
unfolding has_prefix
unprefixed c text e = rw e refl

zero_unprefixed : (text : List ℕ) → slice_index text 0 == 120 || slice_index text 0 == 88 ≡ false → has_prefix (48 ∷ text) ≡ false
unfolding has_prefix begins_with
zero_unprefixed text e = e

octal_no_x : (c : ℕ) → is_octal_digit c ≡ true → c == 120 || c == 88 ≡ false
octal_no_x c e = grind (arith, common_steps, e)

nonzero_no_zero : (c : ℕ) → is_nonzero_digit c ≡ true → c == 48 ≡ false
nonzero_no_zero c e = grind (arith, common_steps, e)

decimal_read : (w t : List ℕ) (s : Suffix) → Decimal w → IsSuffix s t → integer_constant (w ++ t) ≡ Some (value_of 10 w s)
unfolding integer_constant
decimal_read [] t s k a = cc k.0
decimal_read (c ∷ w) t s k a =
    let no_zero : c == 48 ≡ false = nonzero_no_zero c k.0 in
    rw (unprefixed c (w ++ t) no_zero, no_zero) (constant_read 10 is_decimal_digit decimal_tests refl (c ∷ w) t s k.1 (letter_no_decimal (slice_index t 0) (suffix_letter s t a)) (suffix_read s t a))

zero_constant : (text : List ℕ) (x : Literal) → has_prefix (48 ∷ text) ≡ false → constant 8 (48 ∷ text) ≡ Some x → integer_constant (48 ∷ text) ≡ Some x
unfolding integer_constant
zero_constant text x e f = rw e f

octal_unprefixed : (w t : List ℕ) → list_all is_octal_digit w ≡ true → slice_index t 0 == 120 || slice_index t 0 == 88 ≡ false → has_prefix (48 ∷ w ++ t) ≡ false
octal_unprefixed [] t e f = zero_unprefixed t f
octal_unprefixed (d ∷ w) t e f = zero_unprefixed (d ∷ w ++ t) (octal_no_x d (first_part (is_octal_digit d) (list_all is_octal_digit w) e))

octal_read : (w t : List ℕ) (s : Suffix) → Octal w → IsSuffix s t → integer_constant (w ++ t) ≡ Some (value_of 8 w s)
octal_read [] t s k a = cc k.0
octal_read (c ∷ w) t s k a = zero_read c k.0 (constant_read 8 is_octal_digit octal_tests refl (c ∷ w) t s k.1 (letter_no_octal (slice_index t 0) (suffix_letter s t a)) (suffix_read s t a))
  where
    at_zero : constant 8 (48 ∷ w ++ t) ≡ Some (value_of 8 (48 ∷ w) s) → integer_constant (48 ∷ w ++ t) ≡ Some (value_of 8 (48 ∷ w) s)
    at_zero e = zero_constant (w ++ t) (value_of 8 (48 ∷ w) s) (octal_unprefixed w t (second_part (is_octal_digit c) (list_all is_octal_digit w) k.1.1) (letter_no_x (slice_index t 0) (suffix_letter s t a))) e

    zero_read : (c : ℕ) → c ≡ 48 → constant 8 (c ∷ w ++ t) ≡ Some (value_of 8 (c ∷ w) s) → integer_constant (c ∷ w ++ t) ≡ Some (value_of 8 (c ∷ w) s)
    zero_read c e f = subst (λ (z : ℕ). integer_constant (z ∷ w ++ t) ≡ Some (value_of 8 (z ∷ w) s)) (sym e) (at_zero (subst (λ (z : ℕ). constant 8 (z ∷ w ++ t) ≡ Some (value_of 8 (z ∷ w) s)) e f))

hexadecimal_read : (p w t : List ℕ) (s : Suffix) → IsPrefix p → Digits is_hexadecimal_digit w → IsSuffix s t → integer_constant (p ++ (w ++ t)) ≡ Some (value_of 16 w s)
unfolding integer_constant has_prefix begins_with
hexadecimal_read p w t s prefix_x k a = constant_read 16 is_hexadecimal_digit hexadecimal_tests refl w t s k (letter_no_hexadecimal (slice_index t 0) (suffix_letter s t a)) (suffix_read s t a)
hexadecimal_read p w t s prefix_X k a = constant_read 16 is_hexadecimal_digit hexadecimal_tests refl w t s k (letter_no_hexadecimal (slice_index t 0) (suffix_letter s t a)) (suffix_read s t a)

pub integer_read : (base : ℕ) (w : List ℕ) (s : Suffix) (text : List ℕ) → IsIntegerConstant base w s text → integer_constant text ≡ Some (value_of base w s)
integer_read base w s text (decimal v t r a b) = decimal_read v t r (decimal_of v a) b
integer_read base w s text (octal v t r a b) = octal_read v t r (octal_of v a) b
integer_read base w s text (hexadecimal p v t r q a b) = hexadecimal_read p v t r q (digits_of is_hexadecimal_digit refl v a) b

-- what is read as a suffix is one
long_past : (a b c : ℕ) (t : List ℕ) (size : Long) → long_suffix (a ∷ b ∷ c ∷ t) ≡ Some size → ⊥
unfolding long_suffix begins_with
long_past a b c t size e =
    let zero_no : length (a ∷ b ∷ c ∷ t) == 0 ≡ false = grind (arith, common_steps) in
    let one_no : length (a ∷ b ∷ c ∷ t) == 1 ≡ false = grind (arith, common_steps) in
    let two_no : length (a ∷ b ∷ c ∷ t) == 2 ≡ false = grind (arith, common_steps) in
    cc (rw (zero_no, one_no, two_no) at e)

long_only : (t : List ℕ) (size : Long) → long_suffix t ≡ Some size → ((size ≡ long.Short) × (t ≡ [])) ⊎ IsLong size t
unfolding long_suffix begins_with
long_only [] size e = inl (cc e, refl)
long_only (a ∷ []) size e = if_cases (λ (o : Option Long). o ≡ Some size → ((size ≡ long.Short) × (a ∷ [] ≡ [])) ⊎ IsLong size (a ∷ [])) (a == 108 || a == 76) (Some long.Long) None
    (λ f k. inr (letter a f size (cc k))) (λ _ k. cc k) e
  where
    letter : (a : ℕ) → a == 108 || a == 76 ≡ true → (size : Long) → long.Long ≡ size → IsLong size (a ∷ [])
    letter a f size k = elim (either_part (a == 108) (a == 76) f) as (λ _. IsLong size (a ∷ [])) [
      | inl g ↦ rw (same_test a 108 g) (subst (λ (z : Long). IsLong z (108 ∷ [])) k suffix_l)
      | inr g ↦ rw (same_test a 76 g) (subst (λ (z : Long). IsLong z (76 ∷ [])) k suffix_L)
    ]
long_only (a ∷ b ∷ []) size e = if_cases (λ (o : Option Long). o ≡ Some size → ((size ≡ long.Short) × (a ∷ b ∷ [] ≡ [])) ⊎ IsLong size (a ∷ b ∷ [])) ((a == 108 || a == 76) && a == b) (Some long.LongLong) None
    (λ f k. inr (letters a b (first_part (a == 108 || a == 76) (a == b) f) (same_test a b (second_part (a == 108 || a == 76) (a == b) f)) size (cc k))) (λ _ k. cc k) e
  where
    letters : (a b : ℕ) → a == 108 || a == 76 ≡ true → a ≡ b → (size : Long) → long.LongLong ≡ size → IsLong size (a ∷ b ∷ [])
    letters a b f same size k = subst (λ (z : ℕ). IsLong size (a ∷ z ∷ [])) same (elim (either_part (a == 108) (a == 76) f) as (λ _. IsLong size (a ∷ a ∷ [])) [
      | inl g ↦ rw (same_test a 108 g) (subst (λ (z : Long). IsLong z (108 ∷ 108 ∷ [])) k suffix_ll)
      | inr g ↦ rw (same_test a 76 g) (subst (λ (z : Long). IsLong z (76 ∷ 76 ∷ [])) k suffix_LL)
    ])
long_only (a ∷ b ∷ c ∷ t) size e = absurd (long_past a b c t size e)

unsigned_of : (a : ℕ) → a == 117 || a == 85 ≡ true → IsUnsigned (a ∷ [])
unsigned_of a e = elim (either_part (a == 117) (a == 85) e) as (λ _. IsUnsigned (a ∷ [])) [
  | inl f ↦ rw (same_test a 117 f) suffix_u
  | inr f ↦ rw (same_test a 85 f) suffix_U
]

signed_by : (b : Bool) (o : Option Long) (s : Suffix) → with_sign b o ≡ Some s → (size : Long) × (o ≡ Some size) × (suffix b size ≡ s)
signed_by b None s e = absurd (cc e)
signed_by b (Some size) s e = (size, refl, cc e)

front_unsigned : (t : List ℕ) (s : Suffix) → begins_with 117 85 t ≡ true → with_sign true (long_suffix (drop 1 t)) ≡ Some s → IsSuffix s t
unfolding begins_with
front_unsigned [] s e f = cc e
front_unsigned (a ∷ t) s e f =
    let k = signed_by true (long_suffix t) s f in
    subst (λ (z : Suffix). IsSuffix z (a ∷ t)) k.2 (elim (long_only t k.0 k.1) as (λ _. IsSuffix (suffix true k.0) (a ∷ t)) [
      | inl n ↦ rw (n.0, n.1) (unsigned_alone (a ∷ []) (unsigned_of a e))
      | inr l ↦ unsigned_first (a ∷ []) t k.0 (unsigned_of a e) l
    ])

-- a letter that is the last one
last_one : (t back : List ℕ) → drop (length t - 1) t ≡ back → begins_with 117 85 back ≡ true → IsUnsigned back
unfolding begins_with
last_one t [] e f = cc f
last_one t (a ∷ []) e f = unsigned_of a f
last_one t (a ∷ b ∷ r) e f = absurd (let n = sym (length-drop (length t - 1) t) ∙ ap length e in omega (arith, n))

unsigned_begins : (u : List ℕ) → IsUnsigned u → begins_with 117 85 u ≡ true
unfolding begins_with
unsigned_begins u suffix_u = refl
unsigned_begins u suffix_U = refl

back_unsigned : (t : List ℕ) (s : Suffix) → begins_with 117 85 t ≡ false → begins_with 117 85 (drop (length t - 1) t) ≡ true
    → with_sign true (long_suffix (take (length t - 1) t)) ≡ Some s → IsSuffix s t
back_unsigned t s other e f =
    let k = signed_by true (long_suffix (take (length t - 1) t)) s f in
    let u : IsUnsigned (drop (length t - 1) t) = last_one t (drop (length t - 1) t) refl e in
    let whole : take (length t - 1) t ++ drop (length t - 1) t ≡ t = take-append-drop (length t - 1) t in
    subst (λ (z : Suffix). IsSuffix z t) k.2 (elim (long_only (take (length t - 1) t) k.0 k.1) as (λ _. IsSuffix (suffix true k.0) t) [
      | inl n ↦
          let alone : drop (length t - 1) t ≡ t = ap (λ (w : List ℕ). w ++ drop (length t - 1) t) (sym n.1) ∙ whole in
          absurd (cc (other, ap (begins_with 117 85) (sym alone) ∙ e))
      | inr l ↦ subst (IsSuffix (suffix true k.0)) whole (long_first (take (length t - 1) t) (drop (length t - 1) t) k.0 l u)
    ])

bare : (t : List ℕ) (s : Suffix) → with_sign false (long_suffix t) ≡ Some s → IsSuffix s t
bare t s f =
    let k = signed_by false (long_suffix t) s f in
    subst (λ (z : Suffix). IsSuffix z t) k.2 (elim (long_only t k.0 k.1) as (λ _. IsSuffix (suffix false k.0) t) [
      | inl n ↦ rw (n.0, n.1) no_suffix
      | inr l ↦ long_alone t k.0 l
    ])

suffix_only : (t : List ℕ) (s : Suffix) → suffix_of t ≡ Some s → IsSuffix s t
unfolding suffix_of
suffix_only t s =
    let P : Option Suffix → Type 0 = λ o. o ≡ Some s → IsSuffix s t in
    if_cases P (begins_with 117 85 t) _ _ (λ e f. front_unsigned t s e f)
    (λ other. if_cases P (begins_with 117 85 (drop (length t - 1) t)) _ _ (λ e f. back_unsigned t s other e f) (λ _ f. bare t s f))

-- what is read as a constant is one
record Parts (base : ℕ) (is : ℕ → Bool) (text : List ℕ) (x : Literal) : Type 0 where
  w : List ℕ
  t : List ℕ
  s : Suffix
  digits : Digits is w
  behind : IsSuffix s t
  whole : w ++ t ≡ text
  value : x ≡ value_of base w s

with_only : (base : ℕ) (w : List ℕ) (o : Option Suffix) (x : Literal) → with_suffix base w o ≡ Some x → (s : Suffix) × (o ≡ Some s) × (x ≡ value_of base w s)
with_only base w None x e = absurd (cc e)
with_only base w (Some s) x e = (s, refl, cc e)

constant_only : (base : ℕ) (is : ℕ → Bool) → Tests base is → is 0 ≡ false → (text : List ℕ) (x : Literal) → constant base text ≡ Some x → Parts base is text x
unfolding constant
constant_only base is same none text x = if_cases (λ (o : Option Literal). o ≡ Some x → Parts base is text x) (run base text == 0) _ _ (λ _ f. cc f)
    (λ e f.
    let k = with_only base (take (run base text) text) (suffix_of (drop (run base text) text)) x f in
    record {
      w = take (run base text) text;
      t = drop (run base text) text;
      s = k.0;
      digits = run_digits base is same none text e;
      behind = suffix_only (drop (run base text) text) k.0 k.1;
      whole = take-append-drop (run base text) text;
      value = k.2;
    })

pub record IsRead (text : List ℕ) (x : Literal) : Type 0 where
  pub base : ℕ
  pub digits : List ℕ
  pub suffix : Suffix
  pub is : IsIntegerConstant base digits suffix text
  pub value : x ≡ value_of base digits suffix

hexadecimal_only : (text : List ℕ) (x : Literal) → has_prefix text ≡ true → constant 16 (drop 2 text) ≡ Some x → IsRead text x
unfolding has_prefix begins_with
hexadecimal_only [] x e f = cc e
hexadecimal_only (a ∷ []) x e f = cc (second_part (a == 48) false e)
hexadecimal_only (a ∷ b ∷ text) x e f =
    let k = constant_only 16 is_hexadecimal_digit hexadecimal_tests refl text x f in
    record {
      base = 16;
      digits = k.w;
      suffix = k.s;
      is = subst (λ (v : List ℕ). IsIntegerConstant 16 k.w k.s (a ∷ b ∷ v)) k.whole
          (hexadecimal (a ∷ b ∷ []) k.w k.t k.s (prefixed a b (first_part (a == 48) (b == 120 || b == 88) e) (second_part (a == 48) (b == 120 || b == 88) e)) (are_digits is_hexadecimal_digit refl k.w k.digits) k.behind);
      value = k.value;
    }
  where
    prefixed : (a b : ℕ) → a == 48 ≡ true → b == 120 || b == 88 ≡ true → IsPrefix (a ∷ b ∷ [])
    prefixed a b e f = elim (either_part (b == 120) (b == 88) f) as (λ _. IsPrefix (a ∷ b ∷ [])) [
      | inl g ↦ rw (same_test a 48 e, same_test b 120 g) prefix_x
      | inr g ↦ rw (same_test a 48 e, same_test b 88 g) prefix_X
    ]

-- the first digit is the text's first character
first_same : (is : ℕ → Bool) → is 0 ≡ false → (w t text : List ℕ) → Digits is w → w ++ t ≡ text → slice_index text 0 ≡ slice_index w 0
first_same is none [] t text k e = cc (k.0, none)
first_same is none (c ∷ w) t text k e = ap (λ (v : List ℕ). slice_index v 0) (sym e)

octal_only : (text : List ℕ) (x : Literal) → slice_index text 0 == 48 ≡ true → constant 8 text ≡ Some x → IsRead text x
octal_only text x e f =
    let k = constant_only 8 is_octal_digit octal_tests refl text x f in
    let zero_first : slice_index k.w 0 ≡ 48 = sym (first_same is_octal_digit refl k.w k.t text k.digits k.whole) ∙ same_test (slice_index text 0) 48 e in
    record {
      base = 8;
      digits = k.w;
      suffix = k.s;
      is = subst (IsIntegerConstant 8 k.w k.s) k.whole (octal k.w k.t k.s (is_octal k.w (zero_first, k.digits)) k.behind);
      value = k.value;
    }

other_nonzero : (c : ℕ) → c == 48 ≡ false → is_decimal_digit c ≡ true → is_nonzero_digit c ≡ true
other_nonzero c e f = grind (arith, common_steps, e, f)

decimal_only : (text : List ℕ) (x : Literal) → slice_index text 0 == 48 ≡ false → constant 10 text ≡ Some x → IsRead text x
decimal_only text x e f =
    let k = constant_only 10 is_decimal_digit decimal_tests refl text x f in
    let other : slice_index k.w 0 == 48 ≡ false = ap (λ (c : ℕ). c == 48) (sym (first_same is_decimal_digit refl k.w k.t text k.digits k.whole)) ∙ e in
    record {
      base = 10;
      digits = k.w;
      suffix = k.s;
      is = subst (IsIntegerConstant 10 k.w k.s) k.whole (decimal k.w k.t k.s (is_decimal k.w (other_nonzero (slice_index k.w 0) other k.digits.0, k.digits)) k.behind);
      value = k.value;
    }

pub integer_only : (text : List ℕ) (x : Literal) → integer_constant text ≡ Some x → IsRead text x
unfolding integer_constant
integer_only text x =
    let P : Option Literal → Type 0 = λ o. o ≡ Some x → IsRead text x in
    if_cases P (has_prefix text) _ _ (λ e f. hexadecimal_only text x e f)
    (λ _. if_cases P (slice_index text 0 == 48) _ _ (λ e f. octal_only text x e f) (λ e f. decimal_only text x e f))
