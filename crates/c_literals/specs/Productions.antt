-- The constants of numbers in the productions of ISO C11 Annex A.1.5 (6.4.4.1, 6.4.4.2): which spellings are an integer
-- constant or a floating constant. No code reads this; `laws` says that what the code reads is the same.
use Rattle.std.specs.Prelude.{◌≡◌, ℕ, Bool, true, false, ◌&&◌, ◌||◌, nat_le, List, [], ◌∷◌, ◌++◌, codes}
use Rattle.type_data.specs.declared.basics.Basic.{Basic}
use Rattle.type_data.specs.declared.basics.Basic.TheVariants as basic
use Rattle.c_literals.specs.declared.suffixes.Long.{Long}
use Rattle.c_literals.specs.declared.suffixes.Long.TheVariants as long
use Rattle.c_literals.specs.declared.suffixes.Suffix.{Suffix}

-- digit, nonzero-digit, octal-digit, hexadecimal-digit
abbrev pub is_decimal_digit : ℕ → Bool
is_decimal_digit c = nat_le 48 c && nat_le c 57

abbrev pub is_nonzero_digit : ℕ → Bool
is_nonzero_digit c = nat_le 49 c && nat_le c 57

abbrev pub is_octal_digit : ℕ → Bool
is_octal_digit c = nat_le 48 c && nat_le c 55

abbrev pub is_hexadecimal_digit : ℕ → Bool
is_hexadecimal_digit c = is_decimal_digit c || (nat_le 97 c && nat_le c 102) || (nat_le 65 c && nat_le c 70)

-- digit-sequence and hexadecimal-digit-sequence, by the test of a digit
pub data AreDigits (is_digit : ℕ → Bool) : List ℕ → Type 0 where
  first_digit : (d : ℕ) → is_digit d ≡ true → AreDigits is_digit (d ∷ [])
  next_digit : (w : List ℕ) (d : ℕ) → AreDigits is_digit w → is_digit d ≡ true → AreDigits is_digit (w ++ d ∷ [])

-- decimal-constant
pub data IsDecimal : List ℕ → Type 0 where
  first_nonzero : (d : ℕ) → is_nonzero_digit d ≡ true → IsDecimal (d ∷ [])
  next_decimal : (w : List ℕ) (d : ℕ) → IsDecimal w → is_decimal_digit d ≡ true → IsDecimal (w ++ d ∷ [])

-- octal-constant
pub data IsOctal : List ℕ → Type 0 where
  first_zero : IsOctal (codes "0")
  next_octal : (w : List ℕ) (d : ℕ) → IsOctal w → is_octal_digit d ≡ true → IsOctal (w ++ d ∷ [])

-- hexadecimal-prefix
pub data IsPrefix : List ℕ → Type 0 where
  prefix_x : IsPrefix (codes "0x")
  prefix_X : IsPrefix (codes "0X")

-- unsigned-suffix, long-suffix and long-long-suffix
pub data IsUnsigned : List ℕ → Type 0 where
  suffix_u : IsUnsigned (codes "u")
  suffix_U : IsUnsigned (codes "U")

pub data IsLong : Long → List ℕ → Type 0 where
  suffix_l : IsLong long.Long (codes "l")
  suffix_L : IsLong long.Long (codes "L")
  suffix_ll : IsLong long.LongLong (codes "ll")
  suffix_LL : IsLong long.LongLong (codes "LL")

-- integer-suffix, and none, with what it says
abbrev pub suffix : Bool → Long → Suffix
suffix unsigned size = record { unsigned = unsigned; long = size }

pub data IsSuffix : Suffix → List ℕ → Type 0 where
  no_suffix : IsSuffix (suffix false long.Short) []
  unsigned_alone : (u : List ℕ) → IsUnsigned u → IsSuffix (suffix true long.Short) u
  unsigned_first : (u l : List ℕ) (size : Long) → IsUnsigned u → IsLong size l → IsSuffix (suffix true size) (u ++ l)
  long_alone : (l : List ℕ) (size : Long) → IsLong size l → IsSuffix (suffix false size) l
  long_first : (l u : List ℕ) (size : Long) → IsLong size l → IsUnsigned u → IsSuffix (suffix true size) (l ++ u)

-- integer-constant: its base, the digits that write its value, and what its suffix says
pub data IsIntegerConstant : ℕ → List ℕ → Suffix → List ℕ → Type 0 where
  decimal : (w t : List ℕ) (s : Suffix) → IsDecimal w → IsSuffix s t → IsIntegerConstant 10 w s (w ++ t)
  octal : (w t : List ℕ) (s : Suffix) → IsOctal w → IsSuffix s t → IsIntegerConstant 8 w s (w ++ t)
  hexadecimal : (p w t : List ℕ) (s : Suffix) → IsPrefix p → AreDigits is_hexadecimal_digit w → IsSuffix s t → IsIntegerConstant 16 w s (p ++ (w ++ t))

-- floating-suffix, and none, with the type that it asks for (6.4.4.2p4)
pub data IsFloatingSuffix : Basic → List ℕ → Type 0 where
  no_floating : IsFloatingSuffix basic.Double []
  floating_f : IsFloatingSuffix basic.Float (codes "f")
  floating_F : IsFloatingSuffix basic.Float (codes "F")
  floating_l : IsFloatingSuffix basic.LongDouble (codes "l")
  floating_L : IsFloatingSuffix basic.LongDouble (codes "L")

-- sign, and none
pub data IsSign : List ℕ → Type 0 where
  no_sign : IsSign []
  plus : IsSign (codes "+")
  minus : IsSign (codes "-")

-- exponent-part and binary-exponent-part, by their letter
pub data IsExponent (small capital : ℕ) : List ℕ → Type 0 where
  small_exponent : (s w : List ℕ) → IsSign s → AreDigits is_decimal_digit w → IsExponent small capital (small ∷ s ++ w)
  capital_exponent : (s w : List ℕ) → IsSign s → AreDigits is_decimal_digit w → IsExponent small capital (capital ∷ s ++ w)

-- fractional-constant and hexadecimal-fractional-constant, by the test of a digit
pub data IsFractional (is_digit : ℕ → Bool) : List ℕ → Type 0 where
  behind_point : (w : List ℕ) → AreDigits is_digit w → IsFractional is_digit (codes "." ++ w)
  around_point : (v w : List ℕ) → AreDigits is_digit v → AreDigits is_digit w → IsFractional is_digit (v ++ (codes "." ++ w))
  before_point : (v : List ℕ) → AreDigits is_digit v → IsFractional is_digit (v ++ codes ".")

-- floating-constant, with its type: decimal-floating-constant and hexadecimal-floating-constant
pub data IsFloatingConstant : Basic → List ℕ → Type 0 where
  fraction_alone : (w t : List ℕ) (ty : Basic) → IsFractional is_decimal_digit w → IsFloatingSuffix ty t → IsFloatingConstant ty (w ++ t)
  fraction_exponent : (w e t : List ℕ) (ty : Basic) → IsFractional is_decimal_digit w → IsExponent 101 69 e → IsFloatingSuffix ty t
      → IsFloatingConstant ty (w ++ (e ++ t))
  digits_exponent : (w e t : List ℕ) (ty : Basic) → AreDigits is_decimal_digit w → IsExponent 101 69 e → IsFloatingSuffix ty t
      → IsFloatingConstant ty (w ++ (e ++ t))
  hexadecimal_fraction : (p w e t : List ℕ) (ty : Basic) → IsPrefix p → IsFractional is_hexadecimal_digit w → IsExponent 112 80 e → IsFloatingSuffix ty t
      → IsFloatingConstant ty (p ++ (w ++ (e ++ t)))
  hexadecimal_digits : (p w e t : List ℕ) (ty : Basic) → IsPrefix p → AreDigits is_hexadecimal_digit w → IsExponent 112 80 e → IsFloatingSuffix ty t
      → IsFloatingConstant ty (p ++ (w ++ (e ++ t)))
