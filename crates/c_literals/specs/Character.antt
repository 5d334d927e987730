-- Character constants (ISO C11 6.4.4.4). Rule 102 is a text that is no closed constant, 314 an escape that is none or past
-- the range of its unit, 313 a number of units that has no value.
use Rattle.std.specs.Prelude.{ℕ, ◌==◌, ◌+◌, ◌*◌, nat_lt, List, [], ◌∷◌, Option, Some, None, length, drop, slice_index, ℤ, pos, if◌then◌else◌}
use Rattle.std.specs.Str.{chars}
use Rattle.type_data.specs.declared.integers.IntTy.{IntTy}
use Rattle.type_data.specs.declared.integers.IntTy.TheVariants as int
use Rattle.c_literals.specs.declared.literal.Literal.{Literal}
use Rattle.c_literals.specs.declared.literal.Literal.TheVariants as literal
use Rattle.c_literals.specs.declared.prefix.Prefix.{Prefix}
use Rattle.c_literals.specs.declared.prefix.Prefix.TheVariants as prefix
use Rattle.c_literals.specs.CChars.{CChar, c_chars, closed}
use Rattle.c_literals.specs.Conversions.{wrapped}
use Rattle.c_literals.specs.Units.{units}

-- p10, p11: the constant's type, or that of an element of a string literal (6.4.5p6) with `u8`; wchar_t is int, char16_t unsigned short, char32_t unsigned int
abbrev pub type_of : Prefix → IntTy
type_of prefix.Narrow = int.Int
type_of prefix.Utf8 = int.Char
type_of prefix.Char16 = int.UShort
type_of prefix.Char32 = int.UInt
type_of prefix.Wide = int.Int

-- the type whose value one unit is: without a prefix that of a char, which is signed
abbrev pub unit_type : Prefix → IntTy
unit_type prefix.Narrow = int.SChar
unit_type p = type_of p

-- units as digits of base 256, the first one highest
abbrev pub base_256_after : ℕ → List ℕ → ℕ
base_256_after n [] = n
base_256_after n (u ∷ us) = base_256_after (n * 256 + u) us

abbrev pub base_256 : List ℕ → ℕ
base_256 us = base_256_after 0 us

abbrev pub of_number : Prefix → ℤ → Literal
of_number prefix.Narrow z = literal.Int int.Int (wrapped int.Int z)
of_number prefix.Utf8 z = literal.Bad 313
of_number prefix.Char16 z = literal.Bad 313
of_number prefix.Char32 z = literal.Bad 313
of_number prefix.Wide z = literal.Bad 313

-- more units than one: without a prefix up to four are an int
unfoldable pub several : Prefix → List ℕ → Literal
several p us = if nat_lt (length us) 5 then of_number p (pos (base_256 us)) else literal.Bad 313

-- the constant of these units
abbrev pub valued : Prefix → List ℕ → Literal
valued p [] = literal.Bad 313
valued p (u ∷ []) = literal.Int (type_of p) (wrapped (unit_type p) (pos u))
valued p (u ∷ v ∷ more) = several p (u ∷ v ∷ more)

abbrev pub of_units : Prefix → Option (List ℕ) → Literal
of_units p (Some us) = valued p us
of_units p None = literal.Bad 314

abbrev pub of_c_chars : Prefix → Option (List CChar) → Literal
of_c_chars p (Some es) = of_units p (units p es)
of_c_chars p None = literal.Bad 102

-- the constant whose opening quote stands at the front
unfoldable pub quoted : Prefix → List ℕ → Literal
quoted p cs = if slice_index cs 0 == 39 then of_c_chars p (closed 39 (c_chars (drop 1 cs))) else literal.Bad 102

-- an encoding prefix is `L`, `u` or `U`, or none
unfoldable pub of_characters : List ℕ → Literal
of_characters cs =
    if slice_index cs 0 == 76 then quoted prefix.Wide (drop 1 cs)
    else if slice_index cs 0 == 117 then quoted prefix.Char16 (drop 1 cs)
    else if slice_index cs 0 == 85 then quoted prefix.Char32 (drop 1 cs)
    else quoted prefix.Narrow cs

-- the constant that a text is, given by its bytes
abbrev pub character : List ℕ → Literal
character spelling = of_characters (chars spelling)
