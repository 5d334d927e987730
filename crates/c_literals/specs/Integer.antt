-- Integer constants (ISO C11 6.4.4.1). Rule 311 is one that no type has.
use Rattle.std.specs.Prelude.{ℕ, Bool, true, false, ◌&&◌, ◌-◌, ◌^◌, ◌==◌, nat_lt, List, [], ◌∷◌, Option, Some, None, option_map, length, drop, take, slice_index, pos, if◌then◌else◌}
use Rattle.std.specs.List.{find}
use Rattle.std.specs.Str.Parse.{digits_value}
use Rattle.type_data.specs.Ranges.{width, is_signed}
use Rattle.type_data.specs.declared.integers.IntTy.{IntTy}
use Rattle.type_data.specs.declared.integers.IntTy.TheVariants as int
use Rattle.c_literals.specs.declared.literal.Literal.{Literal}
use Rattle.c_literals.specs.declared.literal.Literal.TheVariants as literal
use Rattle.c_literals.specs.declared.suffixes.Long.{Long}
use Rattle.c_literals.specs.declared.suffixes.Long.TheVariants as long
use Rattle.c_literals.specs.declared.suffixes.Suffix.{Suffix}
use Rattle.c_literals.specs.Digits.{run, begins_with, small}

-- a long-suffix or a long-long-suffix, or nothing: the two letters of the latter have one case
unfoldable pub long_suffix : List ℕ → Option Long
long_suffix text =
    if length text == 0 then Some long.Short
    else if length text == 1 && begins_with 108 76 text then Some long.Long
    else if length text == 2 && (begins_with 108 76 text && slice_index text 0 == slice_index text 1) then Some long.LongLong
    else None

abbrev pub with_sign : Bool → Option Long → Option Suffix
with_sign unsigned size = option_map (λ l. record { unsigned = unsigned; long = l }) size

-- an integer-suffix, or nothing: its unsigned-suffix stands first or last
unfoldable pub suffix_of : List ℕ → Option Suffix
suffix_of text =
    if begins_with 117 85 text then with_sign true (long_suffix (drop 1 text))
    else if begins_with 117 85 (drop (length text - 1) text) then with_sign true (long_suffix (take (length text - 1) text))
    else with_sign false (long_suffix text)

-- the table of 6.4.4.1p5: for each suffix the types of a decimal constant, and of an octal or hexadecimal one
unfoldable pub candidates : Bool → Bool → Long → List IntTy
candidates decimal false long.Short =
    if decimal then int.Int ∷ int.Long ∷ int.LongLong ∷ []
    else int.Int ∷ int.UInt ∷ int.Long ∷ int.ULong ∷ int.LongLong ∷ int.ULongLong ∷ []
candidates decimal true long.Short = int.UInt ∷ int.ULong ∷ int.ULongLong ∷ []
candidates decimal false long.Long =
    if decimal then int.Long ∷ int.LongLong ∷ []
    else int.Long ∷ int.ULong ∷ int.LongLong ∷ int.ULongLong ∷ []
candidates decimal true long.Long = int.ULong ∷ int.ULongLong ∷ []
candidates decimal false long.LongLong =
    if decimal then int.LongLong ∷ []
    else int.LongLong ∷ int.ULongLong ∷ []
candidates decimal true long.LongLong = int.ULongLong ∷ []

-- the type has the value
unfoldable pub holds : ℕ → IntTy → Bool
holds n ty = if is_signed ty then nat_lt n (2 ^ (width ty - 1)) else nat_lt n (2 ^ width ty)

abbrev pub first_type : Bool → Suffix → ℕ → Option IntTy
first_type decimal s n = find (holds n) (candidates decimal s.unsigned s.long)

-- the constant with the first type of its list that has its value
abbrev pub typed : ℕ → Option IntTy → Literal
typed n (Some ty) = literal.Int ty (pos n)
typed n None = literal.Bad 311

-- no type has a value of more than 64 bits
abbrev pub of_number : Bool → Suffix → Option ℕ → Literal
of_number decimal s (Some n) = typed n (first_type decimal s n)
of_number decimal s None = literal.Bad 311

abbrev pub with_suffix : ℕ → List ℕ → Option Suffix → Option Literal
with_suffix base digits (Some s) = Some (of_number (base == 10) s (small (digits_value base digits)))
with_suffix base digits None = None

-- digits of the base, one at least, and a suffix: none if the text is no such constant
unfoldable pub constant : ℕ → List ℕ → Option Literal
constant base text =
    if run base text == 0 then None
    else with_suffix base (take (run base text) text) (suffix_of (drop (run base text) text))

-- a hexadecimal-prefix
unfoldable pub has_prefix : List ℕ → Bool
has_prefix text = slice_index text 0 == 48 && begins_with 120 88 (drop 1 text)

-- an octal constant begins with 0, and `0` is one
unfoldable pub integer_constant : List ℕ → Option Literal
integer_constant text =
    if has_prefix text then constant 16 (drop 2 text)
    else if slice_index text 0 == 48 then constant 8 text
    else constant 10 text
