-- Promotions and the usual arithmetic conversions (ISO C11 6.3.1.1, 6.3.1.8).
use Rattle.std.specs.Prelude.{ℕ, Bool, true, nat_lt, nat_le, Option, Some, None, if◌then◌else◌}
use Rattle.type_data.specs.Ranges.{width, is_signed}
use Rattle.type_data.specs.declared.basics.Basic.{Basic}
use Rattle.type_data.specs.declared.basics.Basic.TheVariants as basic
use Rattle.type_data.specs.declared.integers.IntTy.{IntTy}
use Rattle.type_data.specs.declared.integers.IntTy.TheVariants as int
use Rattle.type_data.specs.Types.{Ty, Basic_type, Enumerated_type, Bad_type}

abbrev pub integer_of : Basic → Option IntTy
integer_of basic.Bool = Some int.Bool
integer_of basic.Char = Some int.Char
integer_of basic.SChar = Some int.SChar
integer_of basic.UChar = Some int.UChar
integer_of basic.Short = Some int.Short
integer_of basic.UShort = Some int.UShort
integer_of basic.Int = Some int.Int
integer_of basic.UInt = Some int.UInt
integer_of basic.Long = Some int.Long
integer_of basic.ULong = Some int.ULong
integer_of basic.LongLong = Some int.LongLong
integer_of basic.ULongLong = Some int.ULongLong
integer_of basic.Float = None
integer_of basic.Double = None
integer_of basic.LongDouble = None

abbrev pub basic_of : IntTy → Basic
basic_of int.Bool = basic.Bool
basic_of int.Char = basic.Char
basic_of int.SChar = basic.SChar
basic_of int.UChar = basic.UChar
basic_of int.Short = basic.Short
basic_of int.UShort = basic.UShort
basic_of int.Int = basic.Int
basic_of int.UInt = basic.UInt
basic_of int.Long = basic.Long
basic_of int.ULong = basic.ULong
basic_of int.LongLong = basic.LongLong
basic_of int.ULongLong = basic.ULongLong

-- 6.3.1.1p1: integer conversion ranks
abbrev pub rank : IntTy → ℕ
rank int.Bool = 0
rank int.Char = 1
rank int.SChar = 1
rank int.UChar = 1
rank int.Short = 2
rank int.UShort = 2
rank int.Int = 3
rank int.UInt = 3
rank int.Long = 4
rank int.ULong = 4
rank int.LongLong = 5
rank int.ULongLong = 5

-- the bits of the values: those of the type, or of a bit-field
abbrev pub bits : IntTy → Option ℕ → ℕ
bits ty (Some n) = n
bits ty None = width ty

-- an int can represent all values of the type, as restricted by the width
unfoldable pub fits_int : IntTy → Option ℕ → Bool
fits_int ty n = if is_signed ty then true else nat_lt (bits ty n) 32

-- 6.3.1.1p2: a type whose rank is greater than that of int stays as it is
unfoldable pub promoted_integer : IntTy → Option ℕ → IntTy
promoted_integer ty n = if nat_lt 3 (rank ty) then ty else if fits_int ty n then int.Int else int.UInt

abbrev pub promoted_as : Basic → Option IntTy → Option ℕ → Basic
promoted_as b (Some ty) n = basic_of (promoted_integer ty n)
promoted_as b None n = b

abbrev pub promoted_basic : Basic → Option ℕ → Basic
promoted_basic b n = promoted_as b (integer_of b) n

-- an enumerated type is compatible with int, and int can represent its values; what isn't arithmetic has no promotion
abbrev pub promoted : Ty → Option ℕ → Ty
promoted (Basic_type b) n = Basic_type (promoted_basic b n)
promoted (Enumerated_type id) n = Basic_type basic.Int
promoted t n = Bad_type

abbrev pub unsigned_of : IntTy → IntTy
unsigned_of int.Long = int.ULong
unsigned_of int.LongLong = int.ULongLong
unsigned_of ty = int.UInt

-- 6.3.1.8p1, a signed type and an unsigned one: the unsigned one where its rank isn't less; else the signed one where it can
-- represent all values of the other; else the unsigned type that corresponds to it
unfoldable pub mixed : IntTy → IntTy → IntTy
mixed signed unsigned =
    if nat_le (rank signed) (rank unsigned) then unsigned
    else if nat_lt (width unsigned) (width signed) then signed
    else unsigned_of signed

unfoldable pub greater : IntTy → IntTy → IntTy
greater a b = if nat_lt (rank a) (rank b) then b else a

-- both signed or both unsigned: the one with the greater rank
unfoldable pub usual_integer : IntTy → IntTy → IntTy
usual_integer a b =
    if is_signed a then (if is_signed b then greater a b else mixed a b)
    else (if is_signed b then mixed b a else greater a b)

-- the rank of a floating type among them (6.2.5p10), and 0 for an integer type
abbrev pub precision : Basic → ℕ
precision basic.LongDouble = 3
precision basic.Double = 2
precision basic.Float = 1
precision b = 0

abbrev pub usual_as : Basic → Option IntTy → Option IntTy → Basic
usual_as a (Some s) (Some t) = basic_of (usual_integer s t)
usual_as a s t = a

-- 6.3.1.8p1: the floating type, or the more precise one of two; else by the rules for integers
unfoldable pub usual_basic : Basic → Basic → Basic
usual_basic a b =
    if nat_lt (precision a) (precision b) then b
    else if nat_lt (precision b) (precision a) then a
    else usual_as a (integer_of a) (integer_of b)

-- what isn't arithmetic has none
abbrev pub usual : Ty → Ty → Ty
usual (Basic_type a) (Basic_type b) = Basic_type (usual_basic a b)
usual a b = Bad_type
