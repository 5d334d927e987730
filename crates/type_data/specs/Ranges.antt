-- The ranges of the integer types (ISO C11 5.2.4.2.1, 6.2.5p6, 6.2.6.2) of this implementation: two's complement, `char`
-- is signed, `int` has 32 bits, `long` and `long long` have 64.
use Rattle.std.specs.Prelude.{ℕ, Bool, true, false}
use Rattle.type_data.specs.declared.integers.IntTy.{IntTy}
use Rattle.type_data.specs.declared.integers.IntTy.TheVariants as int

-- the bits of a value, that of the sign among them
abbrev pub width : IntTy → ℕ
width int.Bool = 1
width int.Char = 8
width int.SChar = 8
width int.UChar = 8
width int.Short = 16
width int.UShort = 16
width int.Int = 32
width int.UInt = 32
width int.Long = 64
width int.ULong = 64
width int.LongLong = 64
width int.ULongLong = 64

abbrev pub is_signed : IntTy → Bool
is_signed int.Bool = false
is_signed int.Char = true
is_signed int.SChar = true
is_signed int.UChar = false
is_signed int.Short = true
is_signed int.UShort = false
is_signed int.Int = true
is_signed int.UInt = false
is_signed int.Long = true
is_signed int.ULong = false
is_signed int.LongLong = true
is_signed int.ULongLong = false
