-- Which numbers are values of an integer type (ISO C11 5.2.4.2.1, 6.2.5), and where a result stands in it (6.5p5).
use Rattle.std.specs.Prelude.{Bool, ◌&&◌, ◌-◌, ◌^◌, ℤ, pos, neg_ℤ, if◌then◌else◌, int_lt, int_le}
use Rattle.std.specs.Int.{int_rem_euclid}
use Rattle.type_data.specs.declared.integers.IntTy.{IntTy}
pub use Rattle.type_data.specs.Ranges.{width, is_signed}
use Rattle.type_data.specs.declared.values.Value.{Value}
use Rattle.type_data.specs.declared.values.Value.TheVariants.{Known, Faulty}

-- the least value of the type, and the number behind its greatest one
unfoldable pub least : IntTy → ℤ
least ty = if is_signed ty then neg_ℤ (pos (2 ^ (width ty - 1))) else pos 0

unfoldable pub limit : IntTy → ℤ
limit ty = if is_signed ty then pos (2 ^ (width ty - 1)) else pos (2 ^ width ty)

-- the number is a value of the type
unfoldable pub fits : IntTy → ℤ → Bool
fits ty z = int_le (least ty) z && int_lt z (limit ty)

-- 6.2.5p9: the number modulo 2^width
unfoldable pub residue : IntTy → ℤ → ℤ
residue ty z = int_rem_euclid z (pos (2 ^ width ty))

-- 6.5p5: the number where it is a value of the type, else broken rule 531
abbrev pub tested : IntTy → ℤ → Value
tested ty z = if fits ty z then Known z else Faulty 531

-- an operator's exact result in its type: tested where that is signed, modulo 2^width (6.2.5p9) where it is unsigned
unfoldable pub into : IntTy → ℤ → Value
into ty z = if is_signed ty then tested ty z else Known (residue ty z)
