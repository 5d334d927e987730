-- Conversions between integer types (ISO C11 6.3.1.2, 6.3.1.3).
use Rattle.std.specs.Prelude.{◌^◌, ℤ, pos, ◌-ℤ◌, if◌then◌else◌, int_lt}
use Rattle.std.specs.Ordering.{int_eq}
use Rattle.type_data.specs.declared.integers.IntTy.{IntTy}
use Rattle.type_data.specs.declared.integers.IntTy.TheVariants as ty
use Rattle.type_data.specs.declared.values.Value.{Value}
use Rattle.type_data.specs.declared.values.Value.TheVariants.{Known, Unknown, Faulty}
use Rattle.c_literals.specs.Ranges.{width, limit, residue}

-- the value of the type that equals the number modulo 2^width
unfoldable pub wrapped : IntTy → ℤ → ℤ
wrapped ty z = if int_lt (residue ty z) (limit ty) then residue ty z else residue ty z -ℤ pos (2 ^ width ty)

-- 6.3.1.2: 0 where it is 0, else 1
unfoldable pub truth : ℤ → ℤ
truth z = if int_eq z (pos 0) then pos 0 else pos 1

abbrev pub converted_number : IntTy → ℤ → ℤ
converted_number ty.Bool z = truth z
converted_number to z = wrapped to z

abbrev pub converted : IntTy → Value → Value
converted to (Known z) = Known (converted_number to z)
converted to Unknown = Unknown
converted to (Faulty rule) = Faulty rule
