-- Widths of bit-fields (ISO C11 6.7.2.1p4, p5, p12).
use Rattle.std.specs.Prelude.{ℕ, ℤ, pos, negsuc, Bool, ◌&&◌, not, ◌==◌, nat_le, nat_lt, Option, Some, None, if◌then◌else◌}
use Rattle.type_data.specs.Ranges.{width}
use Rattle.type_data.specs.declared.integers.IntTy.{IntTy}
use Rattle.type_data.specs.declared.values.Value.{Value}
use Rattle.type_data.specs.declared.values.Value.TheVariants.{Known, Unknown, Faulty}

-- the bits of an object of the type, which has a byte at least
abbrev pub object_bits : IntTy → ℕ
object_bits i = if nat_lt (width i) 8 then 8 else width i

-- p4: at most the bits of a value; p12: one of width 0 has no name
abbrev pub is_width : IntTy → Bool → ℕ → Bool
is_width i named n = nat_le n (width i) && not (named && n == 0)

abbrev pub of_number : IntTy → Bool → ℤ → Option ℕ
of_number i named (pos n) = if is_width i named n then Some n else None
of_number i named (negsuc n) = None

-- one that isn't told is that of an object
abbrev pub of_value : IntTy → Bool → Value → Option ℕ
of_value i named (Known z) = of_number i named z
of_value i named Unknown = Some (object_bits i)
of_value i named (Faulty rule) = Some (object_bits i)

-- p5: the type is an integer type; none where the width is refused
abbrev pub bit_width : Option IntTy → Bool → Value → Option ℕ
bit_width None named v = None
bit_width (Some i) named v = of_value i named v
