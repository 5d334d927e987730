-- What operators make of values (ISO C11 6.5.3.3, 6.5.5 to 6.5.14, 6.6): the exact result over the integers, and then its
-- place in the type. Rule 531 is a constant out of range.
use Rattle.std.specs.Prelude.{ℕ, Bool, true, not, ◌&&◌, ◌^◌, ℤ, pos, negsuc, neg_ℤ, ◌+ℤ◌, ◌-ℤ◌, ◌*ℤ◌, if◌then◌else◌, unsigned_abs, int_lt, int_le, int_div, int_rem, bit_and, bit_or, bit_xor}
use Rattle.std.specs.Int.{int_div_euclid}
use Rattle.std.specs.Ordering.{int_eq}
use Rattle.type_data.specs.declared.integers.IntTy.{IntTy}
use Rattle.type_data.specs.declared.values.Value.{Value}
use Rattle.type_data.specs.declared.values.Value.TheVariants.{Known, Unknown, Faulty}
use Rattle.c_literals.specs.Ranges.{width, is_signed, residue, into}
use Rattle.c_literals.specs.Conversions.{wrapped, truth}
use Rattle.c_literals.specs.declared.ops.Op.{Op}
use Rattle.c_literals.specs.declared.ops.Op.TheVariants as op

-- the bits of the number in the type (6.2.6.2)
abbrev pub bits_in : IntTy → ℤ → ℕ
bits_in ty z = unsigned_abs (residue ty z)

-- the value of the type with these bits
abbrev pub of_bits : IntTy → ℕ → Value
of_bits ty bits = Known (wrapped ty (pos bits))

-- 6.5.10 to 6.5.12
abbrev pub both_bits : IntTy → ℤ → ℤ → Value
both_bits ty x y = of_bits ty (bit_and (bits_in ty x) (bits_in ty y))

abbrev pub either_bits : IntTy → ℤ → ℤ → Value
either_bits ty x y = of_bits ty (bit_or (bits_in ty x) (bits_in ty y))

abbrev pub other_bits : IntTy → ℤ → ℤ → Value
other_bits ty x y = of_bits ty (bit_xor (bits_in ty x) (bits_in ty y))

-- 6.5.3.3p5: 1 where it is 0, else 0
abbrev pub negation : ℤ → Value
negation x = if int_eq x (pos 0) then Known (pos 1) else Known (pos 0)

-- 6.5.3.3: the unary operators. `~` takes each bit for the other one, which in two's complement is -1 - x
abbrev pub applied_unary : Op → IntTy → ℤ → Value
applied_unary op.Minus ty x = into ty (neg_ℤ x)
applied_unary op.BitNot ty x = into ty (negsuc 0 -ℤ x)
applied_unary op.LogNot ty x = negation x
applied_unary _ ty x = into ty x

abbrev pub one_if : Bool → Value
one_if holds = if holds then Known (pos 1) else Known (pos 0)

-- 6.5.7p4: E1 × 2^E2. Of a negative value of a signed type there is none
unfoldable pub shifted_left : IntTy → ℤ → ℤ → Value
shifted_left ty x y =
    if is_signed ty && int_lt x (pos 0) then Faulty 531 else into ty (x *ℤ pos (2 ^ unsigned_abs y))

-- 6.5.5 to 6.5.12, where the right operand may stand there: `/` and `%` round toward zero, `>>` rounds down
abbrev pub applied : Op → IntTy → ℤ → ℤ → Value
applied op.Mul ty x y = into ty (x *ℤ y)
applied op.Div ty x y = into ty (int_div x y)
applied op.Rem ty x y = into ty (int_rem x y)
applied op.Add ty x y = into ty (x +ℤ y)
applied op.Sub ty x y = into ty (x -ℤ y)
applied op.Shl ty x y = shifted_left ty x y
applied op.Shr ty x y = into ty (int_div_euclid x (pos (2 ^ unsigned_abs y)))
applied op.Lt ty x y = one_if (int_lt x y)
applied op.Gt ty x y = one_if (int_lt y x)
applied op.Le ty x y = one_if (int_le x y)
applied op.Ge ty x y = one_if (int_le y x)
applied op.Eq ty x y = one_if (int_eq x y)
applied op.Ne ty x y = one_if (not (int_eq x y))
applied op.BitAnd ty x y = both_bits ty x y
applied op.BitXor ty x y = other_bits ty x y
applied op.BitOr ty x y = either_bits ty x y
applied _ ty x y = Unknown

-- 6.5.7p3
abbrev pub is_count : IntTy → ℤ → Bool
is_count ty y = int_le (pos 0) y && int_lt y (pos (width ty))

-- 6.5.5p5, 6.5.7p3: the divisor isn't zero; the count is from 0 to the width less 1
abbrev pub may_stand : Op → IntTy → ℤ → Bool
may_stand op.Div ty y = not (int_eq y (pos 0))
may_stand op.Rem ty y = not (int_eq y (pos 0))
may_stand op.Shl ty y = is_count ty y
may_stand op.Shr ty y = is_count ty y
may_stand _ ty y = true

-- a unary operator's value
abbrev pub unary_value : Op → IntTy → Value → Value
unary_value op ty (Known x) = applied_unary op ty x
unary_value op ty Unknown = Unknown
unary_value op ty (Faulty rule) = Faulty rule

-- a binary operator's value: the left operand's fault comes first, then the right one's; a right operand that is known
-- and may not stand there is a fault beside an Unknown too
abbrev pub right_value : Op → IntTy → Value → ℤ → Value
right_value op ty (Known x) y = if may_stand op ty y then applied op ty x y else Faulty 531
right_value op ty Unknown y = if may_stand op ty y then Unknown else Faulty 531
right_value op ty (Faulty rule) y = Faulty rule

abbrev pub beside_unknown : Value → Value
beside_unknown (Known x) = Unknown
beside_unknown Unknown = Unknown
beside_unknown (Faulty rule) = Faulty rule

abbrev pub beside_fault : Value → ℕ → Value
beside_fault (Known x) rule = Faulty rule
beside_fault Unknown rule = Faulty rule
beside_fault (Faulty first) rule = Faulty first

abbrev pub binary_value : Op → IntTy → Value → Value → Value
binary_value op ty a (Known y) = right_value op ty a y
binary_value op ty a Unknown = beside_unknown a
binary_value op ty a (Faulty rule) = beside_fault a rule

-- 6.5.13, 6.5.14: the value as 0 or 1
abbrev pub truth_value : Value → Value
truth_value (Known x) = Known (truth x)
truth_value Unknown = Unknown
truth_value (Faulty rule) = Faulty rule

-- `&&` and `||`, whose left operand decides where it is 0 for `&&`, and where it isn't for `||`: the right operand isn't
-- evaluated then
abbrev pub and_value : Value → Value → Value
and_value (Known x) b = if int_eq x (pos 0) then Known (pos 0) else truth_value b
and_value Unknown b = Unknown
and_value (Faulty rule) b = Faulty rule

abbrev pub or_value : Value → Value → Value
or_value (Known x) b = if int_eq x (pos 0) then truth_value b else Known (pos 1)
or_value Unknown b = Unknown
or_value (Faulty rule) b = Faulty rule

-- the value of an operator at operands of this type, the right one of a shift aside; for a unary one `b` isn't read
abbrev pub value_of : Op → IntTy → Value → Value → Value
value_of op.Plus ty a b = unary_value op.Plus ty a
value_of op.Minus ty a b = unary_value op.Minus ty a
value_of op.BitNot ty a b = unary_value op.BitNot ty a
value_of op.LogNot ty a b = unary_value op.LogNot ty a
value_of op.LogAnd ty a b = and_value a b
value_of op.LogOr ty a b = or_value a b
value_of op ty a b = binary_value op ty a b
