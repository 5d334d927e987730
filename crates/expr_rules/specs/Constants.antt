-- What kind of constant an expression is, by its operands (ISO C11 6.6). Operands are converted ones.
use Rattle.std.specs.Prelude.{ℤ, Bool, true, false, ◌&&◌, pos, Option, Some, None, if◌then◌else◌}
use Rattle.std.specs.Ordering.{int_eq}
use Rattle.type_data.specs.declared.integers.IntTy.{IntTy}
use Rattle.type_data.specs.declared.integers.IntTy.TheVariants as int
use Rattle.type_data.specs.declared.judged.Constancy.{Constancy}
use Rattle.type_data.specs.declared.judged.Constancy.TheVariants.{No, Int, Arith, Addr, Null}
use Rattle.type_data.specs.declared.values.Value.{Value}
use Rattle.type_data.specs.declared.values.Value.TheVariants.{Known, Unknown, Faulty}
use Rattle.type_data.specs.Types.{Ty}
use Rattle.type_rel.specs.Constancies.{is_address, is_arith, is_told}
use Rattle.type_rel.specs.Kinds.{integer_type}
use Rattle.c_literals.specs.Conversions.{converted as converted_value}
use Rattle.c_literals.specs.Operators.{value_of}
use Rattle.c_literals.specs.declared.ops.Op.{Op}

-- the value of an operator at operands of a type, and a value brought to a type
unfoldable pub result_of : Op → IntTy → Value → Value → Value
result_of op ty v w = value_of op ty v w

unfoldable pub brought : IntTy → Value → Value
brought ty v = converted_value ty v

-- p6: an operand of an integer constant expression: its value
abbrev pub int_value : Constancy → Option Value
int_value (Int v) = Some v
int_value No = None
int_value Arith = None
int_value Addr = None
int_value Null = None

abbrev pub arith_if : Bool → Constancy
arith_if b = if b then Arith else No

-- a unary operator at its promoted type
abbrev pub unary_at : Op → Option IntTy → Option Value → Constancy → Constancy
unary_at op (Some ty) (Some v) c = Int (result_of op ty (brought ty v) Unknown)
unary_at op (Some ty) None c = arith_if (is_arith c)
unary_at op None v c = arith_if (is_arith c)

unfoldable pub unary : Op → Ty → Constancy → Constancy
unary op t c = unary_at op (integer_type t) (int_value c) c

-- a binary operator, whose operands are brought to one type
abbrev pub binary_at : Op → Option IntTy → Option Value → Option Value → Constancy → Constancy → Constancy
binary_at op (Some ty) (Some v) (Some w) c d = Int (result_of op ty (brought ty v) (brought ty w))
binary_at op ty v w c d = arith_if (is_arith c && is_arith d)

unfoldable pub binary : Op → Ty → Constancy → Constancy → Constancy
binary op t c d = binary_at op (integer_type t) (int_value c) (int_value d) c d

-- `<<` and `>>`, at the promoted type of the left operand, to which the right one isn't brought
abbrev pub shift_at : Op → Option IntTy → Option Value → Option Value → Constancy → Constancy → Constancy
shift_at op (Some ty) (Some v) (Some w) c d = Int (result_of op ty (brought ty v) w)
shift_at op ty v w c d = arith_if (is_arith c && is_arith d)

unfoldable pub shift : Op → Ty → Constancy → Constancy → Constancy
shift op t c d = shift_at op (integer_type t) (int_value c) (int_value d) c d

-- `&&` and `||`, of which the operand that isn't evaluated may be out of range
abbrev pub logical_at : Op → Option Value → Option Value → Constancy → Constancy → Constancy
logical_at op (Some v) (Some w) c d = Int (result_of op int.Int v w)
logical_at op v w c d = arith_if (is_arith c && is_arith d)

unfoldable pub logical : Op → Constancy → Constancy → Constancy
logical op c d = logical_at op (int_value c) (int_value d) c d

-- `?:`: the value of the operand that is evaluated, brought to the type of the whole
abbrev pub chosen : IntTy → Value → Value → Value → Value
chosen ty (Known n) v w = if int_eq n (pos 0) then brought ty w else brought ty v
chosen ty Unknown v w = Unknown
chosen ty (Faulty rule) v w = Faulty rule

-- a number's constancy, also one that is out of range
abbrev pub is_number : Constancy → Bool
is_number (Int v) = true
is_number Arith = true
is_number No = false
is_number Addr = false
is_number Null = false

-- of the second and third operands, the one that is evaluated where the first has a value, and the other
abbrev pub evaluated : ℤ → Constancy → Constancy → Constancy
evaluated n d e = if int_eq n (pos 0) then e else d

abbrev pub left_out : ℤ → Constancy → Constancy → Constancy
left_out n d e = if int_eq n (pos 0) then d else e

-- where no value is told: the operand that isn't evaluated may be out of range
abbrev pub arith_choice : Option Value → Constancy → Constancy → Constancy → Constancy
arith_choice (Some (Known n)) c d e = arith_if (is_arith (evaluated n d e) && is_number (left_out n d e))
arith_choice b c d e = arith_if (is_arith c && is_arith d && is_arith e)

abbrev pub choice_at : Option IntTy → Option Value → Option Value → Option Value → Constancy → Constancy → Constancy → Constancy
choice_at (Some ty) (Some b) (Some v) (Some w) c d e = Int (chosen ty b v w)
choice_at ty b v w c d e = arith_choice b c d e

unfoldable pub choice : Ty → Constancy → Constancy → Constancy → Constancy
choice t c d e = choice_at (integer_type t) (int_value c) (int_value d) (int_value e) c d e

abbrev pub is_counted : Option Value → Bool
is_counted None = false
is_counted (Some v) = is_told v

-- A floating constant has that of an integer constant expression where it stands alone, and is arithmetic elsewhere.
abbrev pub settled_at : Option IntTy → Constancy → Constancy
settled_at None (Int v) = Arith
settled_at ty c = c

unfoldable pub settled : Ty → Constancy → Constancy
settled t c = settled_at (integer_type t) c

-- an address constant plus or minus an integer constant expression
unfoldable pub moved : Constancy → Constancy → Constancy
moved c d = if is_address c && is_counted (int_value d) then Addr else No

-- an address that is constant stays one where nothing is read
abbrev pub address_if : Constancy → Constancy
address_if c = if is_address c then Addr else No
