-- Casts (ISO C11 6.5.4).
use Rattle.std.specs.Prelude.{ℕ, Bool, not, ◌&&◌, ◌||◌, [], ◌∷◌, Option, Some, None, Ok, if◌then◌else◌}
use Rattle.type_data.specs.declared.judged.Constancy.{Constancy}
use Rattle.type_data.specs.declared.judged.Constancy.TheVariants.{No, Int, Arith, Addr, Null}
use Rattle.type_data.specs.declared.judged.Judged.{Judged}
use Rattle.type_data.specs.declared.qualifiers.Qual.{Qual}
use Rattle.type_data.specs.Types.{Ty, Void_type, Pointer_to}
use Rattle.type_data.specs.declared.integers.IntTy.{IntTy}
use Rattle.type_data.specs.Same.{same_qual}
use Rattle.type_rel.specs.Assignable.{is_arithmetic, is_zero}
use Rattle.type_rel.specs.Constancies.{is_arith, is_told}
use Rattle.type_rel.specs.Kinds.{integer_type, unqualified}
use Rattle.type_rel.specs.Conversion.{after_reading, converted, value}
use Rattle.expr_rules.specs.Constants.{address_if, arith_if, brought}
use Rattle.expr_rules.specs.Kinds.{is_floating, is_pointer, is_scalar, is_void}
use Rattle.expr_rules.specs.Operands.{Answer, broken}

-- p2: to void, or from scalar to scalar
abbrev pub is_castable : Ty → Ty → Bool
is_castable t u = is_scalar t && is_scalar u

-- p4: no pointer to a floating type or from one
abbrev pub is_barred : Ty → Ty → Bool
is_barred t u = (is_pointer t && is_floating u) || (is_floating t && is_pointer u)

-- 6.6p6: an integer constant expression stays one, and so does a floating constant that stands alone
abbrev pub to_integer : IntTy → Constancy → Constancy
to_integer ty (Int v) = Int (brought ty v)
to_integer ty Arith = Arith
to_integer ty No = No
to_integer ty Addr = No
to_integer ty Null = No

-- 6.3.2.3p3: an integer constant expression with the value 0, cast to `void *`
abbrev pub is_void_pointer : Ty → Qual → Bool
is_void_pointer t q = is_void t && same_qual q unqualified

abbrev pub to_pointer : Ty → Qual → Constancy → Constancy
to_pointer t q (Int v) = if is_zero v && is_void_pointer t q then Null else if is_told v then Addr else No
to_pointer t q c = address_if c

abbrev pub cast_constancy : Ty → Option IntTy → Constancy → Constancy
cast_constancy (Pointer_to t q) n c = to_pointer t q c
cast_constancy t (Some ty) c = to_integer ty c
cast_constancy t None c = arith_if (is_arith c)

-- what is cast, with the constancy of a floating constant that stands alone; `v` is the operand after its conversion
abbrev pub cast_operand : Judged → Judged → Constancy
cast_operand e v = if is_arithmetic e.ty then after_reading e.place e.constant else v.constant

abbrev pub cast_to : ℕ → Ty → Judged → Judged → Answer
cast_to at t e v =
    if not (is_castable t v.ty) then broken at 517 [] (t ∷ v.ty ∷ [])
    else if is_barred t v.ty then broken at 518 [] (t ∷ v.ty ∷ [])
    else Ok (value t (cast_constancy t (integer_type t) (cast_operand e v)))

abbrev pub cast : ℕ → Ty → Judged → Answer
cast at t e = if is_void t then Ok (value Void_type No) else cast_to at t e (converted e)
