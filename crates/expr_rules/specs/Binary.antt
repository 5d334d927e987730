-- Binary operators (ISO C11 6.5.5 to 6.5.14). Operands are converted ones; beside them stand the types that their promotions and
-- the usual arithmetic conversions give.
use Rattle.std.specs.Prelude.{ℕ, Bool, false, ◌&&◌, ◌||◌, [], ◌∷◌, Ok, if◌then◌else◌}
use Rattle.type_data.specs.declared.judged.Constancy.{Constancy}
use Rattle.type_data.specs.declared.judged.Constancy.TheVariants.{No}
use Rattle.type_data.specs.declared.judged.Judged.{Judged}
use Rattle.type_data.specs.Types.{Ty, Basic_type, Pointer_to}
use Rattle.type_data.specs.declared.basics.Basic.TheVariants as basic
use Rattle.type_rel.specs.Assignable.{is_arithmetic, is_null_pointer, is_object, is_void_beside}
use Rattle.type_rel.specs.Compatible.{compatible}
use Rattle.type_rel.specs.Completeness.{is_complete}
use Rattle.type_rel.specs.Kinds.{Tagging}
use Rattle.type_rel.specs.Conversion.{converted, value}
use Rattle.c_literals.specs.declared.ops.Op.{Op}
use Rattle.c_literals.specs.declared.ops.Op.TheVariants as op
use Rattle.expr_rules.specs.Constants as constants
use Rattle.expr_rules.specs.Kinds.{is_integer, is_pointer_to_complete, is_scalar}
use Rattle.expr_rules.specs.Operands.{Answer, broken, promoted_type, usual_type}

-- the fault prints both operands
abbrev pub refused : ℕ → ℕ → Judged → Judged → Answer
refused at rule a b = broken at rule [] (a.ty ∷ b.ty ∷ [])

abbrev pub are_arithmetic : Judged → Judged → Bool
are_arithmetic a b = is_arithmetic a.ty && is_arithmetic b.ty

abbrev pub are_integers : Judged → Judged → Bool
are_integers a b = is_integer a.ty && is_integer b.ty

-- a value of the type to which both operands are brought
abbrev pub usual_value : Op → Ty → Judged → Judged → Judged
usual_value o t a b = value t (constants.binary o t a.constant b.constant)

-- a value of type int, of operands that are brought to one type
abbrev pub truth_value : Op → Ty → Judged → Judged → Judged
truth_value o t a b = value (Basic_type basic.Int) (constants.binary o t a.constant b.constant)

abbrev pub int_value : Judged
int_value = value (Basic_type basic.Int) No

-- 6.5.5p2
abbrev pub multiplicative : ℕ → Op → Ty → Judged → Judged → Answer
multiplicative at o t a b = if are_arithmetic a b then Ok (usual_value o t a b) else refused at 519 a b

abbrev pub remainder : ℕ → Ty → Judged → Judged → Answer
remainder at t a b = if are_integers a b then Ok (usual_value op.Rem t a b) else refused at 519 a b

-- 6.5.6: a pointer to a complete object type and an integer
abbrev pub is_moved : Tagging → Judged → Judged → Bool
is_moved tags p n = is_pointer_to_complete tags p.ty && is_integer n.ty

abbrev pub moved_value : Judged → Judged → Judged
moved_value p n = value p.ty (constants.moved p.constant n.constant)

-- p2
abbrev pub sum : ℕ → Tagging → Ty → Judged → Judged → Answer
sum at tags t a b =
    if are_arithmetic a b then Ok (usual_value op.Add t a b)
    else if is_moved tags a b then Ok (moved_value a b)
    else if is_moved tags b a then Ok (moved_value b a)
    else refused at 520 a b

-- p3: pointers to compatible complete object types, whatever their qualifiers
abbrev pub are_apart : Tagging → Ty → Ty → Bool
are_apart tags (Pointer_to t q) (Pointer_to u r) = is_complete tags t && is_complete tags u && compatible t u
are_apart tags t u = false

-- p3, p9: ptrdiff_t is long
abbrev pub difference : ℕ → Tagging → Ty → Judged → Judged → Answer
difference at tags t a b =
    if are_arithmetic a b then Ok (usual_value op.Sub t a b)
    else if is_moved tags a b then Ok (moved_value a b)
    else if are_apart tags a.ty b.ty then Ok (value (Basic_type basic.Long) No)
    else refused at 520 a b

-- 6.5.7p2, p3: the result has the promoted type of the left operand
abbrev pub shift : ℕ → Op → Ty → Judged → Judged → Answer
shift at o p a b = if are_integers a b then Ok (value p (constants.shift o p a.constant b.constant)) else refused at 521 a b

-- 6.5.8p2: pointers to compatible object types, whatever their qualifiers
abbrev pub are_ordered : Ty → Ty → Bool
are_ordered (Pointer_to t q) (Pointer_to u r) = is_object t && is_object u && compatible t u
are_ordered t u = false

abbrev pub relational : ℕ → Op → Ty → Judged → Judged → Answer
relational at o t a b =
    if are_arithmetic a b then Ok (truth_value o t a b)
    else if are_ordered a.ty b.ty then Ok int_value
    else refused at 522 a b

-- 6.5.9p2: pointers to compatible types, or one to void beside one to an object type, whatever their qualifiers
abbrev pub are_related : Ty → Ty → Bool
are_related (Pointer_to t q) (Pointer_to u r) = compatible t u || is_void_beside t u
are_related t u = false

-- a null pointer constant beside a pointer
abbrev pub is_null_beside : Constancy → Ty → Bool
is_null_beside c (Pointer_to t q) = is_null_pointer c
is_null_beside c t = false

abbrev pub are_comparable : Judged → Judged → Bool
are_comparable a b = are_related a.ty b.ty || is_null_beside a.constant b.ty || is_null_beside b.constant a.ty

abbrev pub equality : ℕ → Op → Ty → Judged → Judged → Answer
equality at o t a b =
    if are_arithmetic a b then Ok (truth_value o t a b)
    else if are_comparable a b then Ok int_value
    else refused at 523 a b

-- 6.5.10 to 6.5.12
abbrev pub bitwise : ℕ → Op → Ty → Judged → Judged → Answer
bitwise at o t a b = if are_integers a b then Ok (usual_value o t a b) else refused at 524 a b

-- 6.5.13, 6.5.14
abbrev pub logical : ℕ → Op → Judged → Judged → Answer
logical at o a b =
    if is_scalar a.ty && is_scalar b.ty then Ok (value (Basic_type basic.Int) (constants.logical o a.constant b.constant))
    else refused at 525 a b

-- by the promoted type of the left operand, and the type of both; an operator that takes one operand is none of two
abbrev pub by_operator : ℕ → Tagging → Op → Ty → Ty → Judged → Judged → Answer
by_operator at tags op.Mul p t a b = multiplicative at op.Mul t a b
by_operator at tags op.Div p t a b = multiplicative at op.Div t a b
by_operator at tags op.Rem p t a b = remainder at t a b
by_operator at tags op.Add p t a b = sum at tags t a b
by_operator at tags op.Sub p t a b = difference at tags t a b
by_operator at tags op.Shl p t a b = shift at op.Shl p a b
by_operator at tags op.Shr p t a b = shift at op.Shr p a b
by_operator at tags op.Lt p t a b = relational at op.Lt t a b
by_operator at tags op.Gt p t a b = relational at op.Gt t a b
by_operator at tags op.Le p t a b = relational at op.Le t a b
by_operator at tags op.Ge p t a b = relational at op.Ge t a b
by_operator at tags op.Eq p t a b = equality at op.Eq t a b
by_operator at tags op.Ne p t a b = equality at op.Ne t a b
by_operator at tags op.BitAnd p t a b = bitwise at op.BitAnd t a b
by_operator at tags op.BitXor p t a b = bitwise at op.BitXor t a b
by_operator at tags op.BitOr p t a b = bitwise at op.BitOr t a b
by_operator at tags op.LogAnd p t a b = logical at op.LogAnd a b
by_operator at tags op.LogOr p t a b = logical at op.LogOr a b
by_operator at tags op.Plus p t a b = refused at 515 a b
by_operator at tags op.Minus p t a b = refused at 515 a b
by_operator at tags op.BitNot p t a b = refused at 515 a b
by_operator at tags op.LogNot p t a b = refused at 515 a b

abbrev pub binary : ℕ → Tagging → Op → Judged → Judged → Answer
binary at tags o l r = by_operator at tags o (promoted_type l) (usual_type l r) (converted l) (converted r)
