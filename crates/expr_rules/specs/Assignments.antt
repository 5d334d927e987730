-- The conditional, assignment and comma operators (ISO C11 6.5.15 to 6.5.17).
use Rattle.std.specs.Prelude.{ℕ, Bool, ◌||◌, [], ◌∷◌, Option, Some, None, Ok, if◌then◌else◌}
use Rattle.type_data.specs.declared.judged.Constancy.{Constancy}
use Rattle.type_data.specs.declared.judged.Constancy.TheVariants.{No}
use Rattle.type_data.specs.declared.judged.Judged.{Judged}
use Rattle.type_data.specs.declared.qualifiers.Qual.{Qual}
use Rattle.type_data.specs.Types.{Ty, Void_type, Tagged_type, Pointer_to}
use Rattle.type_data.specs.Same.{same_tag}
use Rattle.type_rel.specs.Assignable.{assignable, is_void_beside}
use Rattle.type_rel.specs.Compatible.{compatible}
use Rattle.type_rel.specs.Composite.{composite}
use Rattle.type_rel.specs.Kinds.{Tagging}
use Rattle.type_rel.specs.Conversion.{converted, value}
use Rattle.c_literals.specs.declared.ops.Op.{Op}
use Rattle.c_literals.specs.declared.ops.Op.TheVariants as op
use Rattle.expr_rules.specs.Binary.{are_arithmetic, are_integers, is_moved, is_null_beside, refused}
use Rattle.expr_rules.specs.Constants.{choice}
use Rattle.expr_rules.specs.Kinds.{both_quals, is_scalar}
use Rattle.expr_rules.specs.Operands.{Answer, broken, usual_type}
use Rattle.expr_rules.specs.Postfix.{is_modifiable}

-- 6.5.15p3, p6: of operands without arithmetic types: pointers to compatible types, or one to void beside one to an object type, give a
-- pointer with the qualifiers of both
abbrev pub pointers_both : Ty → Qual → Ty → Qual → Option Ty
pointers_both t q u r =
    if compatible t u then Some (Pointer_to (composite t u) (both_quals q r))
    else if is_void_beside t u then Some (Pointer_to Void_type (both_quals q r))
    else None

-- void beside void, and the same structure or union
abbrev pub alike : Ty → Ty → Option Ty
alike Void_type Void_type = Some Void_type
alike (Tagged_type a) (Tagged_type b) = if same_tag a b then Some (Tagged_type a) else None
alike (Pointer_to t q) (Pointer_to u r) = pointers_both t q u r
alike t u = None

-- a null pointer constant beside a pointer gives that pointer's type
abbrev pub common : Judged → Judged → Option Ty
common x y =
    if is_null_beside x.constant y.ty then Some y.ty
    else if is_null_beside y.constant x.ty then Some x.ty
    else alike x.ty y.ty

abbrev pub of_common : ℕ → Judged → Judged → Option Ty → Answer
of_common at x y (Some t) = Ok (value t No)
of_common at x y None = refused at 527 x y

-- the second and third operand, after their conversion, and the type that the usual arithmetic conversions give
abbrev pub second_and_third : ℕ → Constancy → Ty → Judged → Judged → Answer
second_and_third at c t x y =
    if are_arithmetic x y then Ok (value t (choice t c x.constant y.constant)) else of_common at x y (common x y)

-- p2
abbrev pub chosen_by : ℕ → Judged → Ty → Judged → Judged → Answer
chosen_by at b t x y = if is_scalar b.ty then second_and_third at b.constant t x y else broken at 526 [] (b.ty ∷ [])

abbrev pub conditional : ℕ → Judged → Judged → Judged → Answer
conditional at b x y = chosen_by at (converted b) (usual_type x y) (converted x) (converted y)

-- 6.5.16p2: the left operand is a modifiable lvalue
abbrev pub if_modifiable : ℕ → Tagging → Judged → Answer → Answer
if_modifiable at tags l answer = if is_modifiable tags l then answer else broken at 511 [] (l.ty ∷ [])

-- p3, 6.5.16.1p1: the value has the left type without its qualifiers
abbrev pub assigned : ℕ → Ty → Judged → Answer
assigned at t r = if assignable t r then Ok (value t No) else broken at 528 [] (t ∷ r.ty ∷ [])

abbrev pub assign : ℕ → Tagging → Judged → Judged → Answer
assign at tags l r = if_modifiable at tags l (assigned at l.ty (converted r))

abbrev pub accepted : ℕ → ℕ → Bool → Judged → Judged → Answer
accepted at rule holds a b = if holds then Ok (value a.ty No) else refused at rule a b

-- 6.5.16.2p1, p2: for `+=` and `-=` arithmetic types, or a pointer and an integer; for the others what the operator takes
abbrev pub adds : Tagging → Judged → Judged → Bool
adds tags a b = are_arithmetic a b || is_moved tags a b

abbrev pub operated : ℕ → Tagging → Op → Judged → Judged → Answer
operated at tags op.Mul a b = accepted at 519 (are_arithmetic a b) a b
operated at tags op.Div a b = accepted at 519 (are_arithmetic a b) a b
operated at tags op.Rem a b = accepted at 519 (are_integers a b) a b
operated at tags op.Add a b = accepted at 529 (adds tags a b) a b
operated at tags op.Sub a b = accepted at 529 (adds tags a b) a b
operated at tags op.Shl a b = accepted at 521 (are_integers a b) a b
operated at tags op.Shr a b = accepted at 521 (are_integers a b) a b
operated at tags op.BitAnd a b = accepted at 524 (are_integers a b) a b
operated at tags op.BitXor a b = accepted at 524 (are_integers a b) a b
operated at tags op.BitOr a b = accepted at 524 (are_integers a b) a b
operated at tags op.Plus a b = refused at 529 a b
operated at tags op.Minus a b = refused at 529 a b
operated at tags op.BitNot a b = refused at 529 a b
operated at tags op.LogNot a b = refused at 529 a b
operated at tags op.Lt a b = refused at 529 a b
operated at tags op.Gt a b = refused at 529 a b
operated at tags op.Le a b = refused at 529 a b
operated at tags op.Ge a b = refused at 529 a b
operated at tags op.Eq a b = refused at 529 a b
operated at tags op.Ne a b = refused at 529 a b
operated at tags op.LogAnd a b = refused at 529 a b
operated at tags op.LogOr a b = refused at 529 a b

abbrev pub assign_by : ℕ → Tagging → Op → Judged → Judged → Answer
assign_by at tags o l r = if_modifiable at tags l (operated at tags o (converted l) (converted r))

-- 6.5.17p2
abbrev pub comma : Judged → Answer
comma r = Ok (value (converted r).ty No)
