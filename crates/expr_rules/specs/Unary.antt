-- Unary operators (ISO C11 6.5.3), `++` and `--` aside.
use Rattle.std.specs.Prelude.{ℕ, Bool, true, false, not, ◌&&◌, is_some, pos, ◌/◌, List, [], ◌∷◌, Option, Some, None, Ok, if◌then◌else◌}
use Rattle.std.specs.Map.{lookup}
use Rattle.type_data.specs.declared.judged.Constancy.TheVariants.{Int}
use Rattle.type_data.specs.declared.judged.Judged.{Judged}
use Rattle.type_data.specs.declared.judged.Place.{Place}
use Rattle.type_data.specs.declared.judged.Place.TheVariants as place
use Rattle.type_data.specs.Types.{Ty, Basic_type, Tagged_type, Pointer_to, Array_of, Bad_type}
use Rattle.type_data.specs.declared.basics.Basic.TheVariants as basic
use Rattle.type_data.specs.declared.integers.IntTy.TheVariants as int
use Rattle.type_data.specs.declared.values.Value.{Value}
use Rattle.type_data.specs.declared.values.Value.TheVariants.{Known, Unknown}
use Rattle.type_data.specs.Same.{same_tag}
use Rattle.type_rel.specs.Assignable.{is_arithmetic}
use Rattle.type_rel.specs.Sizes.{Sized, size_align}
use Rattle.type_rel.specs.Completeness.{has_members, is_complete}
use Rattle.type_rel.specs.Kinds.{Tagging}
use Rattle.type_rel.specs.Conversion.{converted, value}
use Rattle.c_literals.specs.declared.ops.Op.{Op}
use Rattle.c_literals.specs.declared.ops.Op.TheVariants as op
use Rattle.expr_rules.specs.declared.parts.Designator.{Designator}
use Rattle.expr_rules.specs.declared.parts.Designator.TheVariants as designator
use Rattle.expr_rules.specs.Constants as constants
use Rattle.expr_rules.specs.Constants.{address_if, brought, result_of}
use Rattle.expr_rules.specs.Kinds.{is_integer, is_pointer, is_scalar}
use Rattle.expr_rules.specs.Members.{Found, member}
use Rattle.expr_rules.specs.Operands.{Answer, bad, broken, promoted_type}
use Rattle.expr_rules.specs.Postfix.{pointed}

-- 6.5.3.2p1: a function designator, or an object that is no bit-field and no register
abbrev pub has_address : Place → Bool
has_address place.Object = true
has_address place.Function = true
has_address place.Value = false
has_address (place.BitField w) = false
has_address place.Register = false

abbrev pub address : ℕ → Judged → Answer
address at e =
    if has_address e.place then Ok (value (Pointer_to e.ty e.qual) (address_if e.constant)) else broken at 513 [] (e.ty ∷ [])

-- p2
abbrev pub dereferenced : ℕ → Judged → Answer
dereferenced at e =
    if is_pointer e.ty then Ok (pointed e.ty (address_if e.constant)) else broken at 514 [] (e.ty ∷ [])

abbrev pub dereference : ℕ → Judged → Answer
dereference at e = dereferenced at (converted e)

-- 6.5.3.3p1
abbrev pub takes : Op → Ty → Bool
takes op.Plus t = is_arithmetic t
takes op.Minus t = is_arithmetic t
takes op.BitNot t = is_integer t
takes op.LogNot t = is_scalar t
takes op.Mul t = false
takes op.Div t = false
takes op.Rem t = false
takes op.Add t = false
takes op.Sub t = false
takes op.Shl t = false
takes op.Shr t = false
takes op.Lt t = false
takes op.Gt t = false
takes op.Le t = false
takes op.Ge t = false
takes op.Eq t = false
takes op.Ne t = false
takes op.BitAnd t = false
takes op.BitXor t = false
takes op.BitOr t = false
takes op.LogAnd t = false
takes op.LogOr t = false

-- p2 to p5: the promoted type, and int of `!`
abbrev pub unary_type : Op → Ty → Ty
unary_type op.LogNot p = Basic_type basic.Int
unary_type op.Plus p = p
unary_type op.Minus p = p
unary_type op.BitNot p = p
unary_type op.Mul p = p
unary_type op.Div p = p
unary_type op.Rem p = p
unary_type op.Add p = p
unary_type op.Sub p = p
unary_type op.Shl p = p
unary_type op.Shr p = p
unary_type op.Lt p = p
unary_type op.Gt p = p
unary_type op.Le p = p
unary_type op.Ge p = p
unary_type op.Eq p = p
unary_type op.Ne p = p
unary_type op.BitAnd p = p
unary_type op.BitXor p = p
unary_type op.BitOr p = p
unary_type op.LogAnd p = p
unary_type op.LogOr p = p

-- by the promoted type of the operand, and the operand after its conversion
abbrev pub unary_by : ℕ → Op → Ty → Judged → Answer
unary_by at o p e =
    if takes o e.ty then Ok (value (unary_type o p) (constants.unary o p e.constant)) else broken at 515 [] (e.ty ∷ [])

abbrev pub unary : ℕ → Op → Judged → Answer
unary at o e = unary_by at o (promoted_type e) (converted e)

-- 6.5.3.4: size_t is unsigned long
abbrev pub size_type : Ty
size_type = Basic_type basic.ULong

abbrev pub size_value : Option Sized → Value
size_value None = Unknown
size_value (Some s) = Known (pos s.0)

abbrev pub is_bit_field : Place → Bool
is_bit_field (place.BitField w) = true
is_bit_field place.Value = false
is_bit_field place.Object = false
is_bit_field place.Register = false
is_bit_field place.Function = false

-- p1: no function, no incomplete type, no bit-field; p2: the size of the operand, which isn't converted
abbrev pub size_of : ℕ → Tagging → Ty → Bool → Answer
size_of at tags t field =
    if is_complete tags t && not field then Ok (value size_type (Int (size_value (size_align tags t)))) else broken at 516 [] (t ∷ [])

abbrev pub size_of_expression : ℕ → Tagging → Judged → Answer
size_of_expression at tags e = size_of at tags e.ty (is_bit_field e.place)

-- p3: of an array type it is the alignment of the element type
abbrev pub align_value : Option Sized → Value
align_value None = Unknown
align_value (Some s) = Known (pos s.1)

abbrev pub alignment : Tagging → Ty → Value
alignment tags (Array_of t q n) = alignment tags t
alignment tags t = align_value (size_align tags t)

abbrev pub align_of : ℕ → Tagging → Ty → Answer
align_of at tags t =
    if is_complete tags t then Ok (value size_type (Int (alignment tags t))) else broken at 516 [] (t ∷ [])

-- 7.19p3: the place of a member in bytes, along its member-designator. Sums are those of unsigned long.
abbrev pub bytes_of : Option ℕ → Value
bytes_of None = Unknown
bytes_of (Some bits) = Known (pos (bits / 8))

abbrev pub plus : Value → Value → Value
plus v w = result_of op.Add int.ULong v w

abbrev pub elements : Value → Value → Value
elements v size = result_of op.Mul int.ULong (brought int.ULong v) size

abbrev pub at_end : ℕ → Ty → Value → Bool → Answer
at_end at t v field = if field then broken at 516 [] (t ∷ []) else Ok (value size_type (Int v))

abbrev pub on_to : ℕ → List ℕ → Value → (Ty → Value → Bool → Answer) → Option Found → Answer
on_to at name v next None = broken at 509 (name ∷ []) []
on_to at name v next (Some f) = next f.ty (plus v (bytes_of f.place)) (is_some f.width)

abbrev pub to_member : ℕ → Tagging → List ℕ → Value → (Ty → Value → Bool → Answer) → Ty → Answer
to_member at tags name v next (Tagged_type id) =
    if has_members (lookup (same_tag id) tags) then on_to at name v next (member tags name id) else broken at 516 [] (Tagged_type id ∷ [])
to_member at tags name v next Bad_type = Ok bad
to_member at tags name v next t = broken at 509 (name ∷ []) []

abbrev pub to_element : ℕ → Tagging → Value → Value → (Ty → Value → Bool → Answer) → Ty → Answer
to_element at tags number v next (Array_of t q n) = next t (plus v (elements number (size_value (size_align tags t)))) false
to_element at tags number v next Bad_type = Ok bad
to_element at tags number v next t = broken at 516 [] (t ∷ [])

abbrev pub offset_from : ℕ → Tagging → List Designator → Ty → Value → Bool → Answer
offset_from at tags [] t v field = at_end at t v field
offset_from at tags (designator.Field name ∷ ds) t v field = to_member at tags name v (offset_from at tags ds) t
offset_from at tags (designator.Index number ∷ ds) t v field = to_element at tags number v (offset_from at tags ds) t

abbrev pub offset_of : ℕ → Tagging → Ty → List Designator → Answer
offset_of at tags t ds = if is_complete tags t then offset_from at tags ds t (Known (pos 0)) false else broken at 516 [] (t ∷ [])
