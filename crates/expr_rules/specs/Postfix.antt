-- Postfix operators (ISO C11 6.5.2).
use Rattle.std.specs.Prelude.{ℕ, Bool, true, false, not, ◌&&◌, ◌||◌, List, [], ◌∷◌, Option, Some, None, Ok, if◌then◌else◌}
use Rattle.std.specs.Map.{lookup}
use Rattle.type_data.specs.declared.judged.Constancy.{Constancy}
use Rattle.type_data.specs.declared.judged.Constancy.TheVariants.{No, Addr}
use Rattle.type_data.specs.declared.judged.Judged.{Judged}
use Rattle.type_data.specs.declared.judged.Place.{Place}
use Rattle.type_data.specs.declared.judged.Place.TheVariants as place
use Rattle.type_data.specs.declared.qualifiers.Qual.{Qual}
use Rattle.type_data.specs.Types.{Ty, Tagged_type, Pointer_to, Function_of, Parameters, No_more, Parameter_then}
use Rattle.type_data.specs.declared.qualifiers.Proto.{Proto}
use Rattle.type_data.specs.declared.qualifiers.Proto.TheVariants as proto
use Rattle.type_data.specs.Same.{same_tag}
use Rattle.type_rel.specs.Assignable.{assignable, is_arithmetic}
use Rattle.type_rel.specs.Completeness.{has_members, is_complete, is_open_array}
use Rattle.type_rel.specs.Kinds.{Tagging, unqualified}
use Rattle.type_rel.specs.Conversion.{converted, value}
use Rattle.scope_tables.specs.declared.entities.ScopeKind.{ScopeKind}
use Rattle.scope_tables.specs.declared.entities.ScopeKind.TheVariants as scope
use Rattle.expr_rules.specs.Constants.{address_if, moved}
use Rattle.expr_rules.specs.Kinds.{both_quals, is_array, is_function, is_integer, is_pointer_to_complete, is_void}
use Rattle.expr_rules.specs.Members.{Found, has_const, member, qualified}
use Rattle.expr_rules.specs.Operands.{Answer, broken, bad}

-- what a pointer points to: an object, or a function
unfoldable pub designated : Ty → Qual → Constancy → Judged
designated t q c =
    if is_function t then record { ty = t; qual = unqualified; place = place.Function; constant = c }
    else record { ty = t; qual = q; place = place.Object; constant = c }

abbrev pub pointed : Ty → Constancy → Judged
pointed (Pointer_to t q) c = designated t q c
pointed t c = bad

-- 6.5.2.1: one is a pointer to a complete object type, the other an integer
abbrev pub subscript : ℕ → Tagging → Judged → Judged → Answer
subscript at tags a b =
    if is_pointer_to_complete tags a.ty && is_integer b.ty then Ok (pointed a.ty (moved a.constant b.constant))
    else if is_integer a.ty && is_pointer_to_complete tags b.ty then Ok (pointed b.ty (moved b.constant a.constant))
    else broken at 504 [] (a.ty ∷ b.ty ∷ [])

abbrev pub index : ℕ → Tagging → Judged → Judged → Answer
index at tags a b = subscript at tags (converted a) (converted b)

-- 6.5.2.2p2, 6.5.16.1: the first argument that can't be assigned to its parameter, with that
abbrev pub misfit : Parameters → List Judged → Option (Ty × Ty)
misfit No_more args = None
misfit (Parameter_then t q ps) [] = None
misfit (Parameter_then t q ps) (a ∷ args) = if assignable t (converted a) then misfit ps args else Some (t, (converted a).ty)

abbrev pub as_many : Parameters → List Judged → Bool
as_many No_more [] = true
as_many (Parameter_then t q ps) (a ∷ args) = as_many ps args
as_many ps args = false

abbrev pub as_many_or_more : Parameters → List Judged → Bool
as_many_or_more No_more args = true
as_many_or_more (Parameter_then t q ps) (a ∷ args) = as_many_or_more ps args
as_many_or_more (Parameter_then t q ps) [] = false

-- p2: with a prototype the number of arguments agrees
abbrev pub agrees : Proto → Parameters → List Judged → Bool
agrees proto.Old ps args = true
agrees proto.Fixed ps args = as_many ps args
agrees proto.Variadic ps args = as_many_or_more ps args

abbrev pub misfit_by : Proto → Parameters → List Judged → Option (Ty × Ty)
misfit_by proto.Old ps args = None
misfit_by proto.Fixed ps args = misfit ps args
misfit_by proto.Variadic ps args = misfit ps args

abbrev pub returned : ℕ → Ty → Option (Ty × Ty) → Answer
returned at r None = Ok (value r No)
returned at r (Some p) = broken at 507 [] (p.0 ∷ p.1 ∷ [])

-- p1: what it returns is void, or a complete object type but no array
abbrev pub is_returnable : Tagging → Ty → Bool
is_returnable tags r = is_void r || (is_complete tags r && not (is_array r))

abbrev pub called_with : ℕ → Ty → Parameters → Proto → List Judged → Answer
called_with at r ps p args = if agrees p ps args then returned at r (misfit_by p ps args) else broken at 506 [] []

-- `shown` is the type of what is called
abbrev pub called : ℕ → Tagging → Ty → List Judged → Ty → Answer
called at tags shown args (Function_of r ps p) = if is_returnable tags r then called_with at r ps p args else broken at 505 [] (shown ∷ [])
called at tags shown args t = broken at 505 [] (shown ∷ [])

abbrev pub called_by : ℕ → Tagging → List Judged → Ty → Answer
called_by at tags args (Pointer_to t q) = called at tags (Pointer_to t q) args t
called_by at tags args t = broken at 505 [] (t ∷ [])

abbrev pub call : ℕ → Tagging → Judged → List Judged → Answer
call at tags f args = called_by at tags args (converted f).ty

-- 6.5.2.3: a member is a place where the whole is one, and has the qualifiers of both
abbrev pub object_place : Option ℕ → Place
object_place (Some w) = place.BitField w
object_place None = place.Object

abbrev pub register_place : Option ℕ → Place
register_place (Some w) = place.BitField w
register_place None = place.Register

abbrev pub field_place : Place → Option ℕ → Place
field_place place.Value w = place.Value
field_place place.Register w = register_place w
field_place place.Object w = object_place w
field_place (place.BitField v) w = object_place w
field_place place.Function w = object_place w

abbrev pub field_constant : Place → Constancy → Constancy
field_constant place.Value c = No
field_constant place.Object c = c
field_constant (place.BitField v) c = c
field_constant place.Register c = c
field_constant place.Function c = c

-- the qualifiers of an array are those of its elements
unfoldable pub field_qual : Ty → Qual → Qual
field_qual t q = if is_array t then unqualified else q

abbrev pub field : Place → Qual → Constancy → Found → Judged
field p q c f = record {
  ty = qualified f.ty (both_quals q f.qual);
  qual = field_qual f.ty (both_quals q f.qual);
  place = field_place p f.width;
  constant = field_constant p c;
}

abbrev pub field_of : ℕ → List ℕ → Place → Qual → Constancy → Option Found → Answer
field_of at name p q c None = broken at 509 (name ∷ []) []
field_of at name p q c (Some f) = Ok (field p q c f)

-- the whole is a structure or union whose members are known; `shown` is what the fault prints
abbrev pub member_of : ℕ → Tagging → List ℕ → Ty → Place → Qual → Constancy → Ty → Answer
member_of at tags name shown p q c (Tagged_type id) =
    if has_members (lookup (same_tag id) tags) then field_of at name p q c (member tags name id) else broken at 508 [] (shown ∷ [])
member_of at tags name shown p q c t = broken at 508 [] (shown ∷ [])

abbrev pub dot : ℕ → Tagging → List ℕ → Judged → Answer
dot at tags name e = member_of at tags name (converted e).ty e.place e.qual e.constant e.ty

abbrev pub arrow_from : ℕ → Tagging → List ℕ → Constancy → Ty → Answer
arrow_from at tags name c (Pointer_to t q) = member_of at tags name (Pointer_to t q) place.Object q (address_if c) t
arrow_from at tags name c t = broken at 508 [] (t ∷ [])

abbrev pub arrow : ℕ → Tagging → List ℕ → Judged → Answer
arrow at tags name e = arrow_from at tags name (converted e).constant (converted e).ty

-- 6.3.2.1p1: a modifiable lvalue
abbrev pub is_lvalue : Place → Bool
is_lvalue place.Object = true
is_lvalue (place.BitField w) = true
is_lvalue place.Register = true
is_lvalue place.Value = false
is_lvalue place.Function = false

abbrev pub is_modifiable : Tagging → Judged → Bool
is_modifiable tags e = is_lvalue e.place && not (is_array e.ty) && is_complete tags e.ty && not e.qual.is_const && not (has_const tags e.ty)

-- 6.5.2.4, 6.5.3.1: real, or a pointer to a complete object type
abbrev pub steps : Tagging → Ty → Bool
steps tags t = is_arithmetic t || is_pointer_to_complete tags t

abbrev pub stepped : ℕ → Tagging → Judged → Answer
stepped at tags e =
    if not (steps tags (converted e).ty) then broken at 510 [] ((converted e).ty ∷ [])
    else if is_modifiable tags e then Ok (value e.ty No)
    else broken at 511 [] (e.ty ∷ [])

-- 6.5.2.5p5: outside of functions it has static storage duration
abbrev pub literal_constant : ScopeKind → Constancy
literal_constant scope.File = Addr
literal_constant scope.Function = No
literal_constant scope.Block = No
literal_constant scope.Prototype = No

-- p1: a complete object type, or an array of unknown size
abbrev pub compound : ℕ → Tagging → Ty → Qual → ScopeKind → Answer
compound at tags t q s =
    if is_complete tags t || is_open_array t then Ok (record { ty = t; qual = q; place = place.Object; constant = literal_constant s })
    else broken at 512 [] (t ∷ [])
