-- Simple assignment (ISO C11 6.5.16.1p1): what may be assigned to an object of a type, by the cases of its list.
use Rattle.std.specs.Prelude.{Bool, true, false, not, ◌&&◌, ◌||◌, pos}
use Rattle.std.specs.Ordering.{int_eq}
use Rattle.type_data.specs.declared.basics.Basic.TheVariants as basic
use Rattle.type_data.specs.declared.judged.Constancy.{Constancy}
use Rattle.type_data.specs.declared.judged.Constancy.TheVariants as constancy
use Rattle.type_data.specs.declared.judged.Judged.{Judged}
use Rattle.type_data.specs.declared.qualifiers.Qual.{Qual}
use Rattle.type_data.specs.declared.values.Value.{Value}
use Rattle.type_data.specs.declared.values.Value.TheVariants as value
use Rattle.type_data.specs.Same.{same_basic, same_tag}
use Rattle.type_data.specs.Types.{Ty, Void_type, Basic_type, Enumerated_type, Tagged_type, Pointer_to, Function_of, Bad_type}
use Rattle.type_rel.specs.Compatible.{compatible}

-- 6.2.5p21: integer and floating types
abbrev pub is_arithmetic : Ty → Bool
is_arithmetic (Basic_type b) = true
is_arithmetic (Enumerated_type id) = true
is_arithmetic t = false

-- all of the second's qualifiers are among the first's
unfoldable pub includes : Qual → Qual → Bool
includes q r = (q.is_const || not r.is_const) && (q.is_restrict || not r.is_restrict) && (q.is_volatile || not r.is_volatile)

abbrev pub is_object : Ty → Bool
is_object (Function_of t ps p) = false
is_object t = true

-- one of two types is void and the other is an object type
abbrev pub is_void_beside : Ty → Ty → Bool
is_void_beside Void_type u = is_object u
is_void_beside t Void_type = is_object t
is_void_beside t u = false

-- an integer constant expression with the value 0, or one whose value isn't told
abbrev pub is_zero : Value → Bool
is_zero (value.Known n) = int_eq n (pos 0)
is_zero value.Unknown = true
is_zero (value.Faulty rule) = false

-- 6.3.2.3p3
abbrev pub is_null_pointer : Constancy → Bool
is_null_pointer (constancy.Int v) = is_zero v
is_null_pointer constancy.Null = true
is_null_pointer c = false

-- a pointer to the second type, with its qualifiers, may be assigned to one to the first
abbrev pub points : Ty → Qual → Ty → Qual → Bool
points t q u r = includes q r && (compatible t u || is_void_beside t u)

-- nothing more is shown of what has a fault
abbrev pub assignable_type : Ty → Ty → Constancy → Bool
assignable_type Bad_type u c = true
assignable_type t Bad_type c = true
-- both arithmetic
assignable_type (Enumerated_type id) u c = is_arithmetic u
-- compatible structure or union types
assignable_type (Tagged_type a) (Tagged_type b) c = same_tag a b
-- pointers, or a pointer and a null pointer constant
assignable_type (Pointer_to t q) (Pointer_to u r) c = points t q u r || is_null_pointer c
assignable_type (Pointer_to t q) u c = is_null_pointer c
-- _Bool and a pointer
assignable_type (Basic_type b) (Pointer_to u r) c = same_basic b basic.Bool
assignable_type (Basic_type b) u c = is_arithmetic u
assignable_type t u c = false

abbrev pub assignable : Ty → Judged → Bool
assignable t from = assignable_type t from.ty from.constant
