-- Sorts of types (ISO C11 6.2.5), as the operators ask for them.
use Rattle.std.specs.Prelude.{Bool, true, false, ◌||◌, ◌&&◌, not, is_some}
use Rattle.type_data.specs.declared.qualifiers.Qual.{Qual}
use Rattle.type_data.specs.Types.{Ty, Void_type, Pointer_to, Array_of, Function_of}
use Rattle.type_rel.specs.Assignable.{is_arithmetic}
use Rattle.type_rel.specs.Completeness.{is_complete}
use Rattle.type_rel.specs.Kinds.{Tagging, integer_type}

abbrev pub is_void : Ty → Bool
is_void Void_type = true
is_void t = false

abbrev pub is_array : Ty → Bool
is_array (Array_of t q n) = true
is_array t = false

abbrev pub is_function : Ty → Bool
is_function (Function_of t ps p) = true
is_function t = false

abbrev pub is_pointer : Ty → Bool
is_pointer (Pointer_to t q) = true
is_pointer t = false

abbrev pub is_integer : Ty → Bool
is_integer t = is_some (integer_type t)

-- 6.2.5p21
abbrev pub is_scalar : Ty → Bool
is_scalar t = is_arithmetic t || is_pointer t

abbrev pub is_floating : Ty → Bool
is_floating t = is_arithmetic t && not (is_integer t)

-- a pointer to a complete object type
abbrev pub is_pointer_to_complete : Tagging → Ty → Bool
is_pointer_to_complete tags (Pointer_to t q) = is_complete tags t
is_pointer_to_complete tags t = false

-- the qualifiers of both
unfoldable pub both_quals : Qual → Qual → Qual
both_quals q r = record {
  is_const = q.is_const || r.is_const;
  is_restrict = q.is_restrict || r.is_restrict;
  is_volatile = q.is_volatile || r.is_volatile;
}
