-- Which types are complete (ISO C11 6.2.5p1, p19, p22, p23).
use Rattle.std.specs.Prelude.{Bool, true, false, is_some, List, Option, Some, None}
use Rattle.std.specs.Map.{lookup}
use Rattle.type_data.specs.declared.members.TagInfo.{TagInfo}
use Rattle.type_data.specs.declared.names.TagId.{TagId}
use Rattle.type_data.specs.declared.qualifiers.Extent.{Extent}
use Rattle.type_data.specs.declared.qualifiers.Extent.TheVariants as extent
use Rattle.type_data.specs.Same.{same_tag}
use Rattle.type_data.specs.Types.{Ty, Void_type, Basic_type, Enumerated_type, Tagged_type, Pointer_to, Array_of, Function_of, Bad_type}

abbrev pub is_sized : Extent → Bool
is_sized extent.None = false
is_sized (extent.Size n) = true
is_sized extent.Unknown = true

-- a structure, union or enumeration is complete where its members are known
abbrev pub has_members : Option TagInfo → Bool
has_members None = false
has_members (Some info) = is_some info.members

-- `void` and an array of no size are incomplete object types; a function type is no object type, and nothing is shown of a
-- type with a fault
abbrev pub is_complete : List (TagId × TagInfo) → Ty → Bool
is_complete tags Void_type = false
is_complete tags (Basic_type b) = true
is_complete tags (Enumerated_type id) = has_members (lookup (same_tag id) tags)
is_complete tags (Tagged_type id) = has_members (lookup (same_tag id) tags)
is_complete tags (Pointer_to t q) = true
is_complete tags (Array_of t q n) = is_sized n
is_complete tags (Function_of t ps p) = false
is_complete tags Bad_type = true

-- an array of no size
abbrev pub is_open_array : Ty → Bool
is_open_array (Array_of t q extent.None) = true
is_open_array t = false
