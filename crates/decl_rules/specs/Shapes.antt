-- What a declarator may declare (ISO C11 6.7p7, 6.7.6.3, 6.7.9, 6.9.1).
use Rattle.std.specs.Prelude.{Bool, true, false, ◌&&◌, ◌||◌, not, List, [], ◌∷◌, ◌==◌, length, Option, Some, None, if◌then◌else◌}
use Rattle.type_data.specs.declared.judged.Fault.{Fault}
use Rattle.type_data.specs.declared.members.TagInfo.{TagInfo}
use Rattle.type_data.specs.declared.names.TagId.{TagId}
use Rattle.type_data.specs.Types.{Ty, Void_type, Array_of, Function_of}
use Rattle.decl_rules.specs.declared.parts.DeclParts.{DeclParts}
use Rattle.type_rel.specs.Completeness.{is_complete, is_open_array}
use Rattle.decl_rules.specs.Faults.{of_name, of_types}
use Rattle.decl_rules.specs.Sorts.{is_extern, is_file, is_parameter, is_function, is_function_type, is_object}

abbrev pub is_void : Ty → Bool
is_void Void_type = true
is_void t = false

abbrev pub is_array : Ty → Bool
is_array (Array_of t q n) = true
is_array t = false

-- 6.7.6.3p1: a function returns no function and no array; 6.9.1p3: one that is defined returns void or a complete type
abbrev pub is_bad_return : Bool → List (TagId × TagInfo) → Ty → Bool
is_bad_return defined tags t =
    is_function_type t || is_array t || (defined && not (is_void t) && not (is_complete tags t))

abbrev pub bad_return : List (TagId × TagInfo) → DeclParts → Ty → Option Fault
bad_return tags d (Function_of t ps p) = if is_bad_return d.has_body tags t then Some (of_types 421 d (t ∷ [])) else None
bad_return tags d t = None

-- 6.7.6.3p10: a parameter isn't void; p4: in a definition its type is complete
abbrev pub is_bad_parameter : List (TagId × TagInfo) → DeclParts → Bool
is_bad_parameter tags d = is_parameter d.scope && (is_void d.ty || (d.has_body && not (is_complete tags d.ty)))

-- 6.7p7: an object without linkage has a complete type at the end of its declarator, or of its initializer, which tells
-- the size of an array
abbrev pub is_left_incomplete : List (TagId × TagInfo) → DeclParts → Bool
is_left_incomplete tags d =
    not (is_file d.scope) && is_object d && not (is_extern d.storage)
    && not (is_complete tags d.ty) && not (d.has_init && is_open_array d.ty)

-- 6.7.9p3: a complete object type or an array of no size; p5: nothing with linkage in a block
abbrev pub is_initializable : List (TagId × TagInfo) → DeclParts → Bool
is_initializable tags d =
    is_object d && (is_complete tags d.ty || is_open_array d.ty) && not (not (is_file d.scope) && is_extern d.storage)

abbrev pub misshaped : List (TagId × TagInfo) → DeclParts → Option Fault
misshaped tags d =
    if is_bad_parameter tags d then Some (of_types 422 d (d.ty ∷ []))
    else (if is_left_incomplete tags d then Some (of_name 423 d (d.ty ∷ []))
    else (if d.has_init && not (is_initializable tags d) then Some (of_name 424 d [])
    else None))

-- 6.9.1p2: what has a body is declared as a function
abbrev pub has_no_function : DeclParts → Bool
has_no_function d = d.has_body && not (is_parameter d.scope) && not (is_function d && d.has_list)

-- 6.9.1p5: a parameter of a definition has a name
abbrev pub has_no_name : DeclParts → Bool
has_no_name d = d.has_body && is_parameter d.scope && length d.name == 0
