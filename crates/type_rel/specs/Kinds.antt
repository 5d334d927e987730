-- Sorts of types (ISO C11 6.2.5), as operators and initializers ask for them.
use Rattle.std.specs.Prelude.{Bool, true, false, List, Option, Some, None}
use Rattle.type_data.specs.declared.integers.IntTy.{IntTy}
use Rattle.type_data.specs.declared.integers.IntTy.TheVariants as int
use Rattle.type_data.specs.declared.members.TagInfo.{TagInfo}
use Rattle.type_data.specs.declared.names.TagId.{TagId}
use Rattle.type_data.specs.declared.qualifiers.Qual.{Qual}
use Rattle.type_data.specs.Types.{Ty, Basic_type, Enumerated_type, Bad_type}
use Rattle.type_rel.specs.Arithmetic.{integer_of}

-- what is known of the tags of a unit
abbrev pub Tagging : Type 0
Tagging = List (TagId × TagInfo)

abbrev pub is_bad : Ty → Bool
is_bad Bad_type = true
is_bad t = false

-- 6.2.5p17: the integer type whose values it has; an enumerated type is compatible with int
abbrev pub integer_type : Ty → Option IntTy
integer_type (Basic_type b) = integer_of b
integer_type (Enumerated_type id) = Some int.Int
integer_type t = None

abbrev pub unqualified : Qual
unqualified = record { is_const = false; is_restrict = false; is_volatile = false }
