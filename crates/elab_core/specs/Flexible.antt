-- Structures with a flexible array member, and unions that hold one (ISO C11 6.7.2.1p3, p18).
use Rattle.std.specs.Prelude.{ℕ, zero, suc, Bool, true, false, ◌||◌, List, [], ◌∷◌, Option, Some, None}
use Rattle.std.specs.Map.{lookup}
use Rattle.type_data.specs.declared.members.Member.{Member}
use Rattle.type_data.specs.declared.members.TagInfo.{TagInfo}
use Rattle.type_data.specs.declared.members.TagKind.{TagKind}
use Rattle.type_data.specs.declared.members.TagKind.TheVariants as tag_kind
use Rattle.type_data.specs.declared.names.TagId.{TagId}
use Rattle.type_data.specs.Same.{same_tag}
use Rattle.type_data.specs.Types.{Ty, Void_type, Basic_type, Enumerated_type, Tagged_type, Pointer_to, Array_of, Function_of, Bad_type}
use Rattle.type_rel.specs.Completeness.{is_open_array}
use Rattle.type_rel.specs.Inside.{inside_or, most_tags}
use Rattle.type_rel.specs.Kinds.{Tagging}

-- p18: the last member is an array of no size
abbrev pub open_behind : Bool → List Member → Bool
open_behind b [] = b
open_behind b (m ∷ ms) = open_behind (is_open_array m.ty) ms

abbrev pub ends_open : List Member → Bool
ends_open ms = open_behind false ms

abbrev pub of_type : (TagId → Bool) → Ty → Bool
of_type enter (Tagged_type id) = enter id
of_type enter Void_type = false
of_type enter (Basic_type b) = false
of_type enter (Enumerated_type id) = false
of_type enter (Pointer_to t q) = false
of_type enter (Array_of t q n) = false
of_type enter (Function_of t ps p) = false
of_type enter Bad_type = false

-- p3: also where a union holds it
abbrev pub holds_open : (TagId → Bool) → List Member → Bool
holds_open enter [] = false
holds_open enter (m ∷ ms) = of_type enter m.ty || holds_open enter ms

abbrev pub by_kind : (TagId → Bool) → TagKind → List Member → Bool
by_kind enter tag_kind.Struct ms = ends_open ms
by_kind enter tag_kind.Union ms = holds_open enter ms
by_kind enter tag_kind.Enum ms = false

abbrev pub of_members : (TagId → Bool) → TagKind → Option (List Member) → Bool
of_members enter k None = false
of_members enter k (Some ms) = by_kind enter k ms

abbrev pub of_info : (TagId → Bool) → Option TagInfo → Bool
of_info enter None = false
of_info enter (Some info) = of_members enter info.kind info.members

-- by a bound on how deep tags are inside of one another, which is above their number
abbrev pub flexible_in : ℕ → Tagging → List TagId → TagId → Bool
flexible_in zero tags inside id = false
flexible_in (suc n) tags inside id = inside_or inside id false (of_info (λ other. flexible_in n tags (id ∷ inside) other) (lookup (same_tag id) tags))

unfoldable pub is_flexible : Tagging → Ty → Bool
is_flexible tags t = of_type (λ id. flexible_in most_tags tags [] id) t
