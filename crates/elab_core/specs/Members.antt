-- Which member a name means (ISO C11 6.5.2.3, 6.7.2.1p13), by the token of its declaration.
use Rattle.std.specs.Prelude.{ℕ, zero, suc, nat_eq, List, [], ◌∷◌, Option, Some, None, if◌then◌else◌}
use Rattle.std.specs.Cmp.Lexicographic.{pointwise}
use Rattle.std.specs.Map.{lookup}
use Rattle.scope_tables.specs.declared.entities.Anchor.{Anchor}
use Rattle.scope_tables.specs.declared.entities.Anchor.TheVariants as anchor
use Rattle.type_data.specs.declared.members.Member.{Member}
use Rattle.type_data.specs.declared.members.TagInfo.{TagInfo}
use Rattle.type_data.specs.declared.names.TagId.{TagId}
use Rattle.type_data.specs.Same.{same_tag}
use Rattle.type_data.specs.Types.{Ty, Void_type, Basic_type, Enumerated_type, Tagged_type, Pointer_to, Array_of, Function_of, Bad_type}
use Rattle.type_rel.specs.Inside.{inside_or, most_tags}
use Rattle.type_rel.specs.Kinds.{Tagging}
use Rattle.scope_tables.specs.Files.{text_of}
use Rattle.elab_state.specs.Tokens.{token}

abbrev pub of_type : (TagId → Option Member) → Ty → Option Member
of_type enter (Tagged_type id) = enter id
of_type enter Void_type = None
of_type enter (Basic_type b) = None
of_type enter (Enumerated_type id) = None
of_type enter (Pointer_to t q) = None
of_type enter (Array_of t q n) = None
of_type enter (Function_of t ps p) = None
of_type enter Bad_type = None

-- itself, or p13 one of an anonymous structure or union
abbrev pub named : (TagId → Option Member) → List ℕ → Member → Option (List ℕ) → Option Member
named enter name m (Some own) = if pointwise nat_eq own name then Some m else None
named enter name m None = of_type enter m.ty

abbrev pub or_found : Option Member → Option Member → Option Member
or_found (Some m) others = Some m
or_found None others = others

abbrev pub among : (TagId → Option Member) → List ℕ → List Member → Option Member
among enter name [] = None
among enter name (m ∷ ms) = or_found (named enter name m m.name) (among enter name ms)

abbrev pub of_members : (TagId → Option Member) → List ℕ → Option (List Member) → Option Member
of_members enter name None = None
of_members enter name (Some ms) = among enter name ms

abbrev pub of_info : (TagId → Option Member) → List ℕ → Option TagInfo → Option Member
of_info enter name None = None
of_info enter name (Some info) = of_members enter name info.members

-- by a bound on how deep tags are inside of one another, which is above their number
abbrev pub member_in : ℕ → Tagging → List TagId → List ℕ → TagId → Option Member
member_in zero tags inside name id = None
member_in (suc n) tags inside name id =
    inside_or inside id None (of_info (λ other. member_in n tags (id ∷ inside) name other) name (lookup (same_tag id) tags))

unfoldable pub member_of : Tagging → List ℕ → Ty → Option Member
member_of tags name t = of_type (λ id. member_in most_tags tags [] name id) t

-- its occurrences are told by the token of its declaration
abbrev pub anchored : Option TagId → Option Anchor
anchored (Some id) = Some (anchor.Local (token (text_of id.item) id.at))
anchored None = None

abbrev pub anchor_of : Option Member → Option Anchor
anchor_of (Some m) = anchored m.at
anchor_of None = None

-- ---- types behind `.`, `->` and brackets

abbrev pub pointed : Ty → Ty
pointed (Pointer_to t q) = t
pointed (Array_of t q n) = t
pointed (Function_of t ps p) = Bad_type
pointed Void_type = Bad_type
pointed (Basic_type b) = Bad_type
pointed (Enumerated_type id) = Bad_type
pointed (Tagged_type id) = Bad_type
pointed Bad_type = Bad_type

abbrev pub element_of : Ty → Ty
element_of (Array_of t q n) = t
element_of (Pointer_to t q) = Bad_type
element_of (Function_of t ps p) = Bad_type
element_of Void_type = Bad_type
element_of (Basic_type b) = Bad_type
element_of (Enumerated_type id) = Bad_type
element_of (Tagged_type id) = Bad_type
element_of Bad_type = Bad_type

abbrev pub type_of : Option Member → Ty
type_of (Some m) = m.ty
type_of None = Bad_type
