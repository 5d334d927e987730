-- Members of structures and unions (ISO C11 6.7.2.1p13: those of an anonymous one are its own).
use Rattle.std.specs.Prelude.{ℕ, Bool, true, false, ◌||◌, ◌+◌, suc, zero, nat_eq, nat_lt, ◌^◌, List, [], ◌∷◌, Option, Some, None, if◌then◌else◌}
use Rattle.std.specs.Cmp.Lexicographic.{pointwise}
use Rattle.std.specs.Map.{lookup}
use Rattle.type_data.specs.declared.members.Member.{Member}
use Rattle.type_data.specs.declared.members.TagInfo.{TagInfo}
use Rattle.type_data.specs.declared.names.TagId.{TagId}
use Rattle.type_data.specs.declared.qualifiers.Qual.{Qual}
use Rattle.type_data.specs.Layouts.{Laid}
use Rattle.type_data.specs.Same.{same_tag}
use Rattle.type_data.specs.Types.{Ty, Tagged_type, Array_of}
use Rattle.type_rel.specs.Inside.{inside_or, most_tags}
use Rattle.type_rel.specs.Kinds.{Tagging}
use Rattle.expr_rules.specs.Kinds.{both_quals, is_array}

-- a member that was found: its type, its qualifiers and those of the anonymous structures round it, its width, and its place from
-- the front in bits where the layouts tell it
pub record Found : Type 0 where
  pub ty : Ty
  pub qual : Qual
  pub width : Option ℕ
  pub place : Option ℕ

-- 6.7.3p9: qualifiers of an array are those of its elements
abbrev pub qualified : Ty → Qual → Ty
qualified (Array_of t q n) r = if is_array t then Array_of (qualified t r) q n else Array_of t (both_quals q r) n
qualified t r = t

-- a place is a number of 128 bits
unfoldable pub small : ℕ → Option ℕ
small n = if nat_lt n (2 ^ 128) then Some n else None

abbrev pub sum : Option ℕ → Option ℕ → Option ℕ
sum None b = None
sum (Some a) None = None
sum (Some a) (Some b) = small (a + b)

-- the place of each member, in order
abbrev pub places_of : Option Laid → List ℕ
places_of (Some laid) = laid.offsets
places_of None = []

abbrev pub first_place : List ℕ → Option ℕ
first_place [] = None
first_place (p ∷ ps) = Some p

abbrev pub other_places : List ℕ → List ℕ
other_places [] = []
other_places (p ∷ ps) = ps

-- a member within an anonymous one
abbrev pub within : Member → Option ℕ → Option Found → Option Found
within m place None = None
within m place (Some f) = Some (record { ty = f.ty; qual = both_quals m.qual f.qual; width = f.width; place = sum place f.place })

abbrev pub itself : Member → Option ℕ → Found
itself m place = record { ty = m.ty; qual = m.qual; width = m.width; place = place }

-- what the members of a tag have under the name
abbrev pub anonymous : (TagId → Option Found) → Member → Option ℕ → Ty → Option Found
anonymous enter m place (Tagged_type id) = within m place (enter id)
anonymous enter m place t = None

abbrev pub named : (TagId → Option Found) → List ℕ → Member → Option ℕ → Option (List ℕ) → Option Found
named enter name m place (Some own) = if pointwise nat_eq own name then Some (itself m place) else None
named enter name m place None = anonymous enter m place m.ty

abbrev pub or_found : Option Found → Option Found → Option Found
or_found (Some f) others = Some f
or_found None others = others

abbrev pub among : (TagId → Option Found) → List ℕ → List Member → List ℕ → Option Found
among enter name [] places = None
among enter name (m ∷ ms) places =
    or_found (named enter name m (first_place places) m.name) (among enter name ms (other_places places))

abbrev pub of_members : (TagId → Option Found) → List ℕ → Option (List Member) → List ℕ → Option Found
of_members enter name None places = None
of_members enter name (Some ms) places = among enter name ms places

abbrev pub of_info : (TagId → Option Found) → List ℕ → Option TagInfo → Option Found
of_info enter name None = None
of_info enter name (Some info) = of_members enter name info.members (places_of info.layout)

-- by a bound on how deep tags are inside of one another, which is above their number
abbrev pub member_in : ℕ → Tagging → List TagId → List ℕ → TagId → Option Found
member_in zero tags inside name id = None
member_in (suc n) tags inside name id =
    inside_or inside id None (of_info (λ other. member_in n tags (id ∷ inside) name other) name (lookup (same_tag id) tags))

-- the member of a structure or union with this name
unfoldable pub member : Tagging → List ℕ → TagId → Option Found
member tags name id = member_in most_tags tags [] name id

-- 6.3.2.1p1: whether some member, at any depth by value, is const
abbrev pub any_const : (Ty → Bool) → List Member → Bool
any_const deeper [] = false
any_const deeper (m ∷ ms) = m.qual.is_const || deeper m.ty || any_const deeper ms

abbrev pub members_const : (Ty → Bool) → Option (List Member) → Bool
members_const deeper None = false
members_const deeper (Some ms) = any_const deeper ms

abbrev pub info_const : (Ty → Bool) → Option TagInfo → Bool
info_const deeper None = false
info_const deeper (Some info) = members_const deeper info.members

-- the elements of an array, of whatever dimensions; none where those of some dimension are const
abbrev pub innermost : Ty → Option Ty
innermost (Array_of t q n) = if q.is_const then None else innermost t
innermost t = Some t

abbrev pub element_const : (TagId → Bool) → Option Ty → Bool
element_const tagged (Some (Tagged_type id)) = tagged id
element_const tagged (Some t) = false
element_const tagged None = true

abbrev pub type_const : (TagId → Bool) → Ty → Bool
type_const tagged t = element_const tagged (innermost t)

abbrev pub const_in : ℕ → Tagging → List TagId → TagId → Bool
const_in zero tags inside id = false
const_in (suc n) tags inside id =
    inside_or inside id false (info_const (λ t. type_const (λ other. const_in n tags (id ∷ inside) other) t) (lookup (same_tag id) tags))

unfoldable pub has_const : Tagging → Ty → Bool
has_const tags t = type_const (λ id. const_in most_tags tags [] id) t
