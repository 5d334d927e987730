-- The parts of an object, for which the initializers of its list are in turn (ISO C11 6.7.9p9, p11, p17).
use Rattle.std.specs.Prelude.{ℕ, Bool, true, false, not, ◌&&◌, ◌+◌, ◌-◌, ◌^◌, ◌==◌, nat_lt, is_none, is_some, drop, List, [], ◌∷◌, Option, Some, None, if◌then◌else◌}
use Rattle.std.specs.Map.{lookup}
use Rattle.type_data.specs.declared.members.Member.{Member}
use Rattle.type_data.specs.declared.members.TagInfo.{TagInfo}
use Rattle.type_data.specs.declared.members.TagKind.{TagKind}
use Rattle.type_data.specs.declared.members.TagKind.TheVariants as kind
use Rattle.type_data.specs.declared.qualifiers.Extent.{Extent}
use Rattle.type_data.specs.declared.qualifiers.Extent.TheVariants as extent
use Rattle.type_data.specs.Same.{same_tag}
use Rattle.type_data.specs.Types.{Ty, Tagged_type, Array_of, Bad_type}
use Rattle.type_rel.specs.Kinds.{Tagging}

-- a part by its number, with its type
pub record Part : Type 0 where
  pub number : ℕ
  pub ty : Ty

abbrev pub part_of : ℕ → Ty → Part
part_of n t = record { number = n; ty = t }

-- the number behind one of 128 bits; the greatest has none
unfoldable pub after : ℕ → ℕ
after n = if nat_lt n (2 ^ 128 - 1) then n + 1 else n

-- p9: an unnamed bit-field takes no part
abbrev pub is_skipped : Member → Bool
is_skipped m = is_none m.name && is_some m.width

-- of members that are numbered from here on, the first that takes part
abbrev pub first_part : ℕ → List Member → Option Part
first_part n [] = None
first_part n (m ∷ ms) = if is_skipped m then first_part (after n) ms else Some (part_of n m.ty)

abbrev pub is_union : TagKind → Bool
is_union kind.Union = true
is_union kind.Struct = false
is_union kind.Enum = false

-- p17: of a structure the members in turn, of a union the first one, or the one that is designated
abbrev pub of_members : Bool → ℕ → TagKind → List Member → Option Part
of_members designated next k ms =
    if is_union k && not designated && not (next == 0) then None else first_part next (drop next ms)

abbrev pub of_listed : Bool → ℕ → TagKind → Option (List Member) → Option Part
of_listed designated next k None = None
of_listed designated next k (Some ms) = of_members designated next k ms

abbrev pub of_tag : Bool → ℕ → Option TagInfo → Option Part
of_tag designated next None = None
of_tag designated next (Some info) = of_listed designated next info.kind info.members

-- of an array its elements, without end where its size isn't stated or isn't told
abbrev pub element : ℕ → Ty → Extent → Option Part
element next t (extent.Size n) = if nat_lt next n then Some (part_of next t) else None
element next t extent.None = Some (part_of next t)
element next t extent.Unknown = Some (part_of next t)

-- p11: of a scalar itself
abbrev pub itself : ℕ → Ty → Option Part
itself next t = if next == 0 then Some (part_of 0 t) else None

-- the part of an object of a type, from this number on; where it is designated, the number is that of the part
abbrev pub part_at : Tagging → Bool → Ty → ℕ → Option Part
part_at tags designated (Array_of t q n) next = element next t n
part_at tags designated (Tagged_type id) next = of_tag designated next (lookup (same_tag id) tags)
part_at tags designated t next = itself next t

-- 6.2.5p21: what has parts other than itself; of a type with a fault it isn't known
abbrev pub has_parts : Ty → Bool
has_parts (Array_of t q n) = true
has_parts (Tagged_type id) = true
has_parts Bad_type = true
has_parts t = false
