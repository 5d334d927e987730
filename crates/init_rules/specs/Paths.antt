-- Where a structure or union has the member that a designator names (ISO C11 6.7.9p7, 6.7.2.1p13: members of an anonymous one are its
-- own): the numbers of the members on the way to it, the outermost first.
use Rattle.std.specs.Prelude.{ℕ, suc, zero, nat_eq, drop, List, [], ◌∷◌, Option, Some, None, if◌then◌else◌}
use Rattle.std.specs.Cmp.Lexicographic.{pointwise}
use Rattle.std.specs.Map.{lookup}
use Rattle.type_data.specs.declared.members.Member.{Member}
use Rattle.type_data.specs.declared.members.TagInfo.{TagInfo}
use Rattle.type_data.specs.declared.names.TagId.{TagId}
use Rattle.type_data.specs.Same.{same_tag}
use Rattle.type_data.specs.Types.{Ty, Tagged_type}
use Rattle.type_rel.specs.Kinds.{Tagging}
use Rattle.type_rel.specs.Inside.{inside_or, most_tags}
use Rattle.init_rules.specs.Parts.{after}

abbrev pub Path : Type 0
Path = Option (List ℕ)

abbrev pub below : ℕ → Path → Path
below n None = None
below n (Some path) = Some (n ∷ path)

abbrev pub anonymous : (TagId → Path) → ℕ → Ty → Path
anonymous enter n (Tagged_type id) = below n (enter id)
anonymous enter n t = None

-- by the member's own name
abbrev pub named : (TagId → Path) → List ℕ → ℕ → Ty → Option (List ℕ) → Path
named enter name n t (Some own) = if pointwise nat_eq own name then Some (n ∷ []) else None
named enter name n t None = anonymous enter n t

abbrev pub or_path : Path → Path → Path
or_path (Some path) others = Some path
or_path None others = others

-- among members that are numbered from here on
abbrev pub among : (TagId → Path) → List ℕ → ℕ → List Member → Path
among enter name n [] = None
among enter name n (m ∷ ms) = or_path (named enter name n m.ty m.name) (among enter name (after n) ms)

abbrev pub of_members : (TagId → Path) → List ℕ → Option (List Member) → Path
of_members enter name None = None
of_members enter name (Some ms) = among enter name 0 ms

abbrev pub of_info : (TagId → Path) → List ℕ → Option TagInfo → Path
of_info enter name None = None
of_info enter name (Some info) = of_members enter name info.members

-- by a bound on how deep tags are inside of one another
abbrev pub path_in : ℕ → Tagging → List TagId → List ℕ → TagId → Path
path_in zero tags inside name id = None
path_in (suc n) tags inside name id =
    inside_or inside id None (of_info (λ other. path_in n tags (id ∷ inside) name other) name (lookup (same_tag id) tags))

-- a name stands for one member, so it may be looked for from any one on: here from the next
abbrev pub from_next : (TagId → Path) → List ℕ → ℕ → Option (List Member) → Path
from_next enter name next None = None
from_next enter name next (Some ms) = or_path (among enter name next (drop next ms)) (among enter name 0 ms)

abbrev pub in_info : (TagId → Path) → List ℕ → ℕ → Option TagInfo → Path
in_info enter name next None = None
in_info enter name next (Some info) = from_next enter name next info.members

unfoldable pub path : Tagging → List ℕ → ℕ → TagId → Path
path tags name next id = in_info (λ other. path_in most_tags tags (id ∷ []) name other) name next (lookup (same_tag id) tags)
