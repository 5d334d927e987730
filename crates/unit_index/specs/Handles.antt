-- By what a member of a union or enumeration is found in another one (ISO C11 6.2.7p1, 6.7.2.1p13): its name, or of a structure or
-- union without a name the least name of a member in it, which is a member's name of the whole and so stands in no other one.
use Rattle.std.specs.Prelude.{ℕ, Bool, false, not, is_some, List, [], ◌∷◌, Option, Some, None}
use Rattle.std.specs.Cmp.Lexicographic.{pointwise, slice_cmp}
use Rattle.std.specs.Map.{lookup}
use Rattle.std.specs.Ordering.{nat_cmp}
use Rattle.std.specs.declared.cmp.Ordering.{Ordering}
use Rattle.std.specs.declared.cmp.Ordering.TheVariants.{Less, Equal, Greater}
use Rattle.std.specs.Prelude.{nat_eq}
use Rattle.type_data.specs.declared.members.Member.{Member}
use Rattle.type_data.specs.declared.members.TagInfo.{TagInfo}
use Rattle.type_data.specs.declared.names.TagId.{TagId}
use Rattle.type_data.specs.Same.{same_tag}
use Rattle.type_data.specs.Types.{Ty, Void_type, Basic_type, Enumerated_type, Tagged_type, Pointer_to, Array_of, Function_of, Bad_type}
use Rattle.unit_index.specs.Firsts.{first_some, given, or_else}

abbrev pub Tagging : Type 0
Tagging = List (TagId × TagInfo)

abbrev pub by_order : Ordering → List ℕ → List ℕ → List ℕ
by_order Less a b = a
by_order Equal a b = b
by_order Greater a b = b

abbrev pub lesser : Option (List ℕ) → Option (List ℕ) → Option (List ℕ)
lesser None a = a
lesser (Some b) None = Some b
lesser (Some b) (Some a) = Some (by_order (slice_cmp nat_cmp a b) a b)

-- the least name of some members and of one besides
abbrev pub least : Option (List ℕ) → List Member → Option (List ℕ)
least best [] = best
least best (m ∷ ms) = least (lesser best m.name) ms

abbrev pub least_of_all : Option (List Member) → Option (List ℕ)
least_of_all None = None
least_of_all (Some ms) = least None ms

abbrev pub least_of : Option TagInfo → Option (List ℕ)
least_of None = None
least_of (Some info) = least_of_all info.members

abbrev pub inner : Tagging → Ty → Option (List ℕ)
inner tags (Tagged_type id) = least_of (lookup (same_tag id) tags)
inner tags Void_type = None
inner tags (Basic_type b) = None
inner tags (Enumerated_type id) = None
inner tags (Pointer_to t q) = None
inner tags (Array_of t q n) = None
inner tags (Function_of t ps p) = None
inner tags Bad_type = None

abbrev pub handle : Tagging → Member → Option (List ℕ)
handle tags m = or_else m.name (inner tags m.ty)

abbrev pub same_text : List ℕ → List ℕ → Bool
same_text a b = pointwise nat_eq a b

abbrev pub is_handle : Option (List ℕ) → List ℕ → Bool
is_handle None q = false
is_handle (Some h) q = same_text h q

abbrev pub is_nameless : Tagging → Member → Bool
is_nameless tags m = not (is_some (handle tags m))

abbrev pub one : Tagging → List ℕ → Member → Option Member
one tags q m = given (is_handle (handle tags m) q) m

-- the first one that is found so
abbrev pub partner : Tagging → List Member → List ℕ → Option Member
partner tags ms q = first_some (one tags q) ms
