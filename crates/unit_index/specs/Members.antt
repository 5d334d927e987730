-- What members need for corresponding (ISO C11 6.2.7p1).
use Rattle.std.specs.Prelude.{ℕ, Bool, true, false, ◌&&◌, nat_eq, List, [], ◌∷◌, length, Option, Some, None}
use Rattle.std.specs.Cmp.Lexicographic.{pointwise}
use Rattle.std.specs.List.{filter}
use Rattle.std.specs.Ordering.{int_eq}
use Rattle.type_data.specs.declared.members.Member.{Member}
use Rattle.type_data.specs.declared.members.TagKind.{TagKind}
use Rattle.type_data.specs.declared.members.TagKind.TheVariants as kind
use Rattle.type_data.specs.declared.values.Value.{Value}
use Rattle.type_data.specs.declared.values.Value.TheVariants as value
use Rattle.type_data.specs.Same.{same_qual}
use Rattle.unit_index.specs.Handles.{Tagging, handle, is_nameless, partner}
use Rattle.unit_index.specs.Needs.{Needed, needs, provided}

abbrev pub same_name : Option (List ℕ) → Option (List ℕ) → Bool
same_name None None = true
same_name (Some a) (Some b) = pointwise nat_eq a b
same_name a b = false

-- a width or an alignment
abbrev pub same_number : Option ℕ → Option ℕ → Bool
same_number None None = true
same_number (Some m) (Some n) = nat_eq m n
same_number a b = false

-- one that isn't told agrees with each
abbrev pub values_agree : Option Value → Option Value → Bool
values_agree (Some (value.Known m)) (Some (value.Known n)) = int_eq m n
values_agree a b = true

abbrev pub same_form : Member → Member → Bool
same_form x y = same_name x.name y.name && same_number x.width y.width && same_number x.align y.align && values_agree x.value y.value

-- an enumerator's type isn't its enumeration's
abbrev pub types_need : TagKind → Member → Member → Needed → Needed
types_need kind.Enum x y more = more
types_need kind.Struct x y more = provided (same_qual x.qual y.qual) (needs x.ty y.ty more)
types_need kind.Union x y more = provided (same_qual x.qual y.qual) (needs x.ty y.ty more)

abbrev pub member_needs : TagKind → Member → Member → Needed → Needed
member_needs k x y more = provided (same_form x y) (types_need k x y more)

-- as many, each with that at its place
abbrev pub in_order : TagKind → List Member → List Member → Needed → Needed
in_order k [] [] more = more
in_order k (x ∷ xs) (y ∷ ys) more = member_needs k x y (in_order k xs ys more)
in_order k xs ys more = None

abbrev pub with_partner : TagKind → Member → Option Member → Needed → Needed
with_partner k x None more = None
with_partner k x (Some y) more = member_needs k x y more

abbrev pub by_handle : TagKind → (List ℕ → Option Member) → Option (List ℕ) → Member → Needed → Needed
by_handle k at None x more = more
by_handle k at (Some h) x more = with_partner k x (at h) more

-- each that has a handle, with the one that is found by it
abbrev pub by_handles : TagKind → Tagging → (List ℕ → Option Member) → List Member → Needed → Needed
by_handles k tags at [] more = more
by_handles k tags at (x ∷ xs) more = by_handle k at (handle tags x) x (by_handles k tags at xs more)

abbrev pub nameless : Tagging → List Member → List Member
nameless tags ms = filter (is_nameless tags) ms

-- as many; each with the one of its name, and those without a name in order
abbrev pub in_any_order : TagKind → Tagging → Tagging → List Member → List Member → Needed → Needed
in_any_order k ta tb xs ys more = provided (nat_eq (length xs) (length ys)) (by_handles k ta (partner tb ys) xs (in_order k (nameless ta xs) (nameless tb ys) more))

abbrev pub members_need : TagKind → Tagging → Tagging → List Member → List Member → Needed → Needed
members_need kind.Struct ta tb xs ys more = in_order kind.Struct xs ys more
members_need kind.Union ta tb xs ys more = in_any_order kind.Union ta tb xs ys more
members_need kind.Enum ta tb xs ys more = in_any_order kind.Enum ta tb xs ys more
