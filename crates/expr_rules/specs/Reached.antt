-- What a walk through members by value notes of the tags that it comes to, each of which it looks at once (ISO C11 6.3.2.1p1).
use Rattle.std.specs.Prelude.{List, [], ◌∷◌, Option, Some, None, if◌then◌else◌}
use Rattle.indexmap.specs.IndexSet.{insert_key}
use Rattle.type_data.specs.declared.members.Member.{Member}
use Rattle.type_data.specs.declared.members.TagInfo.{TagInfo}
use Rattle.type_data.specs.declared.names.TagId.{TagId}
use Rattle.type_data.specs.Same.{same_tag}
use Rattle.type_data.specs.Types.{Ty, Tagged_type}
use Rattle.expr_rules.specs.Members.{innermost}

-- the tags that are known after one more, or none where a const member was found
abbrev pub Seen : Type 0
Seen = Option (List TagId)

abbrev pub and_then : Seen → (List TagId → Seen) → Seen
and_then None further = None
and_then (Some seen) further = further seen

abbrev pub noted_element : List TagId → Option Ty → Seen
noted_element seen None = None
noted_element seen (Some (Tagged_type id)) = Some (insert_key same_tag seen id)
noted_element seen (Some t) = Some seen

abbrev pub noted_all : List TagId → List Member → Seen
noted_all seen [] = Some seen
noted_all seen (m ∷ ms) = if m.qual.is_const then None else and_then (noted_element seen (innermost m.ty)) (λ now. noted_all now ms)

abbrev pub noted_members : List TagId → Option (List Member) → Seen
noted_members seen None = Some seen
noted_members seen (Some ms) = noted_all seen ms

abbrev pub noted_info : List TagId → Option TagInfo → Seen
noted_info seen None = Some seen
noted_info seen (Some info) = noted_members seen info.members
