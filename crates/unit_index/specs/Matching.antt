-- When types of two units are compatible (ISO C11 6.2.7p1). Structures, unions and enumerations match by their tags and members, all
-- those at once that lead to one another: some pairs of tags match where each of them has all that it needs among them.
use Rattle.std.specs.Prelude.{◌≡◌, ℕ, Bool, ◌&&◌, List, [], Option, Some, None}
use Rattle.std.specs.Bool.{Decides}
use Rattle.std.specs.Map.{lookup}
use Rattle.type_data.specs.declared.members.Member.{Member}
use Rattle.type_data.specs.declared.members.TagInfo.{TagInfo}
use Rattle.type_data.specs.declared.members.TagKind.{TagKind}
use Rattle.type_data.specs.contracts.members.TagKindPartialEq.TheImpl as kinds
use Rattle.type_data.specs.Same.{same_tag}
use Rattle.type_data.specs.Types.{Ty}
use Rattle.type_rel.specs.Inside.{most_tags}
use Rattle.unit_index.specs.declared.pairs.TagPair.{TagPair}
use Rattle.unit_index.specs.Closing.{each, Met, stands}
use Rattle.unit_index.specs.Handles.{Tagging}
use Rattle.unit_index.specs.Members.{members_need, same_name}
use Rattle.unit_index.specs.Needs.{Needed, needs, provided}
use Rattle.unit_index.specs.Pairs.{same_pair}

-- a tag of which nothing is known counts as one of this kind, without a name and incomplete
abbrev pub kind_of : TagKind → Option TagInfo → TagKind
kind_of k None = k
kind_of k (Some info) = info.kind

abbrev pub name_of : Option TagInfo → Option (List ℕ)
name_of None = None
name_of (Some info) = info.name

abbrev pub members_of : Option TagInfo → Option (List Member)
members_of None = None
members_of (Some info) = info.members

abbrev pub same_kind : TagKind → TagKind → Bool
same_kind k l = kinds.eq-value.it k l

abbrev pub same_head : TagKind → Option TagInfo → Option TagInfo → Bool
same_head k a b = same_kind (kind_of k a) (kind_of k b) && same_name (name_of a) (name_of b)

-- nothing more where one is incomplete at its unit's end
abbrev pub complete_need : TagKind → Tagging → Tagging → Option (List Member) → Option (List Member) → Needed → Needed
complete_need k ta tb None ys more = more
complete_need k ta tb (Some xs) None more = more
complete_need k ta tb (Some xs) (Some ys) more = members_need k ta tb xs ys more

abbrev pub tags_need : TagKind → Tagging → Tagging → Option TagInfo → Option TagInfo → Needed → Needed
tags_need k ta tb a b more = provided (same_head k a b) (complete_need (kind_of k a) ta tb (members_of a) (members_of b) more)

-- what a pair of tags needs
abbrev pub pair_needs : Tagging → Tagging → TagPair → Needed
pair_needs ta tb p = tags_need p.read_as ta tb (lookup (same_tag p.left) ta) (lookup (same_tag p.right) tb) (Some [])

-- what two types need
abbrev pub types_need : Ty → Ty → Needed
types_need a b = needs a b (Some [])

-- some pairs of tags match, with all that the types need among them: each of these pairs has what it needs among them too
abbrev pub Match : Tagging → Tagging → Ty → Ty → Type 0
Match ta tb a b = Met same_pair (pair_needs ta tb) (types_need a b)

abbrev pub Test : Type 0
Test = Tagging → Tagging → Ty → Ty → Bool

-- a test that tells which types match
abbrev pub IsExact : Test → Type 0
IsExact test = (ta tb : Tagging) (a b : Ty) → Decides (test ta tb a b) (Match ta tb a b)

-- one that goes so many steps at most: so far nothing is met that can't be helped. No memory holds as many pairs
unfoldable pub matched : Test
matched ta tb a b = each (stands (pair_needs ta tb) most_tags) (types_need a b)

-- what a comparison answers
pub record Told (ta tb : Tagging) (a b : Ty) (yes : Bool) : Type 0 where
  pub meant : Decides yes (Match ta tb a b)
  pub value : yes ≡ matched ta tb a b

-- a test that answers as a comparison does
abbrev pub IsTest : Test → Type 0
IsTest test = (ta tb : Tagging) (a b : Ty) (yes : Bool) → Told ta tb a b yes → yes ≡ test ta tb a b
