-- Which tags of earlier items a row tests for their members, size or completeness (ISO C11 6.2.5, 6.7.2.1), in the order in which it
-- does: these are asked for, and what is known of them is noted among the tags.
use Rattle.std.specs.Prelude.{ℕ, zero, suc, ◌+◌, Bool, ◌||◌, is_some, List, [], ◌∷◌, Option, Some, None, slice_get, if◌then◌else◌}
use Rattle.std.specs.Map.{lookup}
use Rattle.asking.specs.Asking.{Asking, Gives, and_then, asks_one}
use Rattle.indexmap.specs.IndexMap.{insert_entry}
use Rattle.indexmap.specs.IndexSet.{insert_key}
use Rattle.scope_tables.specs.declared.entities.Entity.{Entity}
use Rattle.scope_tables.specs.declared.entities.EntityKind.{EntityKind}
use Rattle.scope_tables.specs.declared.entities.EntityKind.TheVariants as kind
use Rattle.type_data.specs.declared.members.Member.{Member}
use Rattle.type_data.specs.declared.members.TagInfo.{TagInfo}
use Rattle.type_data.specs.declared.names.ItemName.{ItemName}
use Rattle.type_data.specs.declared.names.TagId.{TagId}
use Rattle.type_data.specs.Same.{same_tag}
use Rattle.type_data.specs.Types.{Ty, Void_type, Basic_type, Enumerated_type, Tagged_type, Pointer_to, Array_of, Function_of, Bad_type}
use Rattle.type_rel.specs.Inside.{most_tags}
use Rattle.type_rel.specs.Kinds.{Tagging}
use Rattle.elab_state.specs.Doings.{Made}
use Rattle.elab_state.specs.Same.{same_item}
use Rattle.elab_state.specs.Wants.{members_of, wants}

-- What a row tests: whether a type is complete, or its size; what objects of it hold by value, at any depth; the members of a
-- structure or union, those of its anonymous ones among them.
pub data Look : Type 0 where
  At : Ty → Look
  Deep : Ty → Look
  Anonymous : TagId → Look

-- ---- one tag

-- what the item itself declares is among the tags
abbrev pub is_told : ItemName → TagId → Tagging → Bool
is_told item id tags = same_item id.item item || is_some (lookup (same_tag id) tags)

abbrev pub with_tag : TagId → TagInfo → Made → Made
with_tag id info m = record m { tags = insert_entry same_tag m.tags id info }

abbrev pub learned_as : TagId → EntityKind → Made → Made
learned_as id (kind.Tag other info) m = with_tag id info m
learned_as id kind.Object m = m
learned_as id kind.Function m = m
learned_as id kind.Typedef m = m
learned_as id kind.Enumerator m = m
learned_as id kind.Member m = m
learned_as id kind.Label m = m

abbrev pub learned : TagId → Option Entity → Made → Made
learned id (Some e) m = learned_as id e.kind m
learned id None m = m

abbrev pub told : ItemName → TagId → Made → Asking wants Made
told item id m = if is_told item id m.tags then Gives m else asks_one (members_of id) (λ answer. Gives (learned id answer m))

-- ---- the tag of a type, or of the elements of an array

abbrev pub tag_of : Ty → Option TagId
tag_of (Array_of t q n) = tag_of t
tag_of (Enumerated_type id) = Some id
tag_of (Tagged_type id) = Some id
tag_of Void_type = None
tag_of (Basic_type b) = None
tag_of (Pointer_to t q) = None
tag_of (Function_of t ps p) = None
tag_of Bad_type = None

-- that of a structure or union
abbrev pub holder : Ty → Option TagId
holder (Array_of t q n) = holder t
holder (Tagged_type id) = Some id
holder (Enumerated_type id) = None
holder Void_type = None
holder (Basic_type b) = None
holder (Pointer_to t q) = None
holder (Function_of t ps p) = None
holder Bad_type = None

-- ---- from a tag on to those of its members

-- by value
abbrev pub held : Member → Option TagId
held m = holder m.ty

-- 6.7.2.1p13: a structure or union without a name
abbrev pub tagged : Ty → Option TagId
tagged (Tagged_type id) = Some id
tagged (Array_of t q n) = None
tagged (Enumerated_type id) = None
tagged Void_type = None
tagged (Basic_type b) = None
tagged (Pointer_to t q) = None
tagged (Function_of t ps p) = None
tagged Bad_type = None

abbrev pub unnamed : Member → Option TagId
unnamed m = if is_some m.name then None else tagged m.ty

abbrev pub reached : List TagId → Option TagId → List TagId
reached ids None = ids
reached ids (Some id) = insert_key same_tag ids id

abbrev pub reached_all : (Member → Option TagId) → List TagId → List Member → List TagId
reached_all leads ids [] = ids
reached_all leads ids (m ∷ ms) = reached_all leads (reached ids (leads m)) ms

abbrev pub reached_members : (Member → Option TagId) → List TagId → Option (List Member) → List TagId
reached_members leads ids None = ids
reached_members leads ids (Some ms) = reached_all leads ids ms

abbrev pub reached_info : (Member → Option TagId) → List TagId → Option TagInfo → List TagId
reached_info leads ids None = ids
reached_info leads ids (Some info) = reached_members leads ids info.members

abbrev pub if_any : Option TagId → (TagId → Asking wants Made) → Made → Asking wants Made
if_any None on m = Gives m
if_any (Some id) on m = on id

-- each tag that is come to, once, in the order in which they are come to; no memory holds as many as the bound
abbrev pub walked : ℕ → (Member → Option TagId) → ItemName → List TagId → ℕ → Made → Asking wants Made
walked zero leads item ids at m = Gives m
walked (suc n) leads item ids at m =
    if_any (slice_get ids at) (λ id. and_then (told item id m) (λ now.
    walked n leads item (reached_info leads ids (lookup (same_tag id) now.tags)) (at + 1) now)) m

abbrev pub walk_from : (Member → Option TagId) → ItemName → TagId → Made → Asking wants Made
walk_from leads item id m = walked most_tags leads item (id ∷ []) 0 m

-- ---- what a row tests

abbrev pub look : ItemName → Look → Made → Asking wants Made
look item (At t) m = if_any (tag_of t) (λ id. told item id m) m
look item (Deep t) m = if_any (holder t) (λ id. walk_from held item id m) m
look item (Anonymous id) m = walk_from unnamed item id m
