-- Tags without a body, and typedef names, as type specifiers (ISO C11 6.7.2.3, 6.7.8).
use Rattle.std.specs.Prelude.{ℕ, Bool, true, false, List, [], ◌∷◌, bytes_eq, codes, Option, Some, None, if◌then◌else◌}
use Rattle.asking.specs.Asking.{Gives, and_then}
use Rattle.scope_tables.specs.declared.bindings.Binding.{Binding}
use Rattle.scope_tables.specs.declared.entities.Anchor.{Anchor}
use Rattle.scope_tables.specs.declared.entities.Anchor.TheVariants as anchor
use Rattle.scope_tables.specs.declared.entities.Entity.{Entity}
use Rattle.scope_tables.specs.declared.entities.EntityKind.{EntityKind}
use Rattle.scope_tables.specs.declared.entities.EntityKind.TheVariants as kind
use Rattle.scope_tables.specs.declared.entities.Life.TheVariants as life
use Rattle.scope_tables.specs.declared.entities.Linkage.TheVariants as linkage
use Rattle.scope_tables.specs.declared.entities.Role.TheVariants as role
use Rattle.type_data.specs.declared.members.Space.TheVariants as space
use Rattle.type_data.specs.declared.members.TagInfo.{TagInfo}
use Rattle.type_data.specs.declared.members.TagKind.{TagKind}
use Rattle.type_data.specs.declared.members.TagKind.TheVariants as tag_kind
use Rattle.type_data.specs.declared.names.TagId.{TagId}
use Rattle.type_data.specs.Types.{Ty, Enumerated_type, Tagged_type}
use Rattle.type_rel.specs.Completeness.{is_complete}
use Rattle.type_rel.specs.Kinds.{unqualified}
use Rattle.elab_state.specs.Binds.{bound}
use Rattle.elab_state.specs.declared.made.Made.{Made}
use Rattle.elab_state.specs.Doings.{Doing, fault, follow, gives, with_entity, with_fault}
use Rattle.elab_state.specs.Looks.{told, with_tag}
use Rattle.elab_state.specs.Names.{denoted, occurs, used}
use Rattle.elab_state.specs.Tokens.{spelling}
use Rattle.elab_core.specs.declared.shapes.Typed.{Typed}
use Rattle.elab_core.specs.declared.tags.Mention.{Mention}
use Rattle.elab_core.specs.declared.tags.Mention.TheVariants as mention
use Rattle.elab_state.specs.Contexts.{Context, own_tag, own_token}
use Rattle.elab_core.specs.Specifiers.{typed}

-- ---- typedef names

-- the type of a typedef name; none of what is no typedef name here
abbrev pub named_type : EntityKind → Entity → Option Typed
named_type kind.Typedef e = Some (typed e.ty e.qual)
named_type kind.Object e = None
named_type kind.Function e = None
named_type (kind.Tag id info) e = None
named_type kind.Enumerator e = None
named_type kind.Member e = None
named_type kind.Label e = None

abbrev pub typedef_found : Context → Bool → ℕ → Option Entity → Made → Option Typed × Made
typedef_found c counted n (Some e) m = (named_type e.kind e, used c counted n e m)
typedef_found c counted n None m = (None, m)

abbrev pub typedef_name : Context → Bool → ℕ → Made → Doing (Option Typed)
typedef_name c counted n m = follow (denoted c space.Ordinary (spelling c.tokens n) m) (λ e now. Gives (typedef_found c counted n e now))

-- ---- tags

-- by the keyword
unfoldable pub keyword_kind : List ℕ → TagKind
keyword_kind text =
    if bytes_eq text (codes "struct") then tag_kind.Struct
    else if bytes_eq text (codes "union") then tag_kind.Union
    else tag_kind.Enum

abbrev pub same_kind : TagKind → TagKind → Bool
same_kind tag_kind.Struct tag_kind.Struct = true
same_kind tag_kind.Struct tag_kind.Union = false
same_kind tag_kind.Struct tag_kind.Enum = false
same_kind tag_kind.Union tag_kind.Struct = false
same_kind tag_kind.Union tag_kind.Union = true
same_kind tag_kind.Union tag_kind.Enum = false
same_kind tag_kind.Enum tag_kind.Struct = false
same_kind tag_kind.Enum tag_kind.Union = false
same_kind tag_kind.Enum tag_kind.Enum = true

abbrev pub of_kind : TagKind → TagId → Ty
of_kind tag_kind.Struct id = Tagged_type id
of_kind tag_kind.Union id = Tagged_type id
of_kind tag_kind.Enum id = Enumerated_type id

-- what is known of a tag without a body
abbrev pub unknown_info : TagKind → List ℕ → TagInfo
unknown_info k name = record { kind = k; name = Some name; members = None; layout = None }

abbrev pub tag_entity : Context → TagKind → ℕ → Entity
tag_entity c k n = record {
  name = spelling c.tokens n;
  kind = kind.Tag (own_tag c n) (unknown_info k (spelling c.tokens n));
  ty = of_kind k (own_tag c n);
  qual = unqualified;
  linkage = linkage.None;
  life = life.Without;
  value = None;
  anchor = anchor.Local (own_token c n);
}

abbrev pub tag_binding : Entity → Binding
tag_binding e = record { space = space.Tags; name = e.name; entity = e }

abbrev pub bound_tag : Entity → Made → Made
bound_tag e m = bound (tag_binding e) m

-- 6.2.1p7: its scope begins here
abbrev pub declared_tag : Context → TagKind → ℕ → Entity → Made → Made
declared_tag c k n e m = with_entity e (with_tag (own_tag c n) (unknown_info k e.name) (bound_tag e (occurs c n e.anchor role.Declares m)))

abbrev pub new_tag : Context → TagKind → ℕ → Made → Option Typed × Made
new_tag c k n m = (Some (typed (of_kind k (own_tag c n)) unqualified), declared_tag c k n (tag_entity c k n) m)

abbrev pub tag_fault : ℕ → Context → ℕ → Made → Made
tag_fault rule c n m = with_fault (fault rule n (spelling c.tokens n ∷ []) []) m

-- 6.7.2.3p3: an enumeration stands behind its enumerators alone
abbrev pub not_visible : Context → TagKind → ℕ → Made → Option Typed × Made
not_visible c tag_kind.Struct n m = new_tag c tag_kind.Struct n m
not_visible c tag_kind.Union n m = new_tag c tag_kind.Union n m
not_visible c tag_kind.Enum n m = (None, tag_fault 414 c n m)

abbrev pub enum_now : Context → ℕ → TagId → Made → Option Typed × Made
enum_now c n id m =
    if is_complete m.tags (Enumerated_type id) then (Some (typed (Enumerated_type id) unqualified), m) else (None, tag_fault 414 c n m)

abbrev pub visible_enum : Context → ℕ → TagId → Made → Doing (Option Typed)
visible_enum c n id m = and_then (told c.item id m) (λ now. Gives (enum_now c n id now))

abbrev pub tagged : TagId → Option Typed
tagged id = Some (typed (Tagged_type id) unqualified)

abbrev pub visible_tag : Context → TagKind → ℕ → TagId → Made → Doing (Option Typed)
visible_tag c tag_kind.Struct n id m = gives (tagged id) m
visible_tag c tag_kind.Union n id m = gives (tagged id) m
visible_tag c tag_kind.Enum n id m = visible_enum c n id m

-- 6.7.2.3p2: each mention has the kind of the declaration; the token of another one denotes the tag all the same
abbrev pub other_kind : Context → ℕ → Anchor → Made → Made
other_kind c n a m = occurs c n a role.Uses (tag_fault 412 c n m)

abbrev pub mentioned_tag : Context → TagKind → ℕ → Anchor → TagId → TagKind → Made → Doing (Option Typed)
mentioned_tag c k n a id had m = if same_kind had k then visible_tag c k n id (occurs c n a role.Uses m) else gives None (other_kind c n a m)

-- what the name denotes, as far as it is asked
abbrev pub mention_as : Anchor → EntityKind → Mention
mention_as a (kind.Tag id info) = mention.Tag a id info.kind
mention_as a kind.Object = mention.Other
mention_as a kind.Function = mention.Other
mention_as a kind.Typedef = mention.Other
mention_as a kind.Enumerator = mention.Other
mention_as a kind.Member = mention.Other
mention_as a kind.Label = mention.Other

abbrev pub mention_of : Option Entity → Mention
mention_of (Some e) = mention_as e.anchor e.kind
mention_of None = mention.Nothing

abbrev pub tag_found : Context → TagKind → ℕ → Mention → Made → Doing (Option Typed)
tag_found c k n mention.Nothing m = Gives (not_visible c k n m)
tag_found c k n mention.Other m = gives None m
tag_found c k n (mention.Tag a id had) m = mentioned_tag c k n a id had m

abbrev pub mentioned : Context → List ℕ → Made → Doing Mention
mentioned c name m = follow (denoted c space.Tags name m) (λ e. gives (mention_of e))

-- `keyword` is `struct`, `union` or `enum`, and n the tag behind it
abbrev pub tag : Context → ℕ → ℕ → Made → Doing (Option Typed)
tag c keyword n m =
    follow (mentioned c (spelling c.tokens n) m) (λ e now. tag_found c (keyword_kind (spelling c.tokens keyword)) n e now)
