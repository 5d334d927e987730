-- A tag with a body (ISO C11 6.7.2.1, 6.7.2.2, 6.7.2.3): which one it defines, and what is known of it behind its members.
use Rattle.std.specs.Prelude.{ℕ, Bool, true, false, ◌||◌, List, Option, Some, None, if◌then◌else◌}
use Rattle.std.specs.List.{list_any}
use Rattle.std.specs.Map.{lookup}
use Rattle.scope_tables.specs.declared.entities.Entity.{Entity}
use Rattle.scope_tables.specs.declared.entities.EntityKind.{EntityKind}
use Rattle.scope_tables.specs.declared.entities.EntityKind.TheVariants as kind
use Rattle.type_data.specs.declared.members.Member.{Member}
use Rattle.type_data.specs.declared.members.TagInfo.{TagInfo}
use Rattle.type_data.specs.declared.members.TagKind.{TagKind}
use Rattle.type_data.specs.declared.members.TagKind.TheVariants as tag_kind
use Rattle.type_data.specs.declared.names.TagId.{TagId}
use Rattle.type_data.specs.Layouts.{Laid}
use Rattle.type_data.specs.Same.{same_tag}
use Rattle.type_rel.specs.Completeness.{has_members}
use Rattle.type_rel.specs.Kinds.{Tagging}
use Rattle.type_rel.specs.Layout.{layout}
use Rattle.head_rules.specs.declared.naming.NameToken.{NameToken}
use Rattle.head_rules.specs.declared.outcomes.Begun.{Begun}
use Rattle.head_rules.specs.declared.outcomes.Begun.TheVariants as begins
use Rattle.head_rules.specs.Faults.{of_name}

abbrev pub same_kind : TagKind → TagKind → Bool
same_kind tag_kind.Struct tag_kind.Struct = true
same_kind tag_kind.Struct tag_kind.Union = false
same_kind tag_kind.Struct tag_kind.Enum = false
same_kind tag_kind.Union tag_kind.Struct = false
same_kind tag_kind.Union tag_kind.Union = true
same_kind tag_kind.Union tag_kind.Enum = false
same_kind tag_kind.Enum tag_kind.Struct = false
same_kind tag_kind.Enum tag_kind.Union = false
same_kind tag_kind.Enum tag_kind.Enum = true

-- p1: a type has its content defined once; a body of it that stands round this one is one, too
abbrev pub is_defined : Tagging → List TagId → TagId → Bool
is_defined tags round id = list_any (same_tag id) round || has_members (lookup (same_tag id) tags)

abbrev pub again : NameToken → Tagging → List TagId → TagId → Begun
again n tags round id = if is_defined tags round id then begins.Refused (of_name 413 n.id.at n.name) else begins.Again id

-- p2: of one kind
abbrev pub by_kind : TagKind → NameToken → Tagging → List TagId → EntityKind → Begun
by_kind k n tags round (kind.Tag id info) = if same_kind info.kind k then again n tags round id else begins.Refused (of_name 412 n.id.at n.name)
by_kind k n tags round kind.Object = begins.New
by_kind k n tags round kind.Function = begins.New
by_kind k n tags round kind.Typedef = begins.New
by_kind k n tags round kind.Enumerator = begins.New
by_kind k n tags round kind.Member = begins.New
by_kind k n tags round kind.Label = begins.New

-- p4: the tag of its scope, where there is one
abbrev pub begun : TagKind → NameToken → Option Entity → Tagging → List TagId → Begun
begun k n None tags round = begins.New
begun k n (Some e) tags round = by_kind k n tags round e.kind

-- ---- behind its members

abbrev pub laid : TagKind → List Member → Tagging → Option Laid
laid tag_kind.Struct ms tags = layout tag_kind.Struct ms tags
laid tag_kind.Union ms tags = layout tag_kind.Union ms tags
laid tag_kind.Enum ms tags = None

-- p4: it is complete from here on
abbrev pub completed : TagKind → Option (List ℕ) → List Member → Tagging → TagInfo
completed k name ms tags = record { kind = k; name = name; members = Some ms; layout = laid k ms tags }
