-- A tag with a body (ISO C11 6.7.2.3): which tag it defines, before its list is read, and what is known of it behind the list.
use Rattle.std.specs.Prelude.{ℕ, ◌==◌, ◌-◌, length, take, Bool, is_some, List, [], ◌∷◌, ◌++◌, Option, Some, None, if◌then◌else◌}
use Rattle.asking.specs.Asking.{Asking, Gives, and_then}
use Rattle.head_rules.specs.Bodies.{begun, completed}
use Rattle.head_rules.specs.declared.outcomes.Begun.{Begun}
use Rattle.head_rules.specs.declared.outcomes.Begun.TheVariants as begins
use Rattle.scope_tables.specs.Scopes.{here, or_outside}
use Rattle.scope_tables.specs.declared.entities.Anchor.{Anchor}
use Rattle.scope_tables.specs.declared.entities.Anchor.TheVariants as anchor
use Rattle.scope_tables.specs.declared.entities.Entity.{Entity}
use Rattle.scope_tables.specs.declared.entities.EntityKind.{EntityKind}
use Rattle.scope_tables.specs.declared.entities.EntityKind.TheVariants as kind
use Rattle.scope_tables.specs.declared.entities.Life.TheVariants as life
use Rattle.scope_tables.specs.declared.entities.Linkage.TheVariants as linkage
use Rattle.scope_tables.specs.declared.entities.Role.TheVariants as role
use Rattle.type_data.specs.declared.judged.Fault.{Fault}
use Rattle.type_data.specs.declared.members.Member.{Member}
use Rattle.type_data.specs.declared.members.Space.TheVariants as space
use Rattle.type_data.specs.declared.members.TagInfo.{TagInfo}
use Rattle.type_data.specs.declared.members.TagKind.{TagKind}
use Rattle.type_data.specs.declared.names.TagId.{TagId}
use Rattle.type_rel.specs.Kinds.{unqualified}
use Rattle.elab_state.specs.Contexts.{Context, own_tag, own_token}
use Rattle.elab_state.specs.declared.made.Made.{Made}
use Rattle.elab_state.specs.Doings.{Doing, follow, gives, scope_kind, with_entity, with_fault}
use Rattle.elab_state.specs.Looks.{if_any, told, with_tag}
use Rattle.elab_state.specs.Names.{denoted, occurs}
use Rattle.elab_state.specs.Tokens.{spelling}
use Rattle.elab_state.specs.Wants.{wants}
use Rattle.elab_core.specs.Braced.{is_file}
use Rattle.elab_core.specs.declared.shapes.Typed.{Typed}
use Rattle.elab_core.specs.declared.tag_bodies.OpenBody.{OpenBody}
use Rattle.elab_core.specs.Notes.{marked, name_token, renumbered}
use Rattle.elab_core.specs.Parameters.{anchor_of}
use Rattle.elab_core.specs.Specifiers.{typed}
use Rattle.elab_core.specs.Tags.{bound_tag, keyword_kind, of_kind, same_kind, tag_entity, unknown_info}

abbrev pub opened : TagKind → TagId → Option (List ℕ) → Option Entity → OpenBody
opened k id name e = record { kind = k; id = id; name = name; entity = e }

-- ---- p4: what the tag denotes in the same scope; at file scope an item in front may have declared it

-- the scope of a part that is judged by itself is that round it
abbrev pub round_it : Context → List ℕ → Made → Option Entity
round_it c name m = if length m.names == 1 then here space.Tags name c.outside else None

abbrev pub in_scope : Context → List ℕ → Made → Option Entity
in_scope c name m = or_outside (here space.Tags name m.names) (round_it c name m)

abbrev pub before : Context → List ℕ → Made → Doing (Option Entity)
before c name m = if is_file (scope_kind m) then denoted c space.Tags name m else gives (in_scope c name m) m

-- whether it is complete is tested of one of the same kind
abbrev pub of_same_kind : TagKind → EntityKind → Option TagId
of_same_kind k (kind.Tag id info) = if same_kind info.kind k then Some id else None
of_same_kind k kind.Object = None
of_same_kind k kind.Function = None
of_same_kind k kind.Typedef = None
of_same_kind k kind.Enumerator = None
of_same_kind k kind.Member = None
of_same_kind k kind.Label = None

abbrev pub tested_id : TagKind → Option Entity → Option TagId
tested_id k (Some e) = of_same_kind k e.kind
tested_id k None = None

abbrev pub tested : Context → TagKind → Option Entity → Made → Asking wants Made
tested c k e m = if_any (tested_id k e) (λ id. told c.item id m) m

-- ---- its beginning; 6.2.1p7: the scope of a tag begins here

abbrev pub new_tag : Context → TagKind → ℕ → Entity → Made → Made
new_tag c k n e m = with_tag (own_tag c n) (unknown_info k e.name) (bound_tag e (occurs c n e.anchor role.Defines m))

abbrev pub new_body : Context → TagKind → ℕ → Made → OpenBody × Made
new_body c k n m =
    (opened k (own_tag c n) (Some (spelling c.tokens n)) (Some (tag_entity c k n)), new_tag c k n (tag_entity c k n) m)

abbrev pub marked_again : Context → ℕ → Option Entity → Made → Made
marked_again c n e m = marked c n role.Defines (anchor_of e) m

abbrev pub again : Context → TagKind → ℕ → TagId → Option Entity → Made → OpenBody × Made
again c k n id e m = (opened k id (Some (spelling c.tokens n)) e, marked_again c n e m)

-- one that is refused is bound to no name; its list is read all the same
abbrev pub noted_refused : Context → ℕ → Option Anchor → Fault → Made → Made
noted_refused c n a f m = marked c n role.Defines a (with_fault (renumbered c f) m)

abbrev pub refused : Context → TagKind → ℕ → Option Entity → Fault → Made → OpenBody × Made
refused c k n e f m = (
  opened k (own_tag c n) (Some (spelling c.tokens n)) None,
  with_tag (own_tag c n) (unknown_info k (spelling c.tokens n)) (noted_refused c n (anchor_of e) f m),
)

abbrev pub by_row : Context → TagKind → ℕ → Option Entity → Begun → Made → OpenBody × Made
by_row c k n e begins.New m = new_body c k n m
by_row c k n e (begins.Again id) m = again c k n id e m
by_row c k n e (begins.Refused f) m = refused c k n e f m

abbrev pub row : Context → TagKind → ℕ → Option Entity → Made → Begun
row c k n e m = begun k (name_token c n) e m.tags m.round

-- the body stands round what is judged until its end
abbrev pub standing : TagId → Made → Made
standing id m = record m { round = m.round ++ id ∷ [] }

abbrev pub stands : OpenBody × Made → OpenBody × Made
stands r = (r.0, standing r.0.id r.1)

abbrev pub begun_by : Context → TagKind → ℕ → Option Entity → Made → OpenBody × Made
begun_by c k n e m = by_row c k n e (row c k n e m) m

abbrev pub begun_as : Context → TagKind → ℕ → Option Entity → Made → OpenBody × Made
begun_as c k n e m = stands (begun_by c k n e m)

abbrev pub begun_tested : Context → TagKind → ℕ → Option Entity → Made → Doing OpenBody
begun_tested c k n e m = and_then (tested c k e m) (λ now. Gives (begun_as c k n e now))

abbrev pub begun_named : Context → TagKind → ℕ → Made → Doing OpenBody
begun_named c k n m = follow (before c (spelling c.tokens n) m) (λ e now. begun_tested c k n e now)

-- without a tag it is told by its keyword
abbrev pub nameless_info : TagKind → TagInfo
nameless_info k = record { kind = k; name = None; members = None; layout = None }

abbrev pub nameless : Context → TagKind → ℕ → Entity
nameless c k n = record {
  name = [];
  kind = kind.Tag (own_tag c n) (nameless_info k);
  ty = of_kind k (own_tag c n);
  qual = unqualified;
  linkage = linkage.None;
  life = life.Without;
  value = None;
  anchor = anchor.Local (own_token c n);
}

abbrev pub nameless_body : Context → TagKind → ℕ → Made → OpenBody × Made
nameless_body c k n m =
    (opened k (own_tag c n) None (Some (nameless c k n)), with_tag (own_tag c n) (nameless_info k) m)

abbrev pub begun_nameless : Context → TagKind → ℕ → Made → OpenBody × Made
begun_nameless c k n m = stands (nameless_body c k n m)

-- `keyword` is `struct`, `union` or `enum`
abbrev pub begun_body : Context → ℕ → Option ℕ → Made → Doing OpenBody
begun_body c keyword (Some n) m = begun_named c (keyword_kind (spelling c.tokens keyword)) n m
begun_body c keyword None m = Gives (begun_nameless c (keyword_kind (spelling c.tokens keyword)) keyword m)

-- ---- its end: it is complete from here on

abbrev pub kind_of : TagId → TagInfo → EntityKind
kind_of id info = kind.Tag id info

abbrev pub completed_entity : TagId → TagInfo → Entity → Entity
completed_entity id info e = record e { kind = kind_of id info }

abbrev pub bound_if : Bool → Entity → Made → Made
bound_if named e m = if named then bound_tag e m else m

abbrev pub known : Bool → Entity → Made → Made
known named e m = with_entity e (bound_if named e m)

abbrev pub known_if : Bool → TagId → TagInfo → Option Entity → Made → Made
known_if named id info (Some e) m = known named (completed_entity id info e) m
known_if named id info None m = m

abbrev pub ended_by : Bool → TagId → TagInfo → Option Entity → Made → Made
ended_by named id info e m = known_if named id info e (with_tag id info m)

abbrev pub finished : OpenBody → List Member → Made → TagInfo
finished o ms m = completed o.kind o.name ms m.tags

abbrev pub left : Made → Made
left m = record m { round = take (length m.round - 1) m.round }

abbrev pub ended : OpenBody → List Member → Made → Made
ended o ms m = left (ended_by (is_some o.name) o.id (finished o ms m) o.entity m)

-- the type that it specifies; none where it was refused
abbrev pub type_of : OpenBody → Option Typed
type_of o = if is_some o.entity then Some (typed (of_kind o.kind o.id) unqualified) else None
