-- Where a body begins (ISO C11 6.2.1p4, 6.4.2.2p1, 6.9.1p9): its block is the scope of the parameters, and `__func__` is declared in it; what
-- the head declares at file scope stands round it.
use Rattle.std.specs.Prelude.{ℕ, ◌+◌, true, false, List, [], ◌∷◌, ◌++◌, length, bytes_eq, codes, Option, Some, None, if◌then◌else◌}
use Rattle.indexmap.specs.IndexMap.{insert_entry}
use Rattle.elab_state.specs.Contexts.{Context, own_token}
use Rattle.elab_state.specs.Doings.{begun}
use Rattle.elab_state.specs.declared.made.Made.{Made}
use Rattle.scope_tables.specs.Levels.{Scope}
use Rattle.scope_tables.specs.Scopes as scopes
use Rattle.scope_tables.specs.Scopes.{declared_in}
use Rattle.scope_tables.specs.declared.bindings.Binding.{Binding}
use Rattle.scope_tables.specs.declared.entities.Anchor.TheVariants as anchor
use Rattle.scope_tables.specs.declared.entities.Entity.{Entity}
use Rattle.scope_tables.specs.declared.entities.EntityKind.{EntityKind}
use Rattle.scope_tables.specs.declared.entities.EntityKind.TheVariants as kind
use Rattle.scope_tables.specs.declared.entities.Life.TheVariants as life
use Rattle.scope_tables.specs.declared.entities.Linkage.TheVariants as linkage
use Rattle.scope_tables.specs.declared.entities.ScopeKind.TheVariants.{Block, File, Function}
use Rattle.scope_tables.specs.declared.meanings.HeadMeaning.{HeadMeaning}
use Rattle.scope_tables.specs.declared.meanings.Stated.{Stated}
use Rattle.type_data.specs.declared.basics.Basic.TheVariants as basic
use Rattle.type_data.specs.declared.members.Space.{Space}
use Rattle.type_data.specs.declared.members.Space.TheVariants as space
use Rattle.type_data.specs.declared.qualifiers.Extent.TheVariants as extent
use Rattle.type_data.specs.declared.qualifiers.Qual.{Qual}
use Rattle.type_data.specs.Same.{same_tag}
use Rattle.type_data.specs.Types.{Ty, Bad_type, Basic_type, Array_of}
use Rattle.type_rel.specs.Kinds.{Tagging, unqualified}
use Rattle.stmt_checks.specs.Standings.{Standing, with_made}

abbrev pub all_declared : List Binding → List Scope → List Scope
all_declared [] ss = ss
all_declared (b ∷ bs) ss = all_declared bs (declared_in b ss)

-- ---- the function: what the head's declarator states it to be (6.9.1p2)

-- an ordinary name is this one
abbrev pub if_named : List ℕ → Binding → Option Entity
if_named name b = if bytes_eq b.name name then Some b.entity else None

abbrev pub ordinary_by : Space → List ℕ → Binding → Option Entity
ordinary_by space.Ordinary name b = if_named name b
ordinary_by space.Labels name b = None
ordinary_by space.Tags name b = None
ordinary_by (space.Members t) name b = None

abbrev pub or_before : Option Entity → Option Entity → Option Entity
or_before (Some e) before = Some e
or_before None before = before

-- the last binding of the name
abbrev pub last_named : List ℕ → Option Entity → List Binding → Option Entity
last_named name before [] = before
last_named name before (b ∷ bs) = last_named name (or_before (ordinary_by b.space name b) before) bs

abbrev pub function_in : List Stated → List Binding → Option Entity
function_in [] bs = None
function_in (s ∷ ss) bs = last_named s.name None bs

abbrev pub function_of : HeadMeaning → Option Entity
function_of h = function_in h.stated h.declared

abbrev pub type_of : Option Entity → Ty
type_of (Some e) = e.ty
type_of None = Bad_type

abbrev pub name_of : Option Entity → List ℕ
name_of (Some e) = e.name
name_of None = []

-- ---- what is known of tags: those that the head declares

abbrev pub tagged : EntityKind → Tagging → Tagging
tagged (kind.Tag id info) tags = insert_entry same_tag tags id info
tagged kind.Object tags = tags
tagged kind.Function tags = tags
tagged kind.Typedef tags = tags
tagged kind.Enumerator tags = tags
tagged kind.Member tags = tags
tagged kind.Label tags = tags

abbrev pub all_tags : List Entity → Tagging → Tagging
all_tags [] tags = tags
all_tags (e ∷ es) tags = all_tags es (tagged e.kind tags)

-- ---- 6.4.2.2p1: `static const char __func__[] = "function-name";` behind the `{`

abbrev pub constant : Qual
constant = record { is_const = true; is_restrict = false; is_volatile = false }

unfoldable pub text_type : List ℕ → Ty
text_type name = Array_of (Basic_type basic.Char) constant (extent.Size (length name + 1))

abbrev pub func : Context → List ℕ → Entity
func c name = record {
  name = codes "__func__";
  kind = kind.Object;
  ty = text_type name;
  qual = unqualified;
  linkage = linkage.None;
  life = life.Static;
  value = None;
  anchor = anchor.Local (own_token c 0);
}

abbrev pub func_binding : Context → List ℕ → Binding
func_binding c name = record { space = space.Ordinary; name = codes "__func__"; entity = func c name }

-- ---- all of it, in a function of this name: `ns` has the file scope with what the body's identifiers were answered, which the head hides

abbrev pub names : Context → HeadMeaning → List ℕ → List Scope → List Scope
names c head name ns =
    declared_in (func_binding c name)
    (all_declared head.params (scopes.entered Block (all_declared head.declared ns)))

abbrev pub made : Context → HeadMeaning → List ℕ → Made → Made
made c head name m = record m {
  names = names c head name m.names;
  tags = all_tags head.entities m.tags;
  entities = m.entities ++ func c name ∷ [];
}

abbrev pub opened : Context → HeadMeaning → Standing → Standing
opened c head st = with_made (made c head (name_of (function_of head)) st.made) st

-- nothing is known yet
abbrev pub nothing : Standing
nothing = record {
  made = begun File [];
  switches = [];
  labels = scopes.entered Function [];
}
