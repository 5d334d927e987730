-- One declarator of a declaration (ISO C11 6.7p5): what its name denotes from here on, and its initializer (6.7.9).
use Rattle.std.specs.Prelude.{ℕ, Bool, true, false, ◌&&◌, ◌||◌, not, is_none, is_some, Option, Some, None, Result, Ok, Err, if◌then◌else◌}
use Rattle.asking.specs.Asking.{Asking, Gives, and_then}
use Rattle.decl_rules.specs.Declarations as decl
use Rattle.decl_rules.specs.declared.parts.DeclParts.{DeclParts}
use Rattle.decl_rules.specs.declared.parts.Storage.{Storage}
use Rattle.decl_rules.specs.declared.parts.Storage.TheVariants as storage
use Rattle.head_rules.specs.Roles.{how_of, needs_constants, place_of, refused_how, role_of}
use Rattle.head_rules.specs.declared.roles.Declaring.{Declaring}
use Rattle.head_rules.specs.declared.roles.Places.{Places}
use Rattle.init_rules.specs.Extents.{completed}
use Rattle.scope_tables.specs.Scopes.{here}
use Rattle.scope_tables.specs.declared.entities.Entity.{Entity}
use Rattle.scope_tables.specs.declared.entities.Role.{Role}
use Rattle.scope_tables.specs.declared.entities.ScopeKind.{ScopeKind}
use Rattle.scope_tables.specs.declared.meanings.How.{How}
use Rattle.scope_tables.specs.declared.meanings.Stated.{Stated}
use Rattle.type_data.specs.declared.judged.CheckError.{CheckError}
use Rattle.type_data.specs.declared.judged.CheckError.TheVariants.{Broken, NoMemory}
use Rattle.type_data.specs.declared.judged.Fault.{Fault}
use Rattle.type_data.specs.declared.members.Space.TheVariants as space
use Rattle.type_data.specs.Types.{Ty, Void_type, Basic_type, Enumerated_type, Tagged_type, Pointer_to, Array_of, Function_of, Bad_type}
use Rattle.type_rel.specs.Completeness.{is_open_array}
use Rattle.type_rel.specs.Kinds.{is_bad}
use Rattle.elab_state.specs.Contexts.{Context, number, own_token}
use Rattle.elab_state.specs.declared.made.Made.{Made}
use Rattle.elab_state.specs.Doings.{Doing, gives, scope_kind, with_entity, with_fault}
use Rattle.elab_state.specs.Looks.{At, Deep, look}
use Rattle.elab_state.specs.Tokens.{spelling}
use Rattle.elab_state.specs.Wants.{wants}
use Rattle.elab_core.specs.Braced as braced
use Rattle.elab_core.specs.Braced.{is_file}
use Rattle.elab_core.specs.declared.shapes.Gathered.{Gathered}
use Rattle.elab_core.specs.declared.shapes.Filling.{Filling}
use Rattle.elab_core.specs.declared.shapes.Typed.{Typed}
use Rattle.elab_core.specs.Parameters.{bound_entity, declared_by, refused}
use Rattle.elab_core.specs.Specifiers.{is_function}

-- ---- what its rows read

-- the name is the token n; `body` says that it is one of a function definition, and `list` that parameters are listed next to the name
abbrev pub parts : Context → Gathered → ℕ → Typed → Bool → Bool → Bool → ScopeKind → DeclParts
parts c g n t init body list k = record {
  name = spelling c.tokens n;
  at = n;
  tok = own_token c n;
  made = false;
  storage = g.storage;
  inline = g.inline;
  noreturn = g.noreturn;
  thread = not (is_none g.thread_at);
  align = g.align.value;
  ty = t.ty;
  qual = t.qual;
  scope = k;
  has_init = init;
  has_body = body;
  has_list = list;
}

abbrev pub is_typedef : Storage → Bool
is_typedef storage.Typedef = true
is_typedef storage.None = false
is_typedef storage.Extern = false
is_typedef storage.Static = false
is_typedef storage.Auto = false
is_typedef storage.Register = false

abbrev pub is_extern : Storage → Bool
is_extern storage.Extern = true
is_extern storage.None = false
is_extern storage.Typedef = false
is_extern storage.Static = false
is_extern storage.Auto = false
is_extern storage.Register = false

abbrev pub declaring : DeclParts → Declaring
declaring d = record {
  is_typedef = is_typedef d.storage;
  is_function = is_function d.ty;
  is_extern = is_extern d.storage;
  has_init = d.has_init;
  has_body = d.has_body;
}

-- `begins` is the first token of the declaration
abbrev pub places : ℕ → Gathered → Places
places begins g = record {
  begins = begins;
  storage = g.storage_at;
  thread = g.thread_at;
  function = g.function_at;
  align = g.align.at;
}

abbrev pub placed : Places → Fault → Fault
placed p f = record f { at = place_of p f.rule f.at }

-- ---- which tags they test: 417 the size, 423 and 424 the completeness of the type, 421 that of a defined function's result

abbrev pub reads_type : DeclParts → Bool
reads_type d = is_some d.align || (d.has_init || not (is_file d.scope))

abbrev pub result_of : Ty → Ty
result_of (Function_of t ps p) = t
result_of Void_type = Void_type
result_of (Basic_type b) = Void_type
result_of (Enumerated_type id) = Void_type
result_of (Tagged_type id) = Void_type
result_of (Pointer_to t q) = Void_type
result_of (Array_of t q n) = Void_type
result_of Bad_type = Void_type

abbrev pub look_type : Context → DeclParts → Made → Asking wants Made
look_type c d m = if reads_type d then look c.item (At d.ty) m else Gives m

abbrev pub look_result : Context → DeclParts → Made → Asking wants Made
look_result c d m = if d.has_body then look c.item (At (result_of d.ty)) m else Gives m

abbrev pub looked : Context → DeclParts → Made → Asking wants Made
looked c d m = and_then (look_type c d m) (λ now. look_result c d now)

-- ---- the row

abbrev pub is_first : DeclParts → Made → Bool
is_first d m = is_none (here space.Ordinary d.name m.names)

abbrev pub role : DeclParts → Made → Role
role d m = role_of (declaring d) (is_first d m)

abbrev pub refused_with : Context → ℕ → Role → DeclParts → Fault → Made → Option Entity × Made
refused_with c n r d f m = (None, refused c r d (Some n) (with_fault f m))

abbrev pub accepted : Context → ℕ → Role → Entity → Made → Option Entity × Made
accepted c n r e m = (Some e, declared_by c n r e m)

-- the entity, where it isn't refused
abbrev pub by_answer : Context → Places → ℕ → Role → DeclParts → Result Entity CheckError → Made → Option Entity × Made
by_answer c p n r d (Ok e) m = accepted c n r e m
by_answer c p n r d (Err (Broken f)) m = refused_with c n r d (placed p f) m
by_answer c p n r d (Err NoMemory) m = (None, m)

abbrev pub declared_as : Context → Places → ℕ → Role → DeclParts → Made → Option Entity × Made
declared_as c p n r d m = by_answer c p n r d (decl.declared m.names d m.tags) m

abbrev pub declared : Context → Places → ℕ → DeclParts → Made → Option Entity × Made
declared c p n d m = declared_as c p n (role d m) d m

abbrev pub declarator : Context → Places → ℕ → DeclParts → Made → Doing (Option Entity)
declarator c p n d m = and_then (looked c d m) (λ now. Gives (declared c p n d now))

-- ---- what a declaration at file scope states of an object or function (6.9.1, 6.9.2); one that has a fault doesn't define it

abbrev pub is_sound : Option Entity → Bool
is_sound (Some e) = not (is_bad e.ty)
is_sound None = false

abbrev pub how : Declaring → Option Entity → How
how d e = if is_sound e then how_of d else refused_how (how_of d)

abbrev pub states : DeclParts → Bool
states d = is_file d.scope && not (is_typedef d.storage)

abbrev pub stated : Context → DeclParts → Option Entity → Option Stated
stated c d e = if states d then Some (record { name = d.name; at = number c d.at; how = how (declaring d) e }) else None

-- ---- its initializer: of what was refused nothing is checked

abbrev pub filling_of : Bool → Ty → Filling
filling_of constant t = record { state = braced.begun constant t; faulty = is_bad t }

abbrev pub first_filling : Option Entity → Filling
first_filling (Some e) = filling_of (needs_constants e.life) e.ty
first_filling None = filling_of false Bad_type

-- what objects of the type hold is known then, at any depth
abbrev pub look_inside : Context → Option Entity → Made → Asking wants Made
look_inside c (Some e) m = look c.item (Deep e.ty) m
look_inside c None m = Gives m

abbrev pub begun : Context → Option Entity → Made → Doing Filling
begun c e m = and_then (look_inside c e m) (λ now. gives (first_filling e) now)

-- 6.7.9p22: an array of no size gets the one that its initializer tells
abbrev pub with_type : Entity → Ty → Entity
with_type e t = record e { ty = t }

abbrev pub restated : Entity → Made → Made
restated e m = with_entity e (bound_entity e m)

abbrev pub sized : Entity → Filling → Made → Made
sized e f m = if is_open_array e.ty then restated (with_type e (completed f.state)) m else m

abbrev pub initialized : Option Entity → Filling → Made → Made
initialized (Some e) f m = sized e f m
initialized None f m = m
