-- Parameters (ISO C11 6.7.6.3), one after another, in a scope of their own.
use Rattle.std.specs.Prelude.{ℕ, Bool, true, false, ◌&&◌, ◌||◌, not, ◌==◌, is_none, List, [], ◌∷◌, Option, Some, None, Result, Ok, Err, if◌then◌else◌}
use Rattle.decl_rules.specs.declared.parts.DeclParts.{DeclParts}
use Rattle.decl_rules.specs.Declarations.{declared}
use Rattle.init_rules.specs.Stacks.{bottom}
use Rattle.scope_tables.specs.Scopes as scopes
use Rattle.scope_tables.specs.Scopes.{here}
use Rattle.scope_tables.specs.declared.bindings.Binding.{Binding}
use Rattle.scope_tables.specs.declared.entities.Anchor.{Anchor}
use Rattle.scope_tables.specs.declared.entities.Entity.{Entity}
use Rattle.scope_tables.specs.declared.entities.Role.{Role}
use Rattle.scope_tables.specs.declared.entities.Role.TheVariants as role
use Rattle.scope_tables.specs.declared.entities.ScopeKind.TheVariants as scope
use Rattle.type_data.specs.declared.judged.CheckError.{CheckError}
use Rattle.type_data.specs.declared.judged.CheckError.TheVariants.{Broken, NoMemory}
use Rattle.type_data.specs.declared.judged.Fault.{Fault}
use Rattle.type_data.specs.declared.members.Space.TheVariants as space
use Rattle.type_data.specs.declared.qualifiers.Proto.{Proto}
use Rattle.type_data.specs.declared.qualifiers.Qual.{Qual}
use Rattle.type_data.specs.Types as types
use Rattle.type_data.specs.Types.{Ty, Void_type, Basic_type, Enumerated_type, Tagged_type, Pointer_to, Array_of, Function_of, Bad_type}
use Rattle.type_rel.specs.Kinds.{is_bad, unqualified}
use Rattle.expr_rules.specs.Kinds.{is_void}
use Rattle.elab_state.specs.Binds.{bound}
use Rattle.elab_state.specs.declared.made.Made.{Made}
use Rattle.elab_state.specs.Doings.{with_entity, with_fault}
use Rattle.elab_state.specs.Names.{occurs}
use Rattle.elab_state.specs.Tokens.{spelling}
use Rattle.elab_core.specs.declared.shapes.Gathered.{Gathered}
use Rattle.elab_core.specs.declared.shapes.Step.{Step}
use Rattle.elab_core.specs.declared.shapes.Step.TheVariants as step
use Rattle.elab_core.specs.declared.shapes.Typed.{Typed}
use Rattle.elab_state.specs.Contexts.{Context, own_token}
use Rattle.elab_core.specs.Specifiers.{is_unset, no_type, typed}

-- ---- their scope (6.2.1p4)

abbrev pub in_prototype : Made → Made
in_prototype m = record m { names = scopes.entered scope.Prototype m.names }

abbrev pub out_of_prototype : Made → Made
out_of_prototype m = record m { names = scopes.left m.names }

-- ---- the one that stands for no parameters (p10): `void` alone

abbrev pub is_unqualified : Qual → Bool
is_unqualified q = not (q.is_const || (q.is_restrict || q.is_volatile))

abbrev pub is_plain : Gathered → Bool
is_plain g = is_unset g.storage && (is_none g.thread_at && (not g.inline && not g.noreturn))

abbrev pub stands_for_none : Gathered → Option ℕ → Typed → Bool
stands_for_none g own t = is_void t.ty && (is_unqualified t.qual && (is_none own && is_plain g))

-- ---- adjustment (p7, p8): the qualifiers in the outermost brackets are those of the pointer

abbrev pub step_quals : Step → Qual
step_quals (step.Array at q marked n) = q
step_quals step.Bad = unqualified
step_quals (step.Pointer q restrict) = unqualified
step_quals (step.Function ps p) = unqualified

abbrev pub quals_of_step : Option Step → Qual
quals_of_step (Some s) = step_quals s
quals_of_step None = unqualified

abbrev pub bracket_quals : List Step → Qual
bracket_quals ss = quals_of_step (bottom ss)

abbrev pub adjusted_as : Qual → Typed → Ty → Typed
adjusted_as q t (Array_of e r n) = typed (Pointer_to e r) q
adjusted_as q t (Function_of r ps p) = typed (Pointer_to (Function_of r ps p) unqualified) unqualified
adjusted_as q t Void_type = t
adjusted_as q t (Basic_type b) = t
adjusted_as q t (Enumerated_type id) = t
adjusted_as q t (Tagged_type id) = t
adjusted_as q t (Pointer_to e r) = t
adjusted_as q t Bad_type = t

abbrev pub adjusted : Qual → Typed → Typed
adjusted q t = adjusted_as q t t.ty

-- ---- its declaration

abbrev pub name_of : Context → Option ℕ → List ℕ
name_of c (Some n) = spelling c.tokens n
name_of c None = []

-- `body` says that it is one of a function definition (6.9.1)
abbrev pub parts : Context → Bool → Gathered → ℕ → Option ℕ → Typed → DeclParts
parts c body g at own t = record {
  name = name_of c own;
  at = at;
  tok = own_token c at;
  made = false;
  storage = g.storage;
  inline = g.inline;
  noreturn = g.noreturn;
  thread = not (is_none g.thread_at);
  align = g.align.value;
  ty = t.ty;
  qual = t.qual;
  scope = scope.Prototype;
  has_init = false;
  has_body = body;
  has_list = false;
}

-- 406, 416 and 417 stand on the specifier
abbrev pub or_at : Option ℕ → ℕ → ℕ
or_at (Some n) at = n
or_at None at = at

abbrev pub first_of : Option ℕ → Option ℕ → Option ℕ
first_of (Some n) k = Some n
first_of None k = k

abbrev pub place_of : Gathered → ℕ → ℕ → ℕ
place_of g rule at =
    if rule == 406 then or_at (first_of g.storage_at g.thread_at) at
    else if rule == 416 then or_at g.function_at at
    else if rule == 417 then or_at g.align.at at
    else at

abbrev pub placed : Gathered → Fault → Fault
placed g f = record f { at = place_of g f.rule f.at }

abbrev pub binding : Entity → Binding
binding e = record { space = space.Ordinary; name = e.name; entity = e }

abbrev pub bound_entity : Entity → Made → Made
bound_entity e m = bound (binding e) m

-- that of a definition defines its object
abbrev pub role_in : Bool → Role
role_in body = if body then role.Defines else role.Declares

-- 6.2.1p7: its scope begins behind its declarator
abbrev pub declared_by : Context → ℕ → Role → Entity → Made → Made
declared_by c n r e m = with_entity e (bound_entity e (occurs c n e.anchor r m))

abbrev pub named : Context → Option ℕ → Role → Entity → Made → Made
named c (Some n) r e m = declared_by c n r e m
named c None r e m = m

-- a refused one leaves what its scope has under the name, of which its token is an occurrence all the same; else the name has no type
abbrev pub without_type : DeclParts → DeclParts
without_type d = record d { ty = Bad_type }

abbrev pub refused_entity : Context → ℕ → Role → Result Entity CheckError → Made → Made
refused_entity c n r (Ok e) m = declared_by c n r e m
refused_entity c n r (Err error) m = m

abbrev pub declared_without_type : Context → Role → DeclParts → ℕ → Made → Made
declared_without_type c r d n m = refused_entity c n r (declared m.names (without_type d) m.tags) m

abbrev pub anchor_of : Option Entity → Option Anchor
anchor_of (Some e) = Some e.anchor
anchor_of None = None

abbrev pub anchor_here : List ℕ → Made → Option Anchor
anchor_here name m = anchor_of (here space.Ordinary name m.names)

abbrev pub refused_name : Context → Role → DeclParts → ℕ → Option Anchor → Made → Made
refused_name c r d n (Some a) m = occurs c n a r m
refused_name c r d n None m = declared_without_type c r d n m

abbrev pub refused : Context → Role → DeclParts → Option ℕ → Made → Made
refused c r d (Some n) m = refused_name c r d n (anchor_here d.name m) m
refused c r d None m = m

abbrev pub refused_with : Context → Role → DeclParts → Option ℕ → Fault → Made → Typed × Made
refused_with c r d own f m = (no_type, refused c r d own (with_fault f m))

abbrev pub accepted : Context → Role → Option ℕ → Qual → Entity → Made → Typed × Made
accepted c r own q e m = (typed e.ty q, named c own r e m)

abbrev pub by_answer : Context → Role → Gathered → DeclParts → Option ℕ → Result Entity CheckError → Made → Typed × Made
by_answer c r g d own (Ok e) m = accepted c r own d.qual e m
by_answer c r g d own (Err (Broken f)) m = refused_with c r d own (placed g f) m
by_answer c r g d own (Err NoMemory) m = (no_type, m)

abbrev pub declared_as : Context → Role → Gathered → DeclParts → Option ℕ → Made → Typed × Made
declared_as c r g d own m = by_answer c r g d own (declared m.names d m.tags) m

-- `at` is its name, or its first token
abbrev pub parameter_of : Context → Bool → Gathered → ℕ → Option ℕ → Typed → Made → Typed × Made
parameter_of c body g at own t m = declared_as c (role_in body) g (parts c body g at own t) own m

abbrev pub parameter : Context → Gathered → ℕ → Option ℕ → Typed → Made → Typed × Made
parameter c g at own t m = parameter_of c false g at own t m

abbrev pub given : Typed × Made → Option Typed × Made
given r = (Some r.0, r.1)

-- none where it stands for no parameters, which it may where it stands alone
abbrev pub entered : Context → Gathered → Bool → ℕ → Option ℕ → List Step → Typed → Made → Option Typed × Made
entered c g alone at own steps t m =
    if alone && stands_for_none g own t then (None, m) else given (parameter c g at own (adjusted (bracket_quals steps) t) m)

-- ---- their list: none where one of them has a fault

abbrev pub sound : Typed → types.Parameters → Option types.Parameters
sound t ps = if is_bad t.ty then None else Some (types.Parameter_then t.ty t.qual ps)

abbrev pub in_front_of : Typed → Option types.Parameters → Option types.Parameters
in_front_of t None = None
in_front_of t (Some ps) = sound t ps

abbrev pub in_front : Option Typed → Option types.Parameters → Option types.Parameters
in_front None list = list
in_front (Some t) list = in_front_of t list

-- the last one first
abbrev pub all_in_front : List (Option Typed) → Option types.Parameters → Option types.Parameters
all_in_front [] list = list
all_in_front (t ∷ ts) list = all_in_front ts (in_front t list)

abbrev pub function_step : Proto → Option types.Parameters → Step
function_step p (Some ps) = step.Function ps p
function_step p None = step.Bad
