-- Scopes (ISO C11 6.2.1, 6.2.3): a list, innermost first. In each a name denotes one entity for each name space.
use Rattle.std.specs.Prelude.{ℕ, Bool, true, false, ◌&&◌, nat_eq, List, [], ◌∷◌, Option, Some, None, if◌then◌else◌}
use Rattle.std.specs.Cmp.Lexicographic.{pointwise}
use Rattle.type_data.specs.declared.members.Space.{Space}
use Rattle.type_data.specs.declared.members.Space.TheVariants.{Ordinary}
use Rattle.type_data.specs.contracts.members.SpacePartialEq.TheImpl as spaces
use Rattle.scope_tables.specs.Levels.{Scope}
use Rattle.scope_tables.specs.declared.entities.Entity.{Entity}
use Rattle.scope_tables.specs.declared.entities.Linkage.{Linkage}
use Rattle.scope_tables.specs.declared.entities.Linkage.TheVariants as linkage
use Rattle.scope_tables.specs.declared.entities.ScopeKind.{ScopeKind}
use Rattle.scope_tables.specs.declared.bindings.Binding.{Binding}

-- the same name space and the same name
unfoldable pub binds : Space → List ℕ → Binding → Bool
binds space name b = spaces.eq-value.it b.space space && pointwise nat_eq b.name name

-- what a name denotes in a scope
abbrev pub bound : Space → List ℕ → List Binding → Option Entity
bound space name [] = None
bound space name (b ∷ bs) = if binds space name b then Some b.entity else bound space name bs

-- a binding takes the place of that of its name
abbrev pub put : Binding → List Binding → List Binding
put b [] = b ∷ []
put b (c ∷ cs) = if binds b.space b.name c then b ∷ cs else c ∷ put b cs

-- 6.2.1p4: what a name denotes is what it denotes in the innermost scope that has it
abbrev pub or_outside : Option Entity → Option Entity → Option Entity
or_outside (Some entity) outside = Some entity
or_outside None outside = outside

abbrev pub found : Space → List ℕ → List Scope → Option Entity
found space name [] = None
found space name (s ∷ outside) = or_outside (bound space name s.bindings) (found space name outside)

-- what it denotes in the innermost scope alone
abbrev pub here : Space → List ℕ → List Scope → Option Entity
here space name [] = None
here space name (s ∷ outside) = bound space name s.bindings

-- 6.2.2p4: the entity, where it has linkage
abbrev pub is_linked : Linkage → Bool
is_linked linkage.None = false
is_linked linkage.Internal = true
is_linked linkage.External = true

abbrev pub if_linked : Option Entity → Option Entity
if_linked None = None
if_linked (Some entity) = if is_linked entity.linkage then Some entity else None

-- what an ordinary name denotes in the innermost scope in which it denotes what has linkage
abbrev pub linked : List ℕ → List Scope → Option Entity
linked name [] = None
linked name (s ∷ outside) = or_outside (if_linked (bound Ordinary name s.bindings)) (linked name outside)

-- the kind of the innermost scope
abbrev pub innermost_kind : List Scope → Option ScopeKind
innermost_kind [] = None
innermost_kind (s ∷ outside) = Some s.kind

abbrev pub entered : ScopeKind → List Scope → List Scope
entered kind scopes = record { kind = kind; bindings = [] } ∷ scopes

abbrev pub left : List Scope → List Scope
left [] = []
left (s ∷ outside) = outside

abbrev pub declared_in : Binding → List Scope → List Scope
declared_in b [] = []
declared_in b (s ∷ outside) = record { kind = s.kind; bindings = put b s.bindings } ∷ outside

-- what the name denoted before in the innermost scope
abbrev pub before : Binding → List Scope → Option Entity
before b [] = None
before b (s ∷ outside) = bound b.space b.name s.bindings
