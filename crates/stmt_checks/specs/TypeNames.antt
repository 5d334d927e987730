-- The typedef names among the identifiers of a head or a body, as they are at its front (ISO C11 6.7.8, 6.8.2): behind it the body's own declarations tell.
use Rattle.std.specs.Prelude.{ℕ, Bool, true, false, ◌&&◌, List, [], ◌∷◌, Option, Some, None, if◌then◌else◌}
use Rattle.elab_state.specs.Tokens.{is_identifier}
use Rattle.scope_tables.specs.Levels.{Scope}
use Rattle.scope_tables.specs.Scopes.{found}
use Rattle.scope_tables.specs.declared.entities.Entity.{Entity}
use Rattle.scope_tables.specs.declared.entities.EntityKind.{EntityKind}
use Rattle.scope_tables.specs.declared.entities.EntityKind.TheVariants as kind
use Rattle.tok_data.specs.declared.tokens.OutToken.{OutToken}
use Rattle.type_data.specs.declared.members.Space.TheVariants.{Ordinary}

abbrev pub is_typedef_kind : EntityKind → Bool
is_typedef_kind kind.Typedef = true
is_typedef_kind kind.Object = false
is_typedef_kind kind.Function = false
is_typedef_kind (kind.Tag id info) = false
is_typedef_kind kind.Enumerator = false
is_typedef_kind kind.Member = false
is_typedef_kind kind.Label = false

abbrev pub is_typedef : Option Entity → Bool
is_typedef None = false
is_typedef (Some e) = is_typedef_kind e.kind

abbrev pub names_type : List Scope → OutToken → Bool
names_type ns t = is_identifier t && is_typedef (found Ordinary t.spelling ns)

abbrev pub type_names : List Scope → List OutToken → List (List ℕ)
type_names ns [] = []
type_names ns (t ∷ ts) = if names_type ns t then t.spelling ∷ type_names ns ts else type_names ns ts
