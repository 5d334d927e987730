-- What a judgement does: it asks, changes what is made, and gives a result.
use Rattle.std.specs.Prelude.{ℕ, List, [], ◌∷◌, ◌++◌, Option, Some, None}
use Rattle.asking.specs.Asking.{Asking, Gives, and_then}
use Rattle.scope_tables.specs.Scopes.{entered, innermost_kind}
use Rattle.scope_tables.specs.declared.entities.Entity.{Entity}
use Rattle.scope_tables.specs.declared.entities.Occ.{Occ}
use Rattle.scope_tables.specs.declared.entities.ScopeKind.{ScopeKind}
use Rattle.scope_tables.specs.declared.entities.ScopeKind.TheVariants as scope
use Rattle.type_data.specs.declared.judged.Fault.{Fault}
use Rattle.type_data.specs.Types.{Ty}
use Rattle.type_rel.specs.Kinds.{Tagging}
pub use Rattle.elab_state.specs.declared.made.Made.{Made}
use Rattle.elab_state.specs.Wants.{wants}

abbrev pub Doing : Type 0 → Type 0
Doing A = Asking wants (A × Made)

abbrev pub gives : {A : Type 0} → A → Made → Doing A
gives x m = Gives (x, m)

-- the first part, and then what goes on with its result
abbrev pub follow : {A B : Type 0} → Doing A → (A → Made → Doing B) → Doing B
follow d k = and_then d (λ r. k r.0 r.1)

-- ---- what is noted

abbrev pub fault : ℕ → ℕ → List (List ℕ) → List Ty → Fault
fault rule at names types = record { rule = rule; at = at; names = names; types = types }

abbrev pub with_fault : Fault → Made → Made
with_fault f m = record m { faults = m.faults ++ f ∷ [] }

abbrev pub with_occ : Occ → Made → Made
with_occ o m = record m { occs = m.occs ++ o ∷ [] }

abbrev pub with_entity : Entity → Made → Made
with_entity e m = record m { entities = m.entities ++ e ∷ [] }

abbrev pub with_used : List ℕ → Made → Made
with_used name m = record m { used = m.used ++ name ∷ [] }

-- something that is left out of the language that is served
abbrev pub left_out : List ℕ → ℕ → Made → Made
left_out what at m = with_fault (fault 304 at (what ∷ []) []) m

-- ---- where it begins

abbrev pub or_file : Option ScopeKind → ScopeKind
or_file (Some k) = k
or_file None = scope.File

abbrev pub scope_kind : Made → ScopeKind
scope_kind m = or_file (innermost_kind m.names)

abbrev pub begun : ScopeKind → Tagging → Made
begun kind tags = record { names = entered kind []; tags = tags; declared = []; entities = []; occs = []; faults = []; used = []; round = []; params = None }
