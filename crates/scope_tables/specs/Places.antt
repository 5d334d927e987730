-- Where a name stands in a list of bindings, and where the index says that it does.
use Rattle.std.specs.Prelude.{ℕ, zero, suc, ◌+◌, Bool, ◌&&◌, List, [], ◌∷◌, Option, Some, None, if◌then◌else◌}
use Rattle.std.specs.HashMap.{get, get_by_text}
use Rattle.std.specs.Str.{bytes_eq}
use Rattle.type_data.specs.declared.members.Space.{Space}
use Rattle.type_data.specs.declared.members.Space.TheVariants.{Ordinary}
use Rattle.type_data.specs.contracts.members.SpacePartialEq.TheImpl as spaces
use Rattle.scope_tables.specs.Scopes.{binds, if_linked, or_outside}
use Rattle.scope_tables.specs.declared.bindings.Binding.{Binding}
use Rattle.scope_tables.specs.declared.entities.Entity.{Entity}
use Rattle.scope_tables.specs.declared.index.Index.{Index}

-- two names of two name spaces are the same one
unfoldable pub is_key : Space → List ℕ → Space → List ℕ → Bool
is_key space name s q = spaces.eq-value.it space s && bytes_eq name q

-- the last binding of a name
abbrev pub or_here : Option ℕ → Bool → Option ℕ
or_here (Some i) here = Some (i + 1)
or_here None here = if here then Some 0 else None

abbrev pub newest : Space → List ℕ → List Binding → Option ℕ
newest space name [] = None
newest space name (b ∷ bs) = or_here (newest space name bs) (binds space name b)

-- the entity of the last binding of an ordinary name whose entity has linkage
abbrev pub linked_by : List ℕ → Binding → Option Entity
linked_by name b = if binds Ordinary name b then if_linked (Some b.entity) else None

abbrev pub last_linked : List ℕ → List Binding → Option Entity
last_linked name [] = None
last_linked name (b ∷ bs) = or_outside (last_linked name bs) (linked_by name b)

-- the entity of the binding at a place
abbrev pub entity_in : List Binding → ℕ → Option Entity
entity_in [] i = None
entity_in (b ∷ bs) zero = Some b.entity
entity_in (b ∷ bs) (suc i) = entity_in bs i

-- the binding at a place has another entity
abbrev pub with_entity : List Binding → ℕ → Entity → List Binding
with_entity [] i entity = []
with_entity (b ∷ bs) zero entity = record { space = b.space; name = b.name; entity = entity } ∷ bs
with_entity (b ∷ bs) (suc i) entity = b ∷ with_entity bs i entity

abbrev pub place_in : {A : Type 0} → Option A → (A → Option ℕ) → Option ℕ
place_in None f = None
place_in (Some a) f = f a

abbrev pub place_at : Index → Space → List ℕ → Option ℕ
place_at index space name = place_in (get spaces.eq-value.it index.spaces space) (λ places. get_by_text places name)
