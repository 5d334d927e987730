-- A way along a chain.
use Rattle.std.specs.Prelude.{◌≡◌, ◌<◌, ℕ, true, List, [], ◌∷◌, length, map, Option, Some, None}
use Rattle.std.specs.List.{slice_get}
use Rattle.scope_tables.specs.declared.entities.Occ.{Occ}
use Rattle.unit_index.specs.declared.chains.By.{By}
use Rattle.unit_index.specs.Chains.{alike, code_by}

-- an occurrence in front of others, where there is one
abbrev pub after : Option Occ → List Occ → List Occ
after None os = []
after (Some o) os = o ∷ os

-- a place within the list, of an occurrence that has the key
abbrev pub IsThere : By → List Occ → Option Occ → Type 0
IsThere b os None = ⊥
IsThere b os (Some o) = alike b o o ≡ true

abbrev pub Stands : By → List Occ → Option ℕ → Type 0
Stands b os None = Unit
Stands b os (Some i) = (i < length os) × IsThere b os (slice_get os i)

pub record IsOnTheWay (b : By) (os : List Occ) (numbers : List ℕ) (at : Option ℕ) : Type 0 where
  pub codes : numbers ≡ map (code_by b) os
  pub stands : Stands b os at
