-- Which tokens have to be renamed with one: those that denote what it denotes, and with a token all that denote what that one denotes
-- (ISO C11 6.2.1, 6.2.2p2). A unit is given by its occurrences.
use Rattle.std.specs.Prelude.{◌≡◌, ℕ, true, List, [], ◌∷◌, ◌⊎◌, ◌↔◌}
use Rattle.std.specs.declared.cmp.Ordering.{Ordering}
use Rattle.std.specs.List.Sorted.{IsStrictlySortedBy}
use Rattle.tok_data.specs.declared.sources.TokId.{TokId}
use Rattle.tok_data.specs.contracts.sources.TokIdOrd.TheImpl as order
use Rattle.scope_tables.specs.declared.entities.Anchor.{Anchor}
use Rattle.scope_tables.specs.declared.entities.Anchor.TheVariants.{External}
use Rattle.scope_tables.specs.declared.entities.Occ.{Occ}
use Rattle.rename_core.specs.Occurrences.{denotes, in_class}

abbrev pub Has : {A : Type 0} → List A → A → Type 0
Has [] x = ⊥
Has (y ∷ ys) x = (y ≡ x) ⊎ Has ys x

-- some unit gives them the same anchor, or two units the same External one
pub data Linked (us : List (List Occ)) : TokId → TokId → Type 0 where
  in_a_unit : (s t : TokId) (os : List Occ) (a : Anchor) → Has us os → denotes os s a ≡ true → denotes os t a ≡ true → Linked us s t
  by_name : (s t : TokId) (os ps : List Occ) (name : List ℕ) → Has us os → Has us ps → denotes os s (External name) ≡ true → denotes ps t (External name) ≡ true
      → Linked us s t

-- a chain of one or more links leads there; so a token that denotes something reaches itself, and another one nothing
pub data Reaches (us : List (List Occ)) (t : TokId) : TokId → Type 0 where
  one : (s : TokId) → Linked us t s → Reaches us t s
  more : (s r : TokId) → Reaches us t s → Linked us s r → Reaches us t r

abbrev pub tok_cmp : TokId → TokId → Ordering
tok_cmp s t = order.cmp-value.it s t

-- the class of a token: all that it reaches and nothing else, each once, by the names of their texts and by number
pub record IsClass (us : List (List Occ)) (t : TokId) (class : List TokId) : Type 0 where
  pub ordered : IsStrictlySortedBy tok_cmp class
  pub members : (s : TokId) → (in_class class s ≡ true) ↔ Reaches us t s
