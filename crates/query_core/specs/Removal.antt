-- What is left of records where those that nothing reads were removed.
use Rattle.std.specs.Prelude.{◌≡◌, ℕ, ◌≤◌, ◌==◌, Bool, true, false, not, ◌&&◌, List, Option, Some, None, slice_index_or, count_by, is_some, ◌⊎◌}
use Rattle.std.specs.Option.{option_map_or}
use Rattle.query_core.specs.Lists.{Has}
use Rattle.query_core.specs.Answering.{IsNumbered}
use Rattle.query_core.specs.Stored.{Stored, stored, node_at, is_clean}
use Rattle.query_core.specs.Node.{Node}
use Rattle.query_core.specs.Tallies.{Tallied, AreTallied, reads_of}
use Rattle.query_core.specs.declared.record.Record.{Record}

module _ {K V : Type 0} where
  -- the node has a record that is no input's and that nothing reads
  abbrev pub goes : List (Option (Record K V)) → Tallied → ℕ → Bool
  goes slots t node = option_map_or (λ r. not r.input && (reads_of t node == 0)) (slice_index_or slots node None) false

  -- what went is no input's, no root, and nothing reads it that is left
  abbrev pub IsGone : List ℕ → List (Option (Record K V)) → ℕ → Record K V → Type 0
  IsGone roots slots i r = (r.input ≡ false) × (¬ Has roots i) × ((a : ℕ) (s : Record K V) → slice_index_or slots a None ≡ Some s → ¬ Has s.reads i)

  -- Some records were removed: what is left is as it was.
  pub record Removing (eq : K → K → Bool) (roots : List ℕ) (c : ℕ) (old new : List (Option (Record K V))) (numbers : List (K × ℕ)) (t : Tallied) : Type 0 where
    pub tallied : AreTallied new t roots
    pub was : (i : ℕ) (r : Record K V) → slice_index_or new i None ≡ Some r → slice_index_or old i None ≡ Some r
    pub gone : (i : ℕ) (r : Record K V) → slice_index_or old i None ≡ Some r → slice_index_or new i None ≡ None → IsGone roots new i r
    pub numbered : IsNumbered eq (stored new numbers c)
    pub fewer : count_by is_some new ≤ count_by is_some old

  -- All were removed that nothing reads, but inputs: what is left is a root's or is read by what is left.
  pub record Removes (eq : K → K → Bool) (roots : List ℕ) (c : ℕ) (old new : List (Option (Record K V))) (numbers : List (K × ℕ)) (t : Tallied) : Type 0 where
    pub removing : Removing eq roots c old new numbers t
    pub read : (i : ℕ) (r : Record K V) → slice_index_or new i None ≡ Some r → r.input ≡ false → Has roots i ⊎ ((a : ℕ) × ((s : Record K V) × ((slice_index_or new a None ≡ Some s) × Has s.reads i)))

  -- the same of what is seen of a store
  pub record Leaves (eq : K → K → Bool) (roots : List ℕ) (old new : Stored K V) : Type 0 where
    pub was : (i : ℕ) (r : Node K V) → node_at new i ≡ Some r → node_at old i ≡ Some r
    pub gone : (i : ℕ) (r : Node K V) → node_at old i ≡ Some r → node_at new i ≡ None → (r.input ≡ false) × (¬ Has roots i) × ((a : ℕ) (s : Node K V) → node_at new a ≡ Some s → ¬ Has s.reads i)
    pub read : (i : ℕ) (r : Node K V) → node_at new i ≡ Some r → r.input ≡ false → Has roots i ⊎ ((a : ℕ) × ((s : Node K V) × ((node_at new a ≡ Some s) × Has s.reads i)))
    pub numbered : IsNumbered eq new
    pub less : (i : ℕ) → is_clean new i ≡ true → is_clean old i ≡ true
    pub stay : (i : ℕ) (r : Node K V) → node_at new i ≡ Some r → is_clean new i ≡ is_clean old i
    pub clean_at : new.clean_at ≡ old.clean_at
