-- When a graph is sound.
use Rattle.std.specs.Prelude.{◌≡◌, ℕ, ◌≤◌, true, false, List, [], ◌∷◌, ◌++◌, Some, filter_map}
use Rattle.std.specs.Option.{option_map}
use Rattle.query_core.specs.Lists.{Has, Each, IsOnce}
use Rattle.query_core.specs.Queries.{Queries, next_key, done_with}
use Rattle.query_core.specs.Graph.{Held, at, node_of, is_current}
use Rattle.query_core.specs.declared.rules.Step.{Step}
use Rattle.query_core.specs.Node.{Node}

module _ {K V : Type 0} where
  -- the keys of these nodes with the values that the graph keeps for them
  abbrev pub kept : Held K V → List ℕ → List (K × V)
  kept g nodes = filter_map (λ node. option_map (λ r. (r.key, r.value)) (at g node)) nodes

  -- the value at the node didn't change after this revision
  abbrev pub IsUnchanged : Held K V → ℕ → ℕ → Type 0
  IsUnchanged g since node = (r : Node K V) → at g node ≡ Some r → r.changed_at ≤ since

  -- with these nodes left to read, the step asks for the key of the next one, or, where none is left, is done with the value
  abbrev pub Replays : Held K V → List ℕ → V → Step K V → Type 0
  Replays g [] value step = done_with step ≡ Some value
  Replays g (node ∷ nodes) value step = (r : Node K V) → at g node ≡ Some r → next_key step ≡ Some r.key

-- A graph is sound, for queries and the inputs that it holds.
pub record IsSound {K V : Type 0} (q : Queries K V) (g : Held K V) : Type 0 where
  -- each read of a record is a record
  pub stands : (i j : ℕ) (r : Node K V) → at g i ≡ Some r → Has r.reads j → (d : Node K V) × (at g j ≡ Some d)
  -- a record that was verified now has only reads that were verified now
  pub verified : (i j : ℕ) (r d : Node K V) → at g i ≡ Some r → is_current q g r ≡ true → Has r.reads j → at g j ≡ Some d → is_current q g d ≡ true
  -- of each first part of its reads in which nothing changed after the record was verified: over the kept values of that part,
  -- a run of the key asks for the next read, or is done with the record's value
  pub replays : (i : ℕ) (r : Node K V) → at g i ≡ Some r → q.is_input r.key ≡ false → (first left : List ℕ) → r.reads ≡ first ++ left
      → Each (IsUnchanged g r.verified_at) first → Replays g left r.value (q.step r.key (kept g first))
  -- an input reads nothing
  pub inputs : (i : ℕ) (r : Node K V) → at g i ≡ Some r → q.is_input r.key ≡ true → r.reads ≡ []
  -- no stamp is past now
  pub stamps : (i : ℕ) (r : Node K V) → at g i ≡ Some r → (r.verified_at ≤ g.revision) × (r.changed_at ≤ g.revision)
  -- a key has one node, that of its record
  pub numbered : (i : ℕ) (r : Node K V) → at g i ≡ Some r → node_of q g r.key ≡ Some i
  pub numbers : (k : K) (i : ℕ) → node_of q g k ≡ Some i → (r : Node K V) × (at g i ≡ Some r) × (r.key ≡ k)
  -- each key ran once
  pub once : IsOnce g.runs
  -- a record says whether its key is an input
  pub flagged : (i : ℕ) (r : Node K V) → at g i ≡ Some r → r.input ≡ q.is_input r.key

module _ {K V : Type 0} where
  -- each key that ran has a record that was verified now, and is no input: so it is where no sweep was called in this revision
  abbrev pub IsUnswept : Queries K V → Held K V → Type 0
  IsUnswept q g = Each (λ k. (i : ℕ) × ((r : Node K V) × ((node_of q g k ≡ Some i) × (at g i ≡ Some r) × (q.is_input k ≡ false) × (r.verified_at ≡ g.revision)))) g.runs
