-- How the answers of a run are found.
use Rattle.std.specs.Prelude.{◌≡◌, ℕ, Bool, true, List, Some, filter_map}
use Rattle.std.specs.Map.{lookup}
use Rattle.std.specs.Option.{option_map}
use Rattle.query_core.specs.Stored.{Stored, node_at}
use Rattle.query_core.specs.Node.{Node}

module _ {K V : Type 0} where
  -- the keys of these nodes with the values that the store keeps for them
  abbrev pub pairs_at : Stored K V → List ℕ → List (K × V)
  pairs_at s nodes = filter_map (λ node. option_map (λ r. (r.key, r.value)) (node_at s node)) nodes

  -- a key has the number of the node whose record has that key
  pub record IsNumbered (eq : K → K → Bool) (s : Stored K V) : Type 0 where
    pub stands : (k : K) (i : ℕ) → lookup (eq k) s.numbers ≡ Some i → (r : Node K V) × ((node_at s i ≡ Some r) × (eq k r.key ≡ true))
    pub only : (k : K) (i : ℕ) (r : Node K V) → node_at s i ≡ Some r → eq k r.key ≡ true → lookup (eq k) s.numbers ≡ Some i
