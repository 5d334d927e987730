-- What a graph holds.
use Rattle.std.specs.Prelude.{ℕ, ◌==◌, Bool, false, ◌||◌, List, Option, None, slice_index_or, if◌then◌else◌}
use Rattle.std.specs.Option.{option_map_or}
use Rattle.std.specs.Map.{lookup}
use Rattle.query_core.specs.Queries.{Queries}
use Rattle.query_core.specs.Node.{Node}

-- The records by node, the node of each key, the number of the revision, the keys that ran in it, in order, and the revision of the
-- last demand of a key that wasn't verified.
pub record Held (K V : Type 0) : Type 0 where
  pub nodes : List (Option (Node K V))
  pub numbers : List (K × ℕ)
  pub revision : ℕ
  pub runs : List K
  pub demanded_at : ℕ

module _ {K V : Type 0} where
  -- the record at a node
  abbrev pub at : Held K V → ℕ → Option (Node K V)
  at g node = slice_index_or g.nodes node None

  -- the node of a key
  abbrev pub node_of : Queries K V → Held K V → K → Option ℕ
  node_of q g k = lookup (q.same k) g.numbers

  -- the record of a key
  abbrev pub record_of : Queries K V → Held K V → K → Option (Node K V)
  record_of q g k = option_map_or (at g) (node_of q g k) None

  -- the inputs of the graph: what its record holds, or the value of inputs that aren't set
  abbrev pub inputs : Queries K V → Held K V → K → V
  inputs q g k = if q.is_input k then option_map_or (λ r. r.value) (record_of q g k) (q.unset k) else q.unset k

  -- the record was verified now; an input always counts as verified
  abbrev pub is_current : Queries K V → Held K V → Node K V → Bool
  is_current q g r = q.is_input r.key || (r.verified_at == g.revision)

  -- the key has a record that was verified now
  abbrev pub is_verified : Queries K V → Held K V → K → Bool
  is_verified q g k = option_map_or (is_current q g) (record_of q g k) false
