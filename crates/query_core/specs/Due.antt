-- When a key is due, by given inputs.
use Rattle.std.specs.Prelude.{◌≡◌, ◌≢◌, ℕ, ◌<◌, Some, None, ◌⊎◌}
use Rattle.query_core.specs.Lists.{Has}
use Rattle.query_core.specs.Queries.{Queries}
use Rattle.query_core.specs.Graph.{Held, at, record_of}
use Rattle.query_core.specs.Node.{Node}

module _ {K V : Type 0} where
  -- a read of the record changed after the record was verified, or its kept value isn't the value of its key over these inputs
  pub record HasChangedRead (q : Queries K V) (g : Held K V) (given : K → V) (r : Node K V) : Type 0 where
    pub node : ℕ
    pub read : Node K V
    pub is_read : Has r.reads node
    pub stands : at g node ≡ Some read
    pub changed : (r.verified_at < read.changed_at) ⊎ (read.value ≢ q.val given read.key)

  -- by these inputs, which needn't be those of the graph: the key has no record, or a read of its record has changed
  abbrev pub IsDue : Queries K V → Held K V → (K → V) → K → Type 0
  IsDue q g given k = (record_of q g k ≡ None) ⊎ ((r : Node K V) × ((record_of q g k ≡ Some r) × HasChangedRead q g given r))

  -- what is due in the new graph by these inputs was due in the old one by them
  abbrev pub WasDue : Queries K V → Held K V → Held K V → (K → V) → Type 0
  WasDue q old new given = (k : K) → IsDue q new given k → IsDue q old given k
