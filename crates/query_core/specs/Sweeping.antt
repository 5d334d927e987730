-- What a sweep removes.
use Rattle.std.specs.Prelude.{◌≡◌, ℕ, ◌+◌, true, false, List, Some, None, count_by, is_some}
use Rattle.std.specs.Option.{option_map}
use Rattle.query_core.specs.Lists.{Has}
use Rattle.query_core.specs.Queries.{Queries}
use Rattle.query_core.specs.Graph.{Held, at, node_of, inputs}
use Rattle.query_core.specs.Node.{Node}

-- the node is that of a root's record, or recorded reads lead to it from one
pub data IsUsed {K V : Type 0} (q : Queries K V) (g : Held K V) (roots : List K) : ℕ → Type 0 where
  by_root : (k : K) (i : ℕ) → Has roots k → node_of q g k ≡ Some i → IsUsed q g roots i
  by_read : (i j : ℕ) (r : Node K V) → IsUsed q g roots i → at g i ≡ Some r → Has r.reads j → IsUsed q g roots j

module _ {K V : Type 0} where
  -- What a sweep does: exactly the records go that are no inputs and that the roots don't use, so many; the others stay as they were,
  -- at their nodes.
  pub record Sweeps (q : Queries K V) (old new : Held K V) (roots : List K) (count : ℕ) : Type 0 where
    pub inputs_at : (i : ℕ) (r : Node K V) → at old i ≡ Some r → q.is_input r.key ≡ true → at new i ≡ Some r
    pub used : (i : ℕ) (r : Node K V) → at old i ≡ Some r → IsUsed q old roots i → at new i ≡ Some r
    pub unused : (i : ℕ) (r : Node K V) → at old i ≡ Some r → q.is_input r.key ≡ false → ¬ IsUsed q old roots i → at new i ≡ None
    pub free : (i : ℕ) → at old i ≡ None → at new i ≡ None
    -- a key has the node that it had, where its record stays, and else none
    pub numbered : (k : K) (i : ℕ) → node_of q old k ≡ Some i → node_of q new k ≡ option_map (λ r. i) (at new i)
    pub unknown : (k : K) → node_of q old k ≡ None → node_of q new k ≡ None
    pub counted : count_by is_some new.nodes + count ≡ count_by is_some old.nodes
    pub inputs_stay : inputs q new ≡ inputs q old
    pub revision : new.revision ≡ old.revision
    pub runs : new.runs ≡ old.runs
