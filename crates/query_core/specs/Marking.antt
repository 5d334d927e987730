-- How nodes are marked, each once, and the nodes of a sweep's roots.
use Rattle.std.specs.Prelude.{ℕ, cond, List, [], ◌∷◌, ◌++◌, nat_eq, filter_map}
use Rattle.std.specs.List.{list_any}
use Rattle.query_core.specs.Queries.{Queries}
use Rattle.query_core.specs.Graph.{Held, node_of}

-- the nodes once this one is marked
unfoldable pub marked : List ℕ → ℕ → List ℕ
marked nodes node = cond (list_any (nat_eq node) nodes) nodes (nodes ++ node ∷ [])

-- the nodes once all of these are marked, in order
abbrev pub all_marked : List ℕ → List ℕ → List ℕ
all_marked nodes [] = nodes
all_marked nodes (j ∷ js) = all_marked (marked nodes j) js

module _ {K V : Type 0} where
  -- the nodes of these keys
  abbrev pub root_nodes : Queries K V → Held K V → List K → List ℕ
  root_nodes q g roots = filter_map (node_of q g) roots
