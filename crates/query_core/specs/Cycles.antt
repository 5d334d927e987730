-- What a record reads, at once or by others, and that no record reads itself so.
use Rattle.std.specs.Prelude.{◌≡◌, ℕ, List, Option, Some, None, slice_index_or}
use Rattle.query_core.specs.Lists.{Has}
use Rattle.query_core.specs.Node.{Node}

-- recorded reads lead from the record at the node i to this node
pub data IsBelow {K V : Type 0} (nodes : List (Option (Node K V))) (i : ℕ) : ℕ → Type 0 where
  at_once : (j : ℕ) (r : Node K V) → slice_index_or nodes i None ≡ Some r → Has r.reads j → IsBelow nodes i j
  further : (j k : ℕ) (r : Node K V) → IsBelow nodes i j → slice_index_or nodes j None ≡ Some r → Has r.reads k → IsBelow nodes i k

-- no record reads itself, at once or by others
abbrev pub HasNoCycle : {K V : Type 0} → List (Option (Node K V)) → Type 0
HasNoCycle nodes = (i : ℕ) → ¬ IsBelow nodes i i
