-- Hide sets of Prosser's algorithm: sets of names, as lists.
use Rattle.std.specs.Prelude.{ℕ, Bool, not, List, ◌++◌, filter, bytes_eq}
use Rattle.std.specs.List.{list_any}

-- a name is in the set
unfoldable pub hides : List (List ℕ) → List ℕ → Bool
hides names name = list_any (λ n. bytes_eq n name) names

-- the union
unfoldable pub united : List (List ℕ) → List (List ℕ) → List (List ℕ)
united names more = filter (λ n. not (hides more n)) names ++ more

-- the intersection
unfoldable pub common : List (List ℕ) → List (List ℕ) → List (List ℕ)
common names others = filter (hides others) names
