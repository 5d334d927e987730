-- Lists by keys, in a map.
use Rattle.std.specs.Prelude.{Bool, List, [], Option, Some, None}
use Rattle.std.specs.HashMap.{HashMap, get}

abbrev pub or_empty : {A : Type 0} → Option (List A) → List A
or_empty None = []
or_empty (Some xs) = xs

-- the list that a map has at a key
unfoldable pub listed : {K V S : Type 0} → (K → K → Bool) → HashMap K (List V) S → K → List V
listed eq lists q = or_empty (get eq lists q)
