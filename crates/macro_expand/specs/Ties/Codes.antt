-- The number of a hide set is seen as a list whose only name is the number, and that of the empty set as the empty
-- list.
use Rattle.std.specs.Prelude.{ℕ, List, [], ◌∷◌, Option, Some, None}

abbrev pub Names : Type 0
Names = List (List ℕ)

abbrev pub coded : Option ℕ → Names
coded None = []
coded (Some n) = (n ∷ []) ∷ []
