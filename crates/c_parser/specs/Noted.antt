-- The numbers of names, as a map keeps them.
use Rattle.std.specs.Prelude.{ℕ, List, Option, bytes_eq}
use Rattle.std.specs.HashMap.{HashMap, get}

-- the number of a text
unfoldable pub number_in : {S : Type 0} → HashMap (List ℕ) ℕ S → List ℕ → Option ℕ
number_in numbers text = get bytes_eq numbers text
