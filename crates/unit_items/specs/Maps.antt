-- What maps by a text have.
use Rattle.std.specs.Prelude.{ℕ, List, nat_eq, Option, unwrap_or}
use Rattle.std.specs.Cmp.Lexicographic.{pointwise}
use Rattle.std.specs.HashMap.{HashMap, get}

unfoldable pub start_at : {S : Type 0} → HashMap (List ℕ) ℕ S → List ℕ → Option ℕ
start_at map file = get (pointwise nat_eq) map file

-- how often a text was counted
unfoldable pub counted : {S : Type 0} → HashMap (List ℕ) ℕ S → List ℕ → ℕ
counted map text = unwrap_or (get (pointwise nat_eq) map text) 0
