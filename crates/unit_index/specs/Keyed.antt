-- Members by the names by which they are found.
use Rattle.std.specs.Prelude.{ℕ, List, nat_eq, Option, option_map}
use Rattle.std.specs.Cmp.Lexicographic.{pointwise}
use Rattle.std.specs.HashMap.{HashMap, get}
use denote.Ref.{Bor}
use Rattle.type_data.specs.declared.members.Member.{Member}

-- a map has the member at the name
unfoldable pub at : {S : Type 0} → HashMap (List ℕ) (Bor Member) S → List ℕ → Option Member
at map name = option_map (λ m. m.now) (get (pointwise nat_eq) map name)
