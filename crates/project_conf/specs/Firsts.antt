-- A map from files to entries.
use Rattle.std.specs.Prelude.{ℕ, List, nat_eq, Option, option_map}
use Rattle.std.specs.Cmp.Lexicographic.{pointwise}
use Rattle.std.specs.HashMap.{HashMap, get}
use denote.Ref.{Bor}
use Rattle.project_conf.specs.declared.conf.UnitConf.{UnitConf}

-- what the map has at a file
unfoldable pub first_at : {S : Type 0} → HashMap (List ℕ) (Bor UnitConf) S → List ℕ → Option UnitConf
first_at map file = option_map (λ unit. unit.now) (get (pointwise nat_eq) map file)
