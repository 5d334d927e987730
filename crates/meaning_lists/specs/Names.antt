-- Names that are used, each once, and names that are defined (ISO C11 6.9p5).
use Rattle.std.specs.Prelude.{ℕ, nat_eq, Bool, true, false, List, [], ◌∷◌, ◌++◌, if◌then◌else◌}
use Rattle.std.specs.Cmp.Lexicographic.{pointwise}
use Rattle.indexmap.specs.IndexSet.{insert_key}
use Rattle.scope_tables.specs.declared.meanings.How.{How}
use Rattle.scope_tables.specs.declared.meanings.How.TheVariants as how
use Rattle.scope_tables.specs.declared.meanings.Stated.{Stated}

abbrev pub with_all : List (List ℕ) → List (List ℕ) → List (List ℕ)
with_all names [] = names
with_all names (n ∷ ns) = with_all (insert_key (pointwise nat_eq) names n) ns

abbrev pub once : List (List ℕ) → List (List ℕ)
once ns = with_all [] ns

-- no tentative definition, and none that was refused
abbrev pub is_definition : How → Bool
is_definition how.Defines = true
is_definition how.Tentative = false
is_definition how.Refused = false
is_definition how.Declares = false

abbrev pub defined_by : Stated → List (List ℕ)
defined_by s = if is_definition s.how then s.name ∷ [] else []

abbrev pub defined : List Stated → List (List ℕ)
defined [] = []
defined (s ∷ ss) = defined_by s ++ defined ss
