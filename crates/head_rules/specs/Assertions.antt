-- Static assertions (ISO C11 6.7.10).
use Rattle.std.specs.Prelude.{ℕ, ℤ, pos, negsuc, Bool, false, ◌==◌, List, [], ◌∷◌, ◌++◌, codes, Option, Some, None, if◌then◌else◌}
use Rattle.type_data.specs.declared.judged.Fault.{Fault}
use Rattle.type_data.specs.declared.values.Value.{Value}
use Rattle.type_data.specs.declared.values.Value.TheVariants.{Known, Unknown, Faulty}
use Rattle.head_rules.specs.Faults.{of_name}

-- the spellings of the pieces of the string, with a space between two
abbrev pub behind : List (List ℕ) → List ℕ
behind [] = []
behind (p ∷ ps) = codes " " ++ (p ++ behind ps)

abbrev pub joined : List (List ℕ) → List ℕ
joined [] = []
joined (p ∷ ps) = p ++ behind ps

abbrev pub is_zero : ℤ → Bool
is_zero (pos n) = n == 0
is_zero (negsuc n) = false

-- p3: the expression compares unequal to 0
abbrev pub fails : Value → Bool
fails (Known z) = is_zero z
fails Unknown = false
fails (Faulty rule) = false

-- 429, on the keyword
abbrev pub fault_of : ℕ → List (List ℕ) → Value → Option Fault
fault_of at pieces v = if fails v then Some (of_name 429 at (joined pieces)) else None

-- no value where the expression has a fault, which was told
abbrev pub assertion : ℕ → List (List ℕ) → Option Value → Option Fault
assertion at pieces (Some v) = fault_of at pieces v
assertion at pieces None = None
