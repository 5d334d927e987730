-- The fault of a part of a head.
use Rattle.std.specs.Prelude.{ℕ, List, [], ◌∷◌}
use Rattle.type_data.specs.declared.judged.Fault.{Fault}
use Rattle.type_data.specs.Types.{Ty}

-- one whose text prints no name and no type
abbrev pub plain : ℕ → ℕ → Fault
plain rule at = record { rule = rule; at = at; names = []; types = [] }

-- one whose text prints a name
abbrev pub of_name : ℕ → ℕ → List ℕ → Fault
of_name rule at name = record { rule = rule; at = at; names = name ∷ []; types = [] }

-- one whose text prints a name and a type
abbrev pub of_type : ℕ → ℕ → List ℕ → Ty → Fault
of_type rule at name t = record { rule = rule; at = at; names = name ∷ []; types = t ∷ [] }
