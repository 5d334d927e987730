-- The fault of a statement.
use Rattle.std.specs.Prelude.{ℕ, List}
use Rattle.type_data.specs.declared.judged.Fault.{Fault}
use Rattle.type_data.specs.Types.{Ty}

-- the rule that is broken, the token that it is told of, and what its text prints
abbrev pub fault : ℕ → ℕ → List (List ℕ) → List Ty → Fault
fault rule at names types = record { rule = rule; at = at; names = names; types = types }
