-- The fault of a declarator, on its name.
use Rattle.std.specs.Prelude.{ℕ, List, [], ◌∷◌}
use Rattle.type_data.specs.declared.judged.Fault.{Fault}
use Rattle.type_data.specs.Types.{Ty}
use Rattle.decl_rules.specs.declared.parts.DeclParts.{DeclParts}

-- one whose text prints the name, and types
abbrev pub of_name : ℕ → DeclParts → List Ty → Fault
of_name rule d types = record { rule = rule; at = d.at; names = d.name ∷ []; types = types }

-- one whose text prints types alone
abbrev pub of_types : ℕ → DeclParts → List Ty → Fault
of_types rule d types = record { rule = rule; at = d.at; names = []; types = types }
