-- The entries of the table by the bytes of their names.
use Rattle.std.specs.Prelude.{ℕ, List, [], ◌∷◌, String, string_bytes}
use Rattle.macro_table.specs.declared.definition.MacroDef.{MacroDef}

abbrev pub named : {A : Type 0} → List (String A × MacroDef) → List (List ℕ × MacroDef)
named [] = []
named (e ∷ es) = (string_bytes e.0, e.1) ∷ named es
