-- Labels and `goto` (ISO C11 6.8.1p3, 6.8.6.1p1). The innermost scope has the labels of the function (6.2.1p3).
use Rattle.std.specs.Prelude.{ℕ, [], ◌∷◌, List, Option, Some, None}
use Rattle.scope_tables.specs.declared.entities.Entity.{Entity}
use Rattle.scope_tables.specs.Levels.{Scope}
use Rattle.scope_tables.specs.Scopes.{here}
use Rattle.type_data.specs.declared.judged.Fault.{Fault}
use Rattle.type_data.specs.declared.members.Space.TheVariants.{Labels}
use Rattle.stmt_rules.specs.Faults.{fault}

-- a function has a label once
abbrev pub twice : ℕ → List ℕ → Option Entity → Option Fault
twice at name (Some e) = Some (fault 601 at (name ∷ []) [])
twice at name None = None

-- `labels` has those in front of it
abbrev pub label_fault : ℕ → List ℕ → List Scope → Option Fault
label_fault at name labels = twice at name (here Labels name labels)

-- the function has the label of each `goto`
abbrev pub nowhere : ℕ → List ℕ → Option Entity → Option Fault
nowhere at name (Some e) = None
nowhere at name None = Some (fault 610 at (name ∷ []) [])

-- `labels` has all labels of the function
abbrev pub goto_fault : ℕ → List ℕ → List Scope → Option Fault
goto_fault at name labels = nowhere at name (here Labels name labels)
