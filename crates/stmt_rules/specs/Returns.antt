-- `return` (ISO C11 6.8.6.4p1, p3).
use Rattle.std.specs.Prelude.{ℕ, [], ◌∷◌, Option, Some, None, if◌then◌else◌}
use Rattle.type_data.specs.declared.judged.Fault.{Fault}
use Rattle.type_data.specs.declared.judged.Judged.{Judged}
use Rattle.type_data.specs.Types.{Ty, Void_type, Function_of, Bad_type}
use Rattle.type_rel.specs.Assignable.{assignable}
use Rattle.type_rel.specs.Conversion.{converted}
use Rattle.type_rel.specs.Kinds.{is_bad}
use Rattle.stmt_rules.specs.Faults.{fault}

-- p1: only a function that returns void returns without a value
abbrev pub without_value : ℕ → Ty → Option Fault
without_value at Void_type = None
without_value at Bad_type = None
without_value at t = Some (fault 614 at [] [])

-- p3: the value, here after its conversion, is converted as if by assignment
abbrev pub assigned : ℕ → Ty → Judged → Option Fault
assigned at t v = if assignable t v then None else Some (fault 615 at [] (v.ty ∷ t ∷ []))

-- p1: a function that returns void returns no value
abbrev pub with_value : ℕ → Ty → Judged → Option Fault
with_value at Void_type v = Some (fault 613 at [] [])
with_value at t v = assigned at t v

-- nothing more is shown of a value that has a fault
abbrev pub returned : ℕ → Ty → Option Judged → Option Fault
returned at t None = without_value at t
returned at t (Some e) = if is_bad e.ty then None else with_value at t (converted e)

-- `function` is the type of the function; where that has a fault nothing is shown of what it returns
abbrev pub return_fault : ℕ → Ty → Option Judged → Option Fault
return_fault at (Function_of t ps p) e = returned at t e
return_fault at function e = None
