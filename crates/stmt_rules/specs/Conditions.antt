-- The conditions of `if` and of loops (ISO C11 6.8.4.1p1, 6.8.5p2): each has scalar type.
use Rattle.std.specs.Prelude.{ℕ, Bool, true, false, ◌||◌, [], ◌∷◌, Option, Some, None, if◌then◌else◌}
use Rattle.type_data.specs.declared.judged.Fault.{Fault}
use Rattle.type_data.specs.declared.judged.Judged.{Judged}
use Rattle.type_data.specs.Types.{Ty, Pointer_to}
use Rattle.type_rel.specs.Assignable.{is_arithmetic}
use Rattle.type_rel.specs.Conversion.{converted}
use Rattle.type_rel.specs.Kinds.{is_bad}
use Rattle.stmt_rules.specs.Faults.{fault}

abbrev pub is_pointer : Ty → Bool
is_pointer (Pointer_to t q) = true
is_pointer t = false

-- 6.2.5p21
abbrev pub is_scalar : Ty → Bool
is_scalar t = is_arithmetic t || is_pointer t

-- of a condition after its conversion
abbrev pub tested : ℕ → ℕ → Ty → Option Fault
tested rule at t = if is_scalar t then None else Some (fault rule at [] (t ∷ []))

-- nothing more is shown of a condition that has a fault
abbrev pub condition : ℕ → ℕ → Judged → Option Fault
condition rule at e = if is_bad e.ty then None else tested rule at (converted e).ty
