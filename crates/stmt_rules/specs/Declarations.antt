-- A declaration in the first part of a `for` (ISO C11 6.8.5p3): it declares objects alone, of storage class `auto` or `register`.
use Rattle.std.specs.Prelude.{ℕ, nat_lt, Bool, true, false, [], Option, Some, None, if◌then◌else◌}
use Rattle.decl_rules.specs.declared.parts.Storage.{Storage}
use Rattle.decl_rules.specs.declared.parts.Storage.TheVariants as storage
use Rattle.type_data.specs.declared.judged.Fault.{Fault}
use Rattle.stmt_rules.specs.declared.declarations.ForParts.{ForParts}
use Rattle.stmt_rules.specs.Faults.{fault}

abbrev pub is_barred : Storage → Bool
is_barred storage.None = false
is_barred storage.Typedef = true
is_barred storage.Extern = true
is_barred storage.Static = true
is_barred storage.Auto = false
is_barred storage.Register = false

-- the token of another storage class
abbrev pub class_at : Storage → Option ℕ → Option ℕ
class_at s at = if is_barred s then at else None

-- the first of two tokens
abbrev pub first_of : ℕ → Option ℕ → ℕ
first_of n None = n
first_of n (Some m) = if nat_lt m n then m else n

-- else its first token, where it declares a function
abbrev pub of_function : ForParts → Option ℕ
of_function d = if d.function then Some d.first else None

abbrev pub told_at : Option ℕ → Option ℕ → Option ℕ → Option ℕ
told_at (Some n) thread first = Some (first_of n thread)
told_at None (Some m) first = Some m
told_at None None first = first

abbrev pub at_token : Option ℕ → Option Fault
at_token (Some at) = Some (fault 609 at [] [])
at_token None = None

abbrev pub for_fault : ForParts → Option Fault
for_fault d = at_token (told_at (class_at d.storage d.storage_at) d.thread (of_function d))
