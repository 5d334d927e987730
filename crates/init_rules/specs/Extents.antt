-- How many elements the array that is initialized has got, and its type then (ISO C11 6.7.9p22).
use Rattle.std.specs.Prelude.{ℕ, ◌==◌, nat_lt, nat_le, Option, Some, None, if◌then◌else◌}
use Rattle.type_data.specs.declared.qualifiers.Extent.{Extent}
use Rattle.type_data.specs.declared.qualifiers.Extent.TheVariants as extent
use Rattle.type_data.specs.Types.{Ty, Array_of}
use Rattle.init_rules.specs.declared.state.InitState.{InitState}
use Rattle.init_rules.specs.declared.state.OpenPlace.{OpenPlace}
use Rattle.init_rules.specs.Places.{beyond}

abbrev pub lesser : ℕ → ℕ → ℕ
lesser m n = if nat_le m n then m else n

abbrev pub greater : ℕ → ℕ → ℕ
greater m n = if nat_le m n then n else m

-- of an array, by the number of its next element
abbrev pub counted : Ty → ℕ → ℕ
counted (Array_of t q (extent.Size n)) next = lesser next n
counted (Array_of t q extent.None) next = next
counted (Array_of t q extent.Unknown) next = next
counted t next = 0

abbrev pub got : Option OpenPlace → ℕ
got None = 0
got (Some p) = counted p.ty p.next

-- more than 2^64-1 elements are none that is stated; an array that got none stays as it is
unfoldable pub extent_of : ℕ → Extent
extent_of n = if n == 0 then extent.None else if nat_lt n beyond then extent.Size n else extent.Unknown

abbrev pub completed_type : ℕ → Ty → Ty
completed_type n (Array_of t q extent.None) = Array_of t q (extent_of n)
completed_type n t = t

abbrev pub completed : InitState → Ty
completed s = completed_type s.reached s.ty
