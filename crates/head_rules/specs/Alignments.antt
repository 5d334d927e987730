-- Alignment specifiers (ISO C11 6.7.5): what those of one list state together.
use Rattle.std.specs.Prelude.{ℕ, ℤ, pos, negsuc, Bool, true, false, ◌||◌, ◌==◌, int_lt, Option, Some, None, if◌then◌else◌}
use Rattle.std.specs.Int.{is_power_of_two}
use Rattle.type_data.specs.declared.judged.Fault.{Fault}
use Rattle.type_data.specs.declared.values.Value.{Value}
use Rattle.type_data.specs.declared.values.Value.TheVariants.{Known, Unknown, Faulty}
use Rattle.type_data.specs.Types.{Ty}
use Rattle.type_rel.specs.Completeness.{is_complete}
use Rattle.type_rel.specs.Kinds.{Tagging, is_bad}
use Rattle.type_rel.specs.Sizes.{Sized, size_align}
use Rattle.head_rules.specs.declared.alignments.Alignment.{Alignment}
use Rattle.head_rules.specs.Faults.{plain}

abbrev pub unaligned : Alignment
unaligned = record { value = None; at = None; faulty = false }

abbrev pub first : Option ℕ → ℕ → ℕ
first (Some k) n = k
first None n = n

-- p6: the strictest counts; one that isn't known counts as none
abbrev pub greater : ℤ → ℤ → ℤ
greater a b = if int_lt a b then b else a

abbrev pub stricter_than : ℤ → Value → Value
stricter_than a (Known b) = Known (greater a b)
stricter_than a Unknown = Known a
stricter_than a (Faulty rule) = Known a

abbrev pub stricter : Option Value → Value → Value
stricter None v = v
stricter (Some (Known a)) v = stricter_than a v
stricter (Some Unknown) v = v
stricter (Some (Faulty rule)) v = v

-- p3: a power of two; p6: or 0, which has no effect
abbrev pub is_number : ℤ → Bool
is_number (pos n) = n == 0 || is_power_of_two n
is_number (negsuc n) = false

abbrev pub is_alignment : Value → Bool
is_alignment (Known z) = is_number z
is_alignment Unknown = true
is_alignment (Faulty rule) = true

-- a part of it has a fault
abbrev pub failing : ℕ → Alignment → Alignment
failing n a = record { value = a.value; at = Some (first a.at n); faulty = true }

abbrev pub stated : ℕ → Value → Alignment → Alignment
stated n v a = record { value = Some (stricter a.value v); at = Some (first a.at n); faulty = a.faulty }

-- 417 stands on the first of them, once
abbrev pub fault_of : ℕ → Alignment → Option Fault
fault_of n a = if a.faulty then None else Some (plain 417 (first a.at n))

abbrev pub refused : ℕ → Alignment → Alignment × Option Fault
refused n a = (failing n a, fault_of n a)

abbrev pub by_value : ℕ → Value → Alignment → Alignment × Option Fault
by_value n v a = if is_alignment v then (stated n v a, None) else refused n a

-- `_Alignas ( constant-expression )`, whose keyword is the token n; no value where the expression has a fault, which was told
abbrev pub by_expression : ℕ → Option Value → Alignment → Alignment × Option Fault
by_expression n (Some v) a = by_value n v a
by_expression n None a = (failing n a, None)

-- `_Alignas ( type-name )`: p5, the alignment of the type, which is a complete object type (6.5.3.4p1)
abbrev pub by_size : ℕ → Bool → Option Sized → Alignment → Alignment × Option Fault
by_size n complete (Some own) a = by_value n (Known (pos own.1)) a
by_size n complete None a = if complete then by_value n Unknown a else refused n a

abbrev pub by_type : ℕ → Tagging → Ty → Alignment → Alignment × Option Fault
by_type n tags t a = if is_bad t then (failing n a, None) else by_size n (is_complete tags t) (size_align tags t) a
