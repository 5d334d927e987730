-- Alignment specifiers (ISO C11 6.7.5).
use Rattle.std.specs.Prelude.{ℕ, ℤ, pos, negsuc, Bool, true, false, ◌&&◌, ◌||◌, not, nat_lt, ◌==◌, List, Option, Some, None, if◌then◌else◌}
use Rattle.std.specs.Int.{is_power_of_two}
use Rattle.type_data.specs.declared.members.TagInfo.{TagInfo}
use Rattle.type_data.specs.declared.names.TagId.{TagId}
use Rattle.type_data.specs.declared.values.Value.{Value}
use Rattle.type_data.specs.declared.values.Value.TheVariants.{Known, Unknown, Faulty}
use Rattle.type_rel.specs.Sizes.{Sized, size_align}
use Rattle.decl_rules.specs.declared.parts.DeclParts.{DeclParts}
use Rattle.decl_rules.specs.Sorts.{is_register, is_object}

-- p2: on no typedef name, function or parameter, nor on what is declared `register`
abbrev pub is_alignable : DeclParts → Bool
is_alignable d = is_object d && not (is_register d.storage)

-- p4: not less strict than the type asks for, where that is told
abbrev pub is_less_strict : ℕ → Option Sized → Bool
is_less_strict n None = false
is_less_strict n (Some own) = nat_lt n own.1

-- p3: a power of two; p6: 0 has no effect
abbrev pub is_no_alignment : ℤ → Option Sized → Bool
is_no_alignment (pos n) own = if n == 0 then false else not (is_power_of_two n) || is_less_strict n own
is_no_alignment (negsuc n) own = true

abbrev pub is_bad_value : Value → Option Sized → Bool
is_bad_value (Known z) own = is_no_alignment z own
is_bad_value Unknown own = false
is_bad_value (Faulty rule) own = false

abbrev pub is_bad_on : Option Value → DeclParts → List (TagId × TagInfo) → Bool
is_bad_on None d tags = false
is_bad_on (Some v) d tags = not (is_alignable d) || is_bad_value v (size_align tags d.ty)

abbrev pub has_bad_alignment : DeclParts → List (TagId × TagInfo) → Bool
has_bad_alignment d tags = is_bad_on d.align d tags
