-- String literals as initializers of arrays (ISO C11 6.7.9p14, p15).
use Rattle.std.specs.Prelude.{ℕ, Bool, false, not, ◌&&◌, ◌||◌, ◌-◌, ◌==◌, nat_lt, List, [], ◌∷◌, Option, Some, None, if◌then◌else◌}
use Rattle.type_data.specs.declared.basics.Basic.TheVariants as basic
use Rattle.type_data.specs.declared.qualifiers.Extent.TheVariants as extent
use Rattle.type_data.specs.Same.{same_basic}
use Rattle.type_data.specs.Types.{Ty, Basic_type, Array_of}
use Rattle.type_rel.specs.Compatible.{compatible}
use Rattle.type_rel.specs.Kinds.{is_bad}
use Rattle.init_rules.specs.declared.state.OpenPlace.{OpenPlace}
use Rattle.init_rules.specs.Stacks.{top}

-- 6.2.5p15: the character types
abbrev pub is_character : Ty → Bool
is_character (Basic_type b) = same_basic b basic.Char || same_basic b basic.SChar || same_basic b basic.UChar
is_character t = false

abbrev pub is_char : Ty → Bool
is_char (Basic_type b) = same_basic b basic.Char
is_char t = false

-- p14: elements of a character type hold the bytes of a string without a prefix or with `u8`; p15: those of a type that is compatible
-- with wchar_t, char16_t or char32_t hold the units of a string with its prefix
abbrev pub holds_units : Ty → Ty → Bool
holds_units t u = if is_char u then is_character t else not (is_bad t) && compatible t u

abbrev pub takes_text : Ty → Ty → Bool
takes_text (Array_of t q n) (Array_of u r m) = holds_units t u
takes_text t u = false

-- elements whose type has a fault may be such ones
abbrev pub may_take_text : Ty → Ty → Bool
may_take_text (Array_of t q n) (Array_of u r m) = is_bad t || holds_units t u
may_take_text t u = false

-- the elements of a string literal, the zero at its end among them
abbrev pub length_of : Ty → ℕ
length_of (Array_of t q (extent.Size n)) = n
length_of t = 0

-- p14: the zero at the end is left out where there is no room for it
abbrev pub is_too_long : Ty → Ty → Bool
is_too_long (Array_of t q (extent.Size n)) u = nat_lt n (length_of u - 1)
is_too_long t u = false

-- p14: braces may stand round a string for a whole array: it is the first of its list
abbrev pub fills_place : Ty → OpenPlace → Bool
fills_place u p = p.braced && p.next == 0 && takes_text p.ty u

abbrev pub fills : Bool → Ty → Option OpenPlace → Bool
fills designating u None = false
fills designating u (Some p) = not designating && fills_place u p

-- the types that the elements of string literals have
abbrev pub is_unit : Ty → Bool
is_unit t = is_character t || compatible t (Basic_type basic.Int) || compatible t (Basic_type basic.UShort) || compatible t (Basic_type basic.UInt)

-- the array's elements, or the string and not the elements, have a fault
abbrev pub is_unsure : Ty → Ty → Bool
is_unsure u (Array_of t q n) = is_bad t || (is_bad u && is_unit t)
is_unsure u t = false

-- it isn't known whether the string stands for the whole array
abbrev pub may_fill_place : Ty → OpenPlace → Bool
may_fill_place u p = p.braced && p.next == 0 && is_unsure u p.ty

abbrev pub may_fill : Bool → Ty → Option OpenPlace → Bool
may_fill designating u None = false
may_fill designating u (Some p) = not designating && may_fill_place u p

-- the string then stands there in place of the array, as the one initializer that a scalar takes
abbrev pub filled : Ty → List OpenPlace → List OpenPlace
filled t [] = []
filled t (p ∷ ps) = record p { ty = t; next = 1 } ∷ ps

-- p22: it tells the number of elements where no place is round it, so that this is the array that is initialized
abbrev pub outermost_length : Ty → Option OpenPlace → ℕ
outermost_length u None = length_of u
outermost_length u (Some p) = 0

abbrev pub filled_length : Ty → List OpenPlace → ℕ
filled_length u [] = 0
filled_length u (p ∷ ps) = outermost_length u (top ps)
