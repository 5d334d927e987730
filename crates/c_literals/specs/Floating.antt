-- Floating constants (ISO C11 6.4.4.2), and what a preprocessing number is as a constant. Rule 312 is one that is none.
use Rattle.std.specs.Prelude.{ℕ, Bool, true, false, not, ◌&&◌, ◌||◌, ◌==◌, List, Option, Some, None, length, drop, slice_index, if◌then◌else◌}
use Rattle.type_data.specs.declared.basics.Basic.{Basic}
use Rattle.type_data.specs.declared.basics.Basic.TheVariants as basic
use Rattle.c_literals.specs.declared.literal.Literal.{Literal}
use Rattle.c_literals.specs.declared.literal.Literal.TheVariants as literal
use Rattle.c_literals.specs.Digits.{run, begins_with}
use Rattle.c_literals.specs.Integer.{has_prefix, integer_constant}

-- what stands behind the digits at the front
abbrev pub behind : ℕ → List ℕ → List ℕ
behind base text = drop (run base text) text

-- a floating-suffix, or nothing
unfoldable pub floating_suffix : List ℕ → Option Basic
floating_suffix text =
    if length text == 0 then Some basic.Double
    else if length text == 1 && begins_with 102 70 text then Some basic.Float
    else if length text == 1 && begins_with 108 76 text then Some basic.LongDouble
    else None

abbrev pub without_sign : List ℕ → List ℕ
without_sign text = if begins_with 43 45 text then drop 1 text else text

-- an exponent's digits, which are decimal ones, behind its letter and sign, and the suffix
unfoldable pub exponent : List ℕ → Option Basic
exponent text = if run 10 (without_sign text) == 0 then None else floating_suffix (behind 10 (without_sign text))

abbrev pub begins_exponent : ℕ → List ℕ → Bool
begins_exponent base text = if base == 16 then begins_with 112 80 text else begins_with 101 69 text

-- what follows the digits and the point: a hexadecimal constant has an exponent, with `p`, and a decimal one without a
-- point has one, with `e`
unfoldable pub ending : ℕ → Bool → List ℕ → Option Basic
ending base pointed text =
    if begins_exponent base text then exponent (drop 1 text)
    else if pointed && base == 10 then floating_suffix text
    else None

-- digits, and where a point stands behind them digits behind that: one digit at least before or behind it
unfoldable pub fraction : ℕ → Bool → List ℕ → Option Basic
fraction base some text = if some || not (run base text == 0) then ending base true (behind base text) else None

unfoldable pub floating : ℕ → List ℕ → Option Basic
floating base text =
    if slice_index (behind base text) 0 == 46 then fraction base (not (run base text == 0)) (drop 1 (behind base text))
    else if run base text == 0 then None
    else ending base false (behind base text)

unfoldable pub floating_constant : List ℕ → Option Basic
floating_constant text = if has_prefix text then floating 16 (drop 2 text) else floating 10 text

abbrev pub of_floating : Option Basic → Literal
of_floating (Some ty) = literal.Floating ty
of_floating None = literal.Bad 312

abbrev pub or_floating : List ℕ → Option Literal → Literal
or_floating text (Some found) = found
or_floating text None = of_floating (floating_constant text)

-- the constant that a preprocessing number is
abbrev pub integer : List ℕ → Literal
integer text = or_floating text (integer_constant text)
