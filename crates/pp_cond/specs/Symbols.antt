-- What the tokens of a condition are after expansion (ISO C11 6.10.1p4): identifiers that are left, keywords too, are 0;
-- integer and character constants are numbers of type intmax_t or uintmax_t; nothing else but punctuators has a place.
use Rattle.std.specs.Prelude.{ℕ, Bool, false, ◌||◌, ◌==◌, not, List, pos, int_lt, if◌then◌else◌, bytes_eq, codes}
use Rattle.std.specs.List.{list_any}
use Rattle.tok_data.specs.declared.tokens.PpKind.{PpKind}
use Rattle.tok_data.specs.declared.tokens.PpKind.TheVariants as pp
use Rattle.tok_data.specs.declared.tokens.OutToken.{OutToken}
use Rattle.type_data.specs.declared.values.Value.TheVariants.{Known}
use Rattle.type_data.specs.Ranges.{is_signed}
use Rattle.c_literals.specs.declared.literal.Literal.{Literal}
use Rattle.c_literals.specs.declared.literal.Literal.TheVariants as literal
use Rattle.c_literals.specs.Floating.{integer}
use Rattle.c_literals.specs.Character.{character}
use Rattle.pp_cond.specs.declared.marks.Mark.TheVariants.{Other}
use Rattle.pp_cond.specs.declared.symbols.Symbol.{Symbol}
use Rattle.pp_cond.specs.declared.symbols.Symbol.TheVariants.{Constant, Mark}
use Rattle.pp_cond.specs.Marks.{mark_of}
use Rattle.pp_cond.specs.Numbers.{signed}

-- 6.4.4.1: of an integer constant only its unsigned-suffix has this letter
abbrev pub has_unsigned_suffix : List ℕ → Bool
has_unsigned_suffix text = list_any (λ c. c == 117 || c == 85) text

-- an integer constant is unsigned by its suffix, or where intmax_t doesn't have its value
abbrev pub of_integer : List ℕ → Literal → Symbol
of_integer text (literal.Int ty z) =
    Constant (record { unsigned = has_unsigned_suffix text || int_lt (pos 9223372036854775807) z; value = Known z })
of_integer text (literal.Floating ty) = Mark Other
of_integer text (literal.Bad rule) = Mark Other

abbrev pub number : List ℕ → Symbol
number text = of_integer text (integer text)

-- a character constant is unsigned where its type is: `u'x'` and `U'x'` are
abbrev pub of_character : Literal → Symbol
of_character (literal.Int ty z) = Constant (record { unsigned = not (is_signed ty); value = Known z })
of_character (literal.Floating ty) = Mark Other
of_character (literal.Bad rule) = Mark Other

abbrev pub character_constant : List ℕ → Symbol
character_constant text = of_character (character text)

abbrev pub one_if : Bool → Symbol
one_if holds = Constant (signed (Known (if holds then pos 1 else pos 0)))

-- `defined` that has no operand has no value
abbrev pub word : List ℕ → Symbol
word text = if bytes_eq text (codes "defined") then Mark Other else one_if false

abbrev pub spelled : PpKind → List ℕ → Symbol
spelled pp.Ident text = word text
spelled pp.Number text = number text
spelled pp.Char text = character_constant text
spelled pp.Str text = Mark Other
spelled pp.Header text = Mark Other
spelled pp.Punct text = Mark (mark_of text)
spelled pp.Stray text = Mark Other

abbrev pub symbol_of : OutToken → Symbol
symbol_of t = spelled t.kind t.spelling
