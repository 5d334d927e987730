-- The classes of ISO C11 6.4 by the states of the scanner: whether it reads a sequence of characters as a member.
use Rattle.std.specs.Prelude.{◌≡◌, ℕ, ◌+◌, ◌<◌, ◌≤◌, Bool, true, false, ◌&&◌, ◌||◌, List, [], ◌∷◌, take, drop, length, Option, Some, None, ◌==◌, slice_index}
use Rattle.std.specs.Option.{option_map_or}
use Rattle.c_tokens.specs.declared.pieces.Context.{Context}
use Rattle.c_tokens.specs.declared.pieces.Context.TheVariants.{Include}
use Rattle.c_tokens.specs.declared.classes.State.{State}
use Rattle.c_tokens.specs.declared.classes.State.TheVariants.{Blanks, Line, Block, Word, Digits, Text, HeaderFront}
use Rattle.c_tokens.specs.Logical.{is_line_end}
use Rattle.c_tokens.specs.Classes.{next_state, last_state, is_blank, is_digit, is_nondigit}
use Rattle.c_tokens.specs.Languages.{is_punctuator}
use Rattle.c_tokens.specs.Pieces.{is_closed, literal_prefix, closing_of}

-- all of the characters may stand from a state on, one after another
abbrev pub accepts : List ℕ → State → Bool
accepts [] state = true
accepts (c ∷ cs) state = option_map_or (λ next. accepts cs next) (next_state state c) false

-- and the last one closes what was opened
abbrev pub closes : List ℕ → State → Bool
closes cs state = accepts cs state && is_closed (last_state cs state)

-- 6.4.2.1: a nondigit, and digits and nondigits behind it
abbrev pub is_identifier : List ℕ → Bool
is_identifier w = is_nondigit (slice_index w 0) && accepts w Word

-- 6.4.8: a digit, or a point and a digit, and what may follow them
abbrev pub is_number : List ℕ → Bool
is_number w = (is_digit (slice_index w 0) || (slice_index w 0 == 46 && is_digit (slice_index w 1))) && accepts w Digits

-- 6.4.4.4, 6.4.5: an encoding prefix or none, a quote, and what stands up to the same quote
abbrev pub is_quoted : Option ℕ → List ℕ → Bool
is_quoted None w = false
is_quoted (Some place) w = closes (drop (place + 1) w) (Text (slice_index w place))

abbrev pub is_literal : List ℕ → Bool
is_literal w = is_quoted (literal_prefix w) w

-- 6.4.7
abbrev pub is_header_name : List ℕ → Bool
is_header_name w = (slice_index w 0 == 60 || slice_index w 0 == 34) && closes (drop 1 w) (HeaderFront (closing_of (slice_index w 0)))

-- 6.4.9
abbrev pub is_comment : List ℕ → Bool
is_comment w =
    (slice_index w 0 == 47 && slice_index w 1 == 47 && accepts w Line)
    || (slice_index w 0 == 47 && slice_index w 1 == 42 && closes (drop 2 w) Block)

-- blanks, or one line end
abbrev pub is_white_space : List ℕ → Bool
is_white_space w = (is_blank (slice_index w 0) && accepts w Blanks) || (is_line_end (slice_index w 0) && length w == 1)

-- a header name is a token only where one may stand
abbrev pub may_be_header : Context → Bool
may_be_header Include = true
may_be_header _ = false

-- what a piece may be
abbrev pub is_piece : Context → List ℕ → Bool
is_piece context w =
    is_identifier w || is_number w || is_literal w || (may_be_header context && is_header_name w) || is_punctuator w
    || is_comment w || is_white_space w

-- no longer front is a piece
abbrev pub IsLongest : Context → List ℕ → ℕ → Type 0
IsLongest context cs size = (n : ℕ) → size < n → n ≤ length cs → is_piece context (take n cs) ≡ false
