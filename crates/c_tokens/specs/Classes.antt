-- The kinds of characters in the lexical elements of ISO C11 6.4, and the states by which the members of a class that can
-- go on are read, from one character to the next; a state that allows no more characters ends it.
use Rattle.std.specs.Prelude.{ℕ, ◌+◌, Bool, false, ◌&&◌, ◌||◌, List, [], ◌∷◌, Option, Some, None, if◌then◌else◌, nat_le, ◌==◌, slice_index}
use Rattle.std.specs.Option.{option_map_or}
use Rattle.c_tokens.specs.declared.classes.State.{State}
use Rattle.c_tokens.specs.declared.classes.State.TheVariants.{Blanks, Line, Block, Star, BlockEnd, Word, Digits, Exponent, Text, Escape, TextEnd, HeaderFront, Header, HeaderEnd}
use Rattle.c_tokens.specs.Logical.{is_line_end}

-- space, horizontal tab, vertical tab and form feed (6.4)
abbrev pub is_blank : ℕ → Bool
is_blank c = c == 32 || c == 9 || c == 11 || c == 12

-- 6.4.2.1
abbrev pub is_digit : ℕ → Bool
is_digit c = nat_le 48 c && nat_le c 57

abbrev pub is_nondigit : ℕ → Bool
is_nondigit c = (nat_le 65 c && nat_le c 90) || (nat_le 97 c && nat_le c 122) || c == 95

abbrev pub is_word_part : ℕ → Bool
is_word_part c = is_nondigit c || is_digit c

-- the letters e, E, p, P, after which a sign belongs to a number, and the signs (6.4.8)
abbrev pub is_exponent : ℕ → Bool
is_exponent c = c == 101 || c == 69 || c == 112 || c == 80

abbrev pub is_sign : ℕ → Bool
is_sign c = c == 43 || c == 45

abbrev pub is_number_part : ℕ → Bool
is_number_part c = is_word_part c || c == 46

-- what may follow in a state, and the state after it
unfoldable pub next_state : State → ℕ → Option State
-- white space between tokens
next_state Blanks c = if is_blank c then Some Blanks else None
-- comments (6.4.9): `//` up to the line end; behind `/*` up to the first `*/`
next_state Line c = if is_line_end c then None else Some Line
next_state Block c = if c == 42 then Some Star else Some Block
next_state Star c = if c == 47 then Some BlockEnd else (if c == 42 then Some Star else Some Block)
next_state BlockEnd c = None
-- an identifier (6.4.2.1)
next_state Word c = if is_word_part c then Some Word else None
-- a preprocessing number (6.4.8), and one whose last character is an exponent letter
next_state Digits c = if is_exponent c then Some Exponent else (if is_number_part c then Some Digits else None)
next_state Exponent c =
    if is_exponent c then Some Exponent
    else (if is_number_part c || is_sign c then Some Digits else None)
-- behind the opening quote of a character constant or a string literal (6.4.4.4, 6.4.5), behind a backslash in it,
-- and behind its closing quote
next_state (Text quote) c =
    if is_line_end c then None
    else (if c == quote then Some TextEnd
    else (if c == 92 then Some (Escape quote) else Some (Text quote)))
next_state (Escape quote) c = if is_line_end c then None else Some (Text quote)
next_state TextEnd c = None
-- behind the opening delimiter of a header name (6.4.7), whose closing one is given, then behind at least one character
next_state (HeaderFront closing) c = if is_line_end c || c == closing then None else Some (Header closing)
next_state (Header closing) c =
    if is_line_end c then None
    else (if c == closing then Some HeaderEnd else Some (Header closing))
next_state HeaderEnd c = None

-- how many characters may stand from a state on
abbrev pub run : List ℕ → State → ℕ
run [] state = 0
run (c ∷ codes) state = option_map_or (λ next. 1 + run codes next) (next_state state c) 0

-- the state behind them
abbrev pub last_state : List ℕ → State → State
last_state [] state = state
last_state (c ∷ codes) state = option_map_or (λ next. last_state codes next) (next_state state c) state

-- punctuators (6.4.6) by their length
abbrev pub is_single : ℕ → Bool
is_single a =
    a == 91 || a == 93 || a == 40 || a == 41 || a == 123 || a == 125  -- [ ] ( ) { }
    || a == 46 || a == 38 || a == 42 || a == 43 || a == 45 || a == 126  -- . & * + - ~
    || a == 33 || a == 47 || a == 37 || a == 60 || a == 62 || a == 94  -- ! / % < > ^
    || a == 124 || a == 63 || a == 58 || a == 59 || a == 61 || a == 44  -- | ? : ; = ,
    || a == 35  -- #

unfoldable pub is_pair : ℕ → ℕ → Bool
is_pair a b =
    if a == 45 then b == 62 || b == 45 || b == 61  -- -> -- -=
    else (if a == 43 then b == 43 || b == 61  -- ++ +=
    else (if a == 60 then b == 60 || b == 61 || b == 58 || b == 37  -- << <= <: <%
    else (if a == 62 then b == 62 || b == 61  -- >> >=
    else (if a == 61 then b == 61  -- ==
    else (if a == 33 then b == 61  -- !=
    else (if a == 38 then b == 38 || b == 61  -- && &=
    else (if a == 124 then b == 124 || b == 61  -- || |=
    else (if a == 42 then b == 61  -- *=
    else (if a == 47 then b == 61  -- /=
    else (if a == 37 then b == 61 || b == 62 || b == 58  -- %= %> %:
    else (if a == 94 then b == 61  -- ^=
    else (if a == 35 then b == 35  -- ##
    else (if a == 58 then b == 62  -- :>
    else false)))))))))))))

abbrev pub is_triple : ℕ → ℕ → ℕ → Bool
is_triple a b c =
    (a == 46 && b == 46 && c == 46)  -- ...
    || (a == 60 && b == 60 && c == 61)  -- <<=
    || (a == 62 && b == 62 && c == 61)  -- >>=

abbrev pub is_quadruple : ℕ → ℕ → ℕ → ℕ → Bool
is_quadruple a b c d = a == 37 && b == 58 && c == 37 && d == 58  -- %:%:

-- the length of the longest punctuator that four characters begin with (0: none; a character that is missing is 0)
unfoldable pub longest_of_four : ℕ → ℕ → ℕ → ℕ → ℕ
longest_of_four a b c d =
    if is_quadruple a b c d then 4
    else (if is_triple a b c then 3
    else (if is_pair a b then 2
    else (if is_single a then 1
    else 0)))

-- the length of the longest punctuator at the front (0: none)
abbrev pub punctuator_size : List ℕ → ℕ
punctuator_size codes = longest_of_four (slice_index codes 0) (slice_index codes 1) (slice_index codes 2) (slice_index codes 3)
