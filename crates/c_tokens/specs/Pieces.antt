-- Translation phase 3 (ISO C11 5.1.1.2, 6.4): logical characters as preprocessing tokens, comments and white space.
use Rattle.std.specs.Prelude.{ℕ, zero, suc, ◌+◌, ◌-◌, Bool, true, false, ◌&&◌, ◌||◌, not, List, [], ◌∷◌, ◌++◌, take, drop, Option, Some, None, if◌then◌else◌, nat_lt, ◌==◌, slice_index, bytes_eq, codes}
use Rattle.tok_data.specs.declared.tokens.PpKind.{PpKind}
use Rattle.tok_data.specs.declared.tokens.PpKind.TheVariants.{Ident, Number, Char, Str, Header as HeaderName, Punct, Stray}
use Rattle.c_tokens.specs.declared.pieces.Class.{Class}
use Rattle.c_tokens.specs.declared.pieces.Class.TheVariants.{Blank, LineEnd, Comment, OpenComment, Token, OpenLiteral}
use Rattle.c_tokens.specs.declared.pieces.Context.{Context}
use Rattle.c_tokens.specs.declared.pieces.Context.TheVariants.{Fresh, Hash, Include, Later}
use Rattle.c_tokens.specs.declared.classes.State.{State}
use Rattle.c_tokens.specs.declared.classes.State.TheVariants.{Blanks, Line, Block, BlockEnd, Word, Digits, Text, TextEnd, HeaderFront, HeaderEnd}
use Rattle.c_tokens.specs.Logical.{Character, codes_of, is_line_end}
use Rattle.c_tokens.specs.Classes.{is_blank, is_digit, is_nondigit, run, last_state, punctuator_size}

-- what stands at the front: its class and how many characters it has
pub record Front : Type 0 where
  pub class : Class
  pub size : ℕ

-- in a state that ends a comment, a literal or a header name
abbrev pub is_closed : State → Bool
is_closed BlockEnd = true
is_closed TextEnd = true
is_closed HeaderEnd = true
is_closed _ = false

abbrev pub is_quote : ℕ → Bool
is_quote c = c == 34 || c == 39

-- a character constant has single quotes, a string literal double quotes
abbrev pub literal_kind : ℕ → PpKind
literal_kind quote = if quote == 39 then Char else Str

-- an encoding prefix of one letter
abbrev pub is_prefix : ℕ → Bool
is_prefix c = c == 76 || c == 117 || c == 85

-- how many characters stand before the quote of the literal at the front, which may be L, u, U, and u8 before a
-- double quote (6.4.4.4, 6.4.5)
unfoldable pub literal_prefix : List ℕ → Option ℕ
literal_prefix cs =
    if is_quote (slice_index cs 0) then Some 0
    else (if is_prefix (slice_index cs 0) && is_quote (slice_index cs 1) then Some 1
    else (if slice_index cs 0 == 117 && slice_index cs 1 == 56 && slice_index cs 2 == 34 then Some 2
    else None))

-- a literal whose quote stands at a place; where it isn't closed it reaches the end of its line
unfoldable pub literal_at : List ℕ → ℕ → Front
literal_at cs place = record {
  class = if is_closed (last_state (drop (place + 1) cs) (Text (slice_index cs place)))
      then Token (literal_kind (slice_index cs place)) else OpenLiteral (literal_kind (slice_index cs place));
  size = place + 1 + run (drop (place + 1) cs) (Text (slice_index cs place));
}

-- the closing delimiter of the header name at the front
abbrev pub closing_of : ℕ → ℕ
closing_of opening = if opening == 60 then 62 else 34

-- the length of the header name at the front (6.4.7; 0: none)
unfoldable pub header_size : List ℕ → ℕ
header_size cs =
    if (slice_index cs 0 == 60 || slice_index cs 0 == 34)
    && is_closed (last_state (drop 1 cs) (HeaderFront (closing_of (slice_index cs 0))))
    then 1 + run (drop 1 cs) (HeaderFront (closing_of (slice_index cs 0)))
    else 0

abbrev pub header_front : List ℕ → Front
header_front cs = record { class = Token HeaderName; size = header_size cs }

-- a comment that begins with `/*`; where it isn't closed it reaches the end of the text
unfoldable pub block_comment : List ℕ → Front
block_comment cs = record {
  class = if is_closed (last_state (drop 2 cs) Block) then Comment else OpenComment;
  size = 2 + run (drop 2 cs) Block;
}

unfoldable pub punctuator_or_stray : List ℕ → Front
punctuator_or_stray cs =
    if nat_lt 0 (punctuator_size cs) then (record { class = Token Punct; size = punctuator_size cs })
    else (record { class = Token Stray; size = 1 })

-- an identifier, a number, a punctuator, or a character that belongs to none of these
unfoldable pub plain_front : List ℕ → Front
plain_front cs =
    if is_nondigit (slice_index cs 0) then (record { class = Token Ident; size = run cs Word })
    else (if is_digit (slice_index cs 0) || (slice_index cs 0 == 46 && is_digit (slice_index cs 1))
    then (record { class = Token Number; size = run cs Digits })
    else punctuator_or_stray cs)

abbrev pub literal_or_plain : Option ℕ → List ℕ → Front
literal_or_plain (Some place) cs = literal_at cs place
literal_or_plain None cs = plain_front cs

-- the longest preprocessing token at the front, or else the open literal or the stray character
unfoldable pub token_front : List ℕ → Front
token_front cs = literal_or_plain (literal_prefix cs) cs

abbrev pub is_token : Class → Bool
is_token (Token kind) = true
is_token _ = false

-- the same where a header name may stand: the longer one of both, and of two as long the header name
unfoldable pub header_or_token : List ℕ → Front
header_or_token cs =
    if nat_lt 0 (header_size cs) && not (is_token (token_front cs).class && nat_lt (header_size cs) (token_front cs).size)
    then header_front cs
    else token_front cs

abbrev pub front_token : Context → List ℕ → Front
front_token Include cs = header_or_token cs
front_token _ cs = token_front cs

-- the longest piece at the front
unfoldable pub first_front : Context → List ℕ → Front
first_front context cs =
    if is_line_end (slice_index cs 0) then (record { class = LineEnd; size = 1 })
    else (if is_blank (slice_index cs 0) then (record { class = Blank; size = run cs Blanks })
    else (if slice_index cs 0 == 47 && slice_index cs 1 == 47 then (record { class = Comment; size = run cs Line })
    else (if slice_index cs 0 == 47 && slice_index cs 1 == 42 then block_comment cs
    else front_token context cs)))

-- the spelling of characters, joined
abbrev pub spelling : List Character → List ℕ
spelling [] = []
spelling (c ∷ cs) = c.spelling ++ spelling cs

-- what of its logical line stands before a token, as far as header names (6.10.2) ask for it: nothing, a `#` alone,
-- `#` and `include`, or anything else
unfoldable pub after_token : Context → List ℕ → Context
after_token Fresh word = if bytes_eq word (codes "#") || bytes_eq word (codes "%:") then Hash else Later
after_token Hash word = if bytes_eq word (codes "include") then Include else Later
after_token Include word = Later
after_token Later word = Later

-- only a line end ends a logical line, and a comment is none
abbrev pub after_piece : Class → Context → List ℕ → Context
after_piece LineEnd context word = Fresh
after_piece (Token kind) context word = after_token context word
after_piece (OpenLiteral kind) context word = Later
after_piece _ context word = context

-- a piece that parts what stands before it from what follows
abbrev pub is_space : Class → Bool
is_space (Token kind) = false
is_space (OpenLiteral kind) = false
is_space _ = true

-- U+FEFF as the very first bytes of a text is white space
abbrev pub is_front_mark : Character → Bool
is_front_mark c = c.own == 0 && bytes_eq c.spelling (0xEF ∷ 0xBB ∷ 0xBF ∷ [])

abbrev pub front_of : Context → Character → List Character → Front
front_of context c cs = if is_front_mark c then (record { class = Blank; size = 1 }) else first_front context (codes_of (c ∷ cs))

-- a piece, and what stands before it: the context of its line, and whether it is white space
pub record Piece : Type 0 where
  pub class : Class
  pub characters : List Character
  pub context : Context
  pub spaced : Bool

-- the pieces of the characters behind the first `skip`, each the longest at the front of what is left
abbrev pub pieces : Context → Bool → ℕ → List Character → List Piece
pieces context spaced skip [] = []
pieces context spaced zero (c ∷ cs) =
    let front : Front = front_of context c cs in
    let own : List Character = take front.size (c ∷ cs) in
    record { class = front.class; characters = own; context = context; spaced = spaced }
    ∷ pieces (after_piece front.class context (spelling own)) (is_space front.class) (front.size - 1) cs
pieces context spaced (suc skip) (c ∷ cs) = pieces context spaced skip cs
