-- The classes of ISO C11 6.4 in the productions of its Annex A.1: which sequences of characters, given by their first
-- bytes, are members. Characters are those of the source character set and whatever else a text holds.
use Rattle.std.specs.Prelude.{◌≡◌, ℕ, ◌<◌, ◌≤◌, Bool, true, false, ◌&&◌, ◌||◌, not, List, [], ◌∷◌, ◌++◌, take, length, ◌⊎◌, ◌==◌, slice_index, bytes_eq, codes}
use Rattle.std.specs.List.{list_all}
use Rattle.c_tokens.specs.declared.pieces.Class.{Class}
use Rattle.c_tokens.specs.declared.pieces.Class.TheVariants.{Blank, LineEnd, Comment, Token, OpenLiteral, OpenComment}
use Rattle.tok_data.specs.declared.tokens.PpKind.{PpKind}
use Rattle.tok_data.specs.declared.tokens.PpKind.TheVariants.{Ident, Number, Char, Str, Header as HeaderName, Punct, Stray}
use Rattle.c_tokens.specs.declared.pieces.Context.{Context}
use Rattle.c_tokens.specs.declared.pieces.Context.TheVariants.{Include}
use Rattle.c_tokens.specs.Logical.{is_line_end}
use Rattle.c_tokens.specs.Classes.{is_blank, is_digit, is_nondigit, is_word_part, is_exponent, is_sign}
use Rattle.c_tokens.specs.Pieces.{first_front}

-- identifier (6.4.2.1): a nondigit, and nondigits and digits behind it
abbrev pub is_identifier : List ℕ → Bool
is_identifier w = is_nondigit (slice_index w 0) && list_all is_word_part w

-- pp-number (6.4.8)
pub data IsNumber : List ℕ → Type 0 where
  digit : (d : ℕ) → is_digit d ≡ true → IsNumber (d ∷ [])
  point_digit : (d : ℕ) → is_digit d ≡ true → IsNumber (46 ∷ d ∷ [])
  number_digit : (w : List ℕ) (d : ℕ) → IsNumber w → is_digit d ≡ true → IsNumber (w ++ d ∷ [])
  number_nondigit : (w : List ℕ) (c : ℕ) → IsNumber w → is_nondigit c ≡ true → IsNumber (w ++ c ∷ [])
  number_sign : (w : List ℕ) (e sign : ℕ) → IsNumber w → is_exponent e ≡ true → is_sign sign ≡ true → IsNumber (w ++ e ∷ sign ∷ [])
  number_point : (w : List ℕ) → IsNumber w → IsNumber (w ++ 46 ∷ [])

-- c-char (6.4.4.4) and s-char (6.4.5), by their quote: any character but the quote, the backslash and a line end, or an
-- escape sequence, of which this phase asks for one character behind the backslash
pub data IsChar (quote : ℕ) : List ℕ → Type 0 where
  member : (c : ℕ) → c == quote ≡ false → c == 92 ≡ false → is_line_end c ≡ false → IsChar quote (c ∷ [])
  escape : (c : ℕ) → is_line_end c ≡ false → IsChar quote (92 ∷ c ∷ [])

-- c-char-sequence and s-char-sequence, and the empty sequence
pub data AreChars (quote : ℕ) : List ℕ → Type 0 where
  no_char : AreChars quote []
  and_char : (cs c : List ℕ) → AreChars quote cs → IsChar quote c → AreChars quote (cs ++ c)

-- character-constant (6.4.4.4), here also with nothing between the quotes
pub data IsCharacterConstant : List ℕ → Type 0 where
  constant : (cs : List ℕ) → AreChars 39 cs → IsCharacterConstant (codes "'" ++ (cs ++ codes "'"))
  constant_L : (cs : List ℕ) → AreChars 39 cs → IsCharacterConstant (codes "L'" ++ (cs ++ codes "'"))
  constant_u : (cs : List ℕ) → AreChars 39 cs → IsCharacterConstant (codes "u'" ++ (cs ++ codes "'"))
  constant_U : (cs : List ℕ) → AreChars 39 cs → IsCharacterConstant (codes "U'" ++ (cs ++ codes "'"))

-- string-literal (6.4.5), without and with each encoding-prefix
pub data IsStringLiteral : List ℕ → Type 0 where
  string : (cs : List ℕ) → AreChars 34 cs → IsStringLiteral (codes "\"" ++ (cs ++ codes "\""))
  string_u8 : (cs : List ℕ) → AreChars 34 cs → IsStringLiteral (codes "u8\"" ++ (cs ++ codes "\""))
  string_u : (cs : List ℕ) → AreChars 34 cs → IsStringLiteral (codes "u\"" ++ (cs ++ codes "\""))
  string_U : (cs : List ℕ) → AreChars 34 cs → IsStringLiteral (codes "U\"" ++ (cs ++ codes "\""))
  string_L : (cs : List ℕ) → AreChars 34 cs → IsStringLiteral (codes "L\"" ++ (cs ++ codes "\""))

-- header-name (6.4.7): one or more characters without a line end and the closing delimiter
abbrev pub is_h_char : ℕ → Bool
is_h_char c = not (is_line_end c) && not (c == 62)

abbrev pub is_q_char : ℕ → Bool
is_q_char c = not (is_line_end c) && not (c == 34)

pub data IsHeaderName : List ℕ → Type 0 where
  angled : (c : ℕ) (cs : List ℕ) → list_all is_h_char (c ∷ cs) ≡ true → IsHeaderName (codes "<" ++ (c ∷ cs ++ codes ">"))
  quoted : (c : ℕ) (cs : List ℕ) → list_all is_q_char (c ∷ cs) ≡ true → IsHeaderName (codes "\"" ++ (c ∷ cs ++ codes "\""))

-- punctuator (6.4.6)
abbrev pub punctuators : List (List ℕ)
punctuators =
    codes "[" ∷ codes "]" ∷ codes "(" ∷ codes ")" ∷ codes "{" ∷ codes "}" ∷ codes "." ∷ codes "->"
    ∷ codes "++" ∷ codes "--" ∷ codes "&" ∷ codes "*" ∷ codes "+" ∷ codes "-" ∷ codes "~" ∷ codes "!"
    ∷ codes "/" ∷ codes "%" ∷ codes "<<" ∷ codes ">>" ∷ codes "<" ∷ codes ">" ∷ codes "<=" ∷ codes ">="
    ∷ codes "==" ∷ codes "!=" ∷ codes "^" ∷ codes "|" ∷ codes "&&" ∷ codes "||"
    ∷ codes "?" ∷ codes ":" ∷ codes ";" ∷ codes "..."
    ∷ codes "=" ∷ codes "*=" ∷ codes "/=" ∷ codes "%=" ∷ codes "+=" ∷ codes "-=" ∷ codes "<<=" ∷ codes ">>="
    ∷ codes "&=" ∷ codes "^=" ∷ codes "|="
    ∷ codes "," ∷ codes "#" ∷ codes "##"
    ∷ codes "<:" ∷ codes ":>" ∷ codes "<%" ∷ codes "%>" ∷ codes "%:" ∷ codes "%:%:" ∷ []

abbrev pub is_among : List ℕ → List (List ℕ) → Bool
is_among w [] = false
is_among w (p ∷ ps) = bytes_eq w p || is_among w ps

abbrev pub is_punctuator : List ℕ → Bool
is_punctuator w = is_among w punctuators

-- comments (6.4.9): `/*` up to the first `*/`, and `//` up to the line end
abbrev pub StandsIn : List ℕ → List ℕ → Type 0
StandsIn part w = (before behind : List ℕ) × (w ≡ before ++ (part ++ behind))

pub data IsComment : List ℕ → Type 0 where
  block : (cs : List ℕ) → ¬ StandsIn (codes "*/") cs → IsComment (codes "/*" ++ (cs ++ codes "*/"))
  line : (cs : List ℕ) → list_all (λ c. not (is_line_end c)) cs ≡ true → IsComment (codes "//" ++ cs)

-- white space (6.4): one or more of space, horizontal tab, vertical tab and form feed
pub data AreBlanks : List ℕ → Type 0 where
  blanks : (c : ℕ) (cs : List ℕ) → list_all is_blank (c ∷ cs) ≡ true → AreBlanks (c ∷ cs)

-- and a line end
pub data IsLineEnd : List ℕ → Type 0 where
  line_end : (c : ℕ) → is_line_end c ≡ true → IsLineEnd (c ∷ [])

-- the members of a class; what is open and a stray character are none
abbrev pub IsMember : Class → List ℕ → Type 0
IsMember Blank w = AreBlanks w
IsMember LineEnd w = IsLineEnd w
IsMember Comment w = IsComment w
IsMember (Token Ident) w = is_identifier w ≡ true
IsMember (Token Number) w = IsNumber w
IsMember (Token Char) w = IsCharacterConstant w
IsMember (Token Str) w = IsStringLiteral w
IsMember (Token HeaderName) w = IsHeaderName w
IsMember (Token Punct) w = is_punctuator w ≡ true
IsMember (Token Stray) w = ⊥
IsMember (OpenLiteral kind) w = ⊥
IsMember OpenComment w = ⊥

-- a header name is a token only where one may stand
abbrev pub may_stand : Class → Context → Bool
may_stand (Token HeaderName) Include = true
may_stand (Token HeaderName) _ = false
may_stand _ context = true

-- what a piece may be: a member of a class that may stand there
abbrev pub IsPiece : Context → List ℕ → Type 0
IsPiece context w = (class : Class) × (may_stand class context ≡ true) × IsMember class w

-- no longer front is a piece
abbrev pub IsLongest : Context → List ℕ → ℕ → Type 0
IsLongest context cs size = (n : ℕ) → size < n → n ≤ length cs → ¬ IsPiece context (take n cs)

-- of whatever characters, the first piece is the longest front that is one
abbrev pub FrontIsLongest : List ℕ → Type 0
FrontIsLongest cs = (context : Context) → IsLongest context cs (first_front context cs).size

-- a piece that is neither open nor a stray character
abbrev pub is_whole : Class → Bool
is_whole OpenComment = false
is_whole (OpenLiteral kind) = false
is_whole (Token Stray) = false
is_whole _ = true

-- and it is a member of its class, which may stand there, unless it is open or a stray character
abbrev pub FrontIsPiece : List ℕ → Type 0
FrontIsPiece cs =
    (context : Context) → 0 < length cs → is_whole (first_front context cs).class ≡ true
    → (may_stand (first_front context cs).class context ≡ true) × IsMember (first_front context cs).class (take (first_front context cs).size cs)

-- a stray character stands where no front is a piece, an open literal where none is a literal, and an open comment
-- where none is a comment
abbrev pub StrayIsNoPiece : List ℕ → Type 0
StrayIsNoPiece cs = (context : Context) (n : ℕ) → 0 < n → n ≤ length cs → (first_front context cs).class ≡ Token Stray → ¬ IsPiece context (take n cs)

abbrev pub IsLiteral : List ℕ → Type 0
IsLiteral w = IsCharacterConstant w ⊎ IsStringLiteral w

abbrev pub OpenIsNoLiteral : List ℕ → Type 0
OpenIsNoLiteral cs = (context : Context) (n : ℕ) (kind : PpKind) → n ≤ length cs → (first_front context cs).class ≡ OpenLiteral kind → ¬ IsLiteral (take n cs)

abbrev pub OpenIsNoComment : List ℕ → Type 0
OpenIsNoComment cs = (context : Context) (n : ℕ) → n ≤ length cs → (first_front context cs).class ≡ OpenComment → ¬ IsComment (take n cs)
