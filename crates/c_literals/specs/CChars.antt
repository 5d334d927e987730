-- What stands between the quotes of a character constant or of a string literal (ISO C11 6.4.4.4p1, 6.4.5p1), over code
-- points. Universal character names are left out.
use Rattle.std.specs.Prelude.{ℕ, zero, suc, Bool, not, ◌&&◌, ◌||◌, ◌==◌, ◌+◌, ◌-◌, List, [], ◌∷◌, Option, Some, None, option_map, length, drop, slice_index, if◌then◌else◌}
use Rattle.std.specs.Char.{is_digit}
use Rattle.std.specs.Str.Parse.{digits_value}

-- a c-char or an s-char
pub data CChar : Type 0 where
  -- a member of the source character set
  Plain : ℕ → CChar
  -- an escape-sequence, with its value
  Escape : ℕ → CChar
  -- a backslash that begins no escape-sequence
  Stray : CChar

-- one at the front of a text, with the number of its code points
pub record Front : Type 0 where
  pub c_char : CChar
  pub width : ℕ

-- the octal or hexadecimal digits at the front, `most` of them at most
abbrev pub digits : ℕ → ℕ → List ℕ → List ℕ
digits base zero cs = []
digits base (suc most) [] = []
digits base (suc most) (c ∷ cs) = if is_digit c base then c ∷ digits base most cs else []

-- octal-escape-sequence: one, two or three octal-digits behind the backslash
abbrev pub octal : List ℕ → List ℕ
octal behind = digits 8 3 behind

-- hexadecimal-escape-sequence: hexadecimal-digits behind the backslash and the `x`, as many as stand there
abbrev pub hexadecimal : List ℕ → List ℕ
hexadecimal behind = digits 16 (length behind) (drop 1 behind)

-- simple-escape-sequence, with the values of 5.2.2p2 in ASCII
unfoldable pub simple : ℕ → CChar
simple c =
    if c == 39 || c == 34 || c == 63 || c == 92 then Escape c
    else if c == 97 then Escape 7
    else if c == 98 then Escape 8
    else if c == 102 then Escape 12
    else if c == 110 then Escape 10
    else if c == 114 then Escape 13
    else if c == 116 then Escape 9
    else if c == 118 then Escape 11
    else Stray

-- what a backslash begins, by what stands behind it: each escape is the longest that can stand there (6.4.4.4p7)
unfoldable pub escape : List ℕ → Front
escape behind =
    if not (length (octal behind) == 0)
    then record { c_char = Escape (digits_value 8 (octal behind)); width = 1 + length (octal behind) }
    else if slice_index behind 0 == 120 && not (length (hexadecimal behind) == 0)
    then record { c_char = Escape (digits_value 16 (hexadecimal behind)); width = 2 + length (hexadecimal behind) }
    else record { c_char = simple (slice_index behind 0); width = 2 }

unfoldable pub front : ℕ → List ℕ → Front
front c behind = if c == 92 then escape behind else record { c_char = Plain c; width = 1 }

-- the c-chars of a text without its next `skip` code points
abbrev pub c_chars_past : ℕ → List ℕ → List CChar
c_chars_past skip [] = []
c_chars_past zero (c ∷ cs) = (front c cs).c_char ∷ c_chars_past ((front c cs).width - 1) cs
c_chars_past (suc skip) (c ∷ cs) = c_chars_past skip cs

-- c-char-sequence, or s-char-sequence
abbrev pub c_chars : List ℕ → List CChar
c_chars cs = c_chars_past 0 cs

-- nothing stands behind the closing quote
abbrev pub at_end : List CChar → Option (List CChar)
at_end [] = Some []
at_end (e ∷ es) = None

-- a c-char in front of others, if these are closed
abbrev pub before : CChar → Option (List CChar) → Option (List CChar)
before e es = option_map (λ more. e ∷ more) es

abbrev pub is_new_line : ℕ → Bool
is_new_line c = c == 10 || c == 13

-- those in front of the closing quote, which is the text's last c-char; none where a quote stands elsewhere, a new-line
-- among them, or no quote at the end
abbrev pub closed : ℕ → List CChar → Option (List CChar)
closed quote [] = None
closed quote (Plain c ∷ es) =
    if c == quote then at_end es
    else if is_new_line c then None
    else before (Plain c) (closed quote es)
closed quote (Escape n ∷ es) = before (Escape n) (closed quote es)
closed quote (Stray ∷ es) = before Stray (closed quote es)
