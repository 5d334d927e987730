-- The position of a byte of a text, and the byte of a position (LSP 3.17, Position).
use Rattle.std.specs.Prelude.{◌≡◌, ◌++◌, Option, Some, None, ℕ, ◌+◌, ◌-◌, nat_lt, ◌==◌, cond, List, [], ◌∷◌}
use Rattle.std.specs.Str.{chars}
use Rattle.text_lines.specs.declared.encoding.Encoding.{Encoding}
use Rattle.text_lines.specs.declared.encoding.Encoding.TheVariants.{Utf8}
use Rattle.text_lines.specs.declared.pos.Pos.{Pos}
use Rattle.text_lines.specs.Lines.{Lines, Last, Ended, lines, content}
use Rattle.text_lines.specs.Units.{units, fitting}

-- the position on line n after those of its code points that lie wholly within its first k bytes
abbrev pub pos_on : Encoding → ℕ → List ℕ → ℕ → Pos
pos_on enc n line k = record { line = n; character = units enc (fitting Utf8 k line) }

-- the position k bytes on in these lines, the first of which is line n
abbrev pub pos_in : Encoding → ℕ → Lines → ℕ → Pos
pos_in enc n (Last line) k = pos_on enc n line k
pos_in enc n (Ended line more) k =
    cond (nat_lt k (units Utf8 line)) (pos_on enc n line k) (pos_in enc (n + 1) more (k - units Utf8 line))

-- the position of a byte of a text, or of its end. An offset inside a code point means the front of that code point
unfoldable pub pos_at : List ℕ → ℕ → Encoding → Pos
pos_at text offset enc = pos_in enc 0 (lines (chars text)) offset

-- the bytes in front of the place that is n lines on, and so many code units on its line. A place inside a code point
-- means its front, one past the line's end the line's end before its mark, and a line past the last the end of all
abbrev pub offset_in : Encoding → Lines → ℕ → ℕ → ℕ
offset_in enc (Last line) n character =
    cond (n == 0) (units Utf8 (fitting enc character (content line))) (units Utf8 line)
offset_in enc (Ended line more) n character =
    cond (n == 0) (units Utf8 (fitting enc character (content line))) (units Utf8 line + offset_in enc more (n - 1) character)

-- the offset in bytes of a position in a text
unfoldable pub offset_of : List ℕ → Pos → Encoding → ℕ
offset_of text pos enc = offset_in enc (lines (chars text)) pos.line pos.character

-- where the lines after the first begin, the first of which begins at the byte `at`
abbrev pub starts_after : ℕ → Lines → List ℕ
starts_after at (Last line) = []
starts_after at (Ended line more) = (at + units Utf8 line) ∷ starts_after (at + units Utf8 line) more

-- the bytes at which the lines of a text begin
unfoldable pub line_starts : List ℕ → List ℕ
line_starts text = 0 ∷ starts_after 0 (lines (chars text))

-- the n-th of these lines, counted from 0
abbrev pub line_at : Lines → ℕ → Option (List ℕ)
line_at (Last line) n = cond (n == 0) (Some line) None
line_at (Ended line more) n = cond (n == 0) (Some line) (line_at more (n - 1))

-- a position that is a place of the text: its line's end before the end mark, or the front of a code point before that
pub record IsPlace (text : List ℕ) (pos : Pos) (enc : Encoding) : Type 0 where
  pub line : List ℕ
  pub before : List ℕ
  pub behind : List ℕ
  pub found : line_at (lines (chars text)) pos.line ≡ Some line
  pub parts : content line ≡ before ++ behind
  pub counted : units enc before ≡ pos.character
