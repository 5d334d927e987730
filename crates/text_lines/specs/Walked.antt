-- Positions by one code point at a time, as the private functions tell them from a place on the way.
use Rattle.std.specs.Prelude.{◌≡◌, ℕ, ◌+◌, ◌-◌, ◌≤◌, nat_le, ◌==◌, cond, List, [], ◌∷◌, length}
use Rattle.std.specs.Char.{len_utf8}
use Rattle.std.specs.Str.{chars}
use Rattle.text_lines.specs.Lines.{is_line_end, content}
use Rattle.text_lines.specs.Positions.{pos_at}
use Rattle.text_lines.specs.Units.{units, fitting, code_units}
use Rattle.text_lines.specs.declared.encoding.Encoding.{Encoding}
use Rattle.text_lines.specs.declared.encoding.Encoding.TheVariants.{Utf8}
use Rattle.text_lines.specs.declared.pos.Pos.{Pos}
use Rattle.text_lines.specs.declared.walk.Place.{Place}

-- a position
abbrev pub place : ℕ → ℕ → Pos
place n u = record { line = n; character = u }

-- the position k bytes on, from a place on line n behind u code units of it, where these code points follow
abbrev pub walked : Encoding → ℕ → ℕ → ℕ → List ℕ → Pos
walked enc n u k [] = record { line = n; character = u }
walked enc n u k (c ∷ rest) =
    cond (nat_le (len_utf8 c) k)
    (cond (is_line_end c rest) (walked enc (n + 1) 0 (k - len_utf8 c) rest) (walked enc n (u + code_units enc c) (k - len_utf8 c) rest))
    (record { line = n; character = u })

-- the bytes up to a place that is n lines on, and so many code units on its line, where these code points follow
abbrev pub sought : Encoding → ℕ → ℕ → List ℕ → ℕ
sought enc n character [] = 0
sought enc n character (c ∷ rest) =
    cond (n == 0) (units Utf8 (fitting enc character (content (c ∷ rest))))
    (len_utf8 c + sought enc (cond (is_line_end c rest) (n - 1) n) character rest)

-- the position of the byte k of a text, told from a place in front of it
abbrev pub pos_from : Encoding → Place → ℕ → Pos
pos_from enc p k = walked enc p.line p.character (k - p.at) (chars p.rest.now)

-- a place has no more lines and code units in front of it than bytes
pub record IsBounded (p : Place) (bytes : ℕ) : Type 0 where
  pub rest : p.at + length p.rest.now ≡ bytes
  pub short : bytes ≤ 4290772992
  pub line : p.line ≤ p.at
  pub character : p.character ≤ p.at

-- a place in a text: each position from there on can be told from it
pub record IsPlaceIn (text : List ℕ) (enc : Encoding) (p : Place) : Type 0 where
  pub bounded : IsBounded p (length text)
  pub tells : (k : ℕ) → p.at ≤ k → pos_from enc p k ≡ pos_at text k enc

-- what stays of a walk: its text, and the encoding that it counts in
pub record Walked : Type 0 where
  pub text : List ℕ
  pub encoding : Encoding
