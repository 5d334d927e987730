-- String literals (ISO C11 6.4.5): pieces that stand behind one another are one literal (5.1.1.2p1 phase 6). Rule 102 is a
-- piece that isn't closed, 314 an escape that is none or past the range of its unit, 315 pieces whose prefixes differ.
use Rattle.std.specs.Prelude.{ℕ, ◌==◌, ◌++◌, List, [], ◌∷◌, Option, Some, None, map, drop, slice_index, if◌then◌else◌}
use Rattle.std.specs.Str.{chars}
use Rattle.c_literals.specs.declared.prefix.Prefix.{Prefix}
use Rattle.c_literals.specs.declared.prefix.Prefix.TheVariants as prefix
use Rattle.c_literals.specs.CChars.{CChar, c_chars, closed}
use Rattle.c_literals.specs.Units.{units}

-- a piece: its encoding prefix, and its s-chars where it is closed
pub record Piece : Type 0 where
  pub coded : Prefix
  pub content : Option (List CChar)

abbrev pub no_piece : Piece
no_piece = record { coded = prefix.Narrow; content = None }

-- the piece whose opening quote stands at the front
unfoldable pub quoted : Prefix → List ℕ → Piece
quoted p cs = if slice_index cs 0 == 34 then record { coded = p; content = closed 34 (c_chars (drop 1 cs)) } else no_piece

-- behind a `u`: an `8` may belong to the prefix
unfoldable pub behind_u : List ℕ → Piece
behind_u cs = if slice_index cs 0 == 56 then quoted prefix.Utf8 (drop 1 cs) else quoted prefix.Char16 cs

unfoldable pub of_characters : List ℕ → Piece
of_characters cs =
    if slice_index cs 0 == 76 then quoted prefix.Wide (drop 1 cs)
    else if slice_index cs 0 == 85 then quoted prefix.Char32 (drop 1 cs)
    else if slice_index cs 0 == 117 then behind_u (drop 1 cs)
    else quoted prefix.Narrow cs

-- the piece that a text is, given by its bytes
abbrev pub piece_of : List ℕ → Piece
piece_of spelling = of_characters (chars spelling)

-- the numbers of the prefixes: none, `u8`, `u`, `U`, `L`
abbrev pub number : Prefix → ℕ
number prefix.Narrow = 0
number prefix.Utf8 = 1
number prefix.Char16 = 2
number prefix.Char32 = 3
number prefix.Wide = 4

-- 6.4.5p5: pieces without a prefix have that of the others; prefixes that differ have none in common
unfoldable pub meet : Prefix → Prefix → Option Prefix
meet p q =
    if number p == 0 then Some q
    else if number q == 0 then Some p
    else if number p == number q then Some p
    else None

abbrev pub met : Option Prefix → Prefix → Option Prefix
met None q = None
met (Some p) q = meet p q

abbrev pub common_after : Option Prefix → List Piece → Option Prefix
common_after p [] = p
common_after p (x ∷ xs) = common_after (met p x.coded) xs

abbrev pub common : List Piece → Option Prefix
common pieces = common_after (Some prefix.Narrow) pieces

-- what pieces give: one of them isn't closed, or else has a bad escape, or else their units
pub data Outcome : Type 0 where
  Open : Outcome
  Faulty : Outcome
  Units : List ℕ → Outcome

abbrev pub followed : Outcome → Outcome → Outcome
followed Open x = Open
followed Faulty Open = Open
followed Faulty Faulty = Faulty
followed Faulty (Units vs) = Faulty
followed (Units us) Open = Open
followed (Units us) Faulty = Faulty
followed (Units us) (Units vs) = Units (us ++ vs)

abbrev pub of_units : Option (List ℕ) → Outcome
of_units None = Faulty
of_units (Some us) = Units us

abbrev pub of_content : Prefix → Option (List CChar) → Outcome
of_content p None = Open
of_content p (Some es) = of_units (units p es)

abbrev pub outcome : Prefix → List Piece → Outcome
outcome p [] = Units []
outcome p (x ∷ xs) = followed (of_content p x.content) (outcome p xs)

-- the range of an escape is that of the common prefix; without one it is the widest
abbrev pub range : Option Prefix → Prefix
range (Some p) = p
range None = prefix.Char32

pub record Text : Type 0 where
  pub prefix : ℕ
  pub units : List ℕ

pub data Literal : Type 0 where
  Bad : ℕ → Literal
  Of : Text → Literal

abbrev pub literal : Option Prefix → Outcome → Literal
literal p Open = Bad 102
literal p Faulty = Bad 314
literal None (Units us) = Bad 315
literal (Some p) (Units us) = Of (record { prefix = number p; units = us })

-- the literal that the pieces with these spellings are
abbrev pub string_pieces : List (List ℕ) → Literal
string_pieces spellings = literal (common (map piece_of spellings)) (outcome (range (common (map piece_of spellings))) (map piece_of spellings))
