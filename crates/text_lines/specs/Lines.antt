-- The lines of a text, which is given as its code points (LSP 3.17, Position: a line's end mark is LF, CR LF or CR).
use Rattle.std.specs.Prelude.{ℕ, Bool, not, ◌==◌, ◌&&◌, ◌||◌, cond, List, [], ◌∷◌, slice_index}

-- lines that end with a mark, and at last one that has none
pub data Lines : Type 0 where
  Last : List ℕ → Lines
  Ended : List ℕ → Lines → Lines

-- whether an end mark ends with c: LF does, and CR where no LF follows it
abbrev pub is_line_end : ℕ → List ℕ → Bool
is_line_end c rest = c == 10 || (c == 13 && not (slice_index rest 0 == 10))

-- the lines with c in front of the first
abbrev pub after_char : ℕ → Lines → Lines
after_char c (Last line) = Last (c ∷ line)
after_char c (Ended line more) = Ended (c ∷ line) more

-- each line with its end mark
abbrev pub lines : List ℕ → Lines
lines [] = Last []
lines (c ∷ rest) = cond (is_line_end c rest) (Ended (c ∷ []) (lines rest)) (after_char c (lines rest))

-- a line without its end mark, which is what stands in front of its first CR or LF
abbrev pub content : List ℕ → List ℕ
content [] = []
content (c ∷ rest) = cond (c == 10 || c == 13) [] (c ∷ content rest)
