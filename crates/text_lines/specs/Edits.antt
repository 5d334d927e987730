-- What a change makes of a text (LSP 3.17, TextDocumentContentChangeEvent).
use Rattle.std.specs.Prelude.{ℕ, ◌<◌, List, ◌++◌, take, drop, Option, Some, None}
use Rattle.text_lines.specs.declared.edit.Change.{Change}
use Rattle.text_lines.specs.declared.encoding.Encoding.{Encoding}
use Rattle.text_lines.specs.declared.pos.Pos.{Pos}
use Rattle.text_lines.specs.Positions.{offset_of}

-- the text with the bytes between the two offsets of the range replaced; with no range the new text is the whole text
abbrev pub replaced : List ℕ → Encoding → List ℕ → Option (Pos × Pos) → List ℕ
replaced text enc new None = new
replaced text enc new (Some range) = (take (offset_of text range.0 enc) text ++ new) ++ drop (offset_of text range.1 enc) text

abbrev pub edited : List ℕ → Change → Encoding → List ℕ
edited text change enc = replaced text enc change.text change.range

-- the range's end lies before its start, by their offsets
abbrev pub EndsBefore : List ℕ → Encoding → Option (Pos × Pos) → Type 0
EndsBefore text enc None = ⊥
EndsBefore text enc (Some range) = offset_of text range.1 enc < offset_of text range.0 enc

abbrev pub IsReversed : List ℕ → Change → Encoding → Type 0
IsReversed text change enc = EndsBefore text enc change.range
