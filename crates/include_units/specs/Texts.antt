-- The logical lines of a text that is read (ISO C11 6.10p1, p2): text lines, and directives, which `#` begins.
use Rattle.std.specs.Prelude.{ℕ, ◌+◌, Bool, true, false, List, [], ◌∷◌, ◌++◌, if◌then◌else◌}
use Rattle.tok_data.specs.declared.sources.TokId.{TokId}
use Rattle.tok_data.specs.declared.tokens.Spelt.TheVariants.{At}
use Rattle.tok_data.specs.declared.tokens.PpToken.{PpToken}
use Rattle.tok_data.specs.declared.tokens.OutToken.{OutToken}
use Rattle.macro_expand.specs.Tokens.{is_hash}
pub use Rattle.include_units.specs.declared.texts.Source.{Source}
pub use Rattle.include_units.specs.declared.texts.Source.TheVariants.{File, Own}
pub use Rattle.include_units.specs.declared.texts.Text.{Text}
pub use Rattle.include_units.specs.declared.texts.Part.{Part}
pub use Rattle.include_units.specs.declared.texts.Part.TheVariants.{Run, Directive}

abbrev pub token : List ℕ → ℕ → TokId
token name at = record { file = name; at = at }

-- a token of a text, by its number there
abbrev pub source_token : List ℕ → ℕ → PpToken → OutToken
source_token name at t = record {
  kind = t.kind;
  spelling = t.spelling;
  space_before = t.space_before;
  spelt = At (token name at);
  site = token name at;
}

abbrev pub source_tokens : List ℕ → ℕ → List PpToken → List OutToken
source_tokens name at [] = []
source_tokens name at (t ∷ ts) = source_token name at t ∷ source_tokens name (at + 1) ts

-- the next token begins a line, or there is none
abbrev pub line_begins : List PpToken → Bool
line_begins [] = true
line_begins (t ∷ ts) = t.line_start

abbrev pub in_line : OutToken → Bool → List (List OutToken) → List (List OutToken)
in_line t true lines = (t ∷ []) ∷ lines
in_line t false [] = (t ∷ []) ∷ []
in_line t false (line ∷ lines) = (t ∷ line) ∷ lines

-- the lines of a text, whose first token has this number
abbrev pub lines_from : List ℕ → ℕ → List PpToken → List (List OutToken)
lines_from name at [] = []
lines_from name at (t ∷ ts) = in_line (source_token name at t) (line_begins ts) (lines_from name (at + 1) ts)

-- a run of text lines is expanded together
abbrev pub before_run : List OutToken → List Part → List Part
before_run line [] = Run line ∷ []
before_run line (Run more ∷ parts) = Run (line ++ more) ∷ parts
before_run line (Directive hash ts ∷ parts) = Run line ∷ Directive hash ts ∷ parts

abbrev pub before : List OutToken → List Part → List Part
before [] parts = parts
before (t ∷ ts) parts = if is_hash t then Directive t ts ∷ parts else before_run (t ∷ ts) parts

abbrev pub parts_of : List (List OutToken) → List Part
parts_of [] = []
parts_of (line ∷ lines) = before line (parts_of lines)

abbrev pub parts_from : List ℕ → ℕ → List PpToken → List Part
parts_from name at ts = parts_of (lines_from name at ts)

abbrev pub parts : List ℕ → List PpToken → List Part
parts name ts = parts_from name 0 ts
