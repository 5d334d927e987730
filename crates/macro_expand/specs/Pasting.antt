-- What the operator `##` makes of two tokens (ISO C11 6.10.3.3).
use Rattle.std.specs.Prelude.{ℕ, nat_le, Bool, true, false, List, [], ◌∷◌, ◌++◌, length, Option, Some, None}
use Rattle.std.specs.Prelude.{if◌then◌else◌, bytes_eq, option_map}
use Rattle.tok_data.specs.declared.tokens.PpKind.{PpKind}
use Rattle.tok_data.specs.declared.tokens.PpToken.{PpToken}
use Rattle.tok_data.specs.declared.tokens.Spelt.TheVariants.{Made}
use Rattle.c_tokens.specs.Lexed.{lexed}
use Rattle.macro_expand.specs.declared.types.Marked.{Marked}
use Rattle.macro_expand.specs.HideSets.{common}

-- the only token of a text, where it is the whole of it
abbrev pub only : List ℕ → List PpToken → Option PpKind
only text (t ∷ []) = if bytes_eq t.spelling text then Some t.kind else None
only text _ = None

abbrev pub is_none_of : {A : Type 0} → List A → Bool
is_none_of [] = true
is_none_of _ = false

-- the kind of the single token that a text spells, where it is one
unfoldable pub single_kind : List ℕ → Option PpKind
single_kind text = if is_none_of (lexed text).faults then only text (lexed text).tokens else None

-- the longest token that `##` makes, in bytes
abbrev pub longest_made : ℕ
longest_made = 4194304

unfoldable pub made_kind : List ℕ → Option PpKind
made_kind text = if nat_le (length text) longest_made then single_kind text else None

-- with the white space of the left one, and hidden from what both are hidden from
abbrev pub made_of : Marked → Marked → PpKind → Marked
made_of l r kind = record {
  token = record l.token { kind = kind; spelling = l.token.spelling ++ r.token.spelling; spelt = Made };
  hides = common l.hides r.hides;
}

unfoldable pub pasted : Marked → Marked → Option Marked
pasted l r = option_map (made_of l r) (made_kind (l.token.spelling ++ r.token.spelling))
