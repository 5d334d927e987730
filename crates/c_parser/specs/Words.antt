-- Identifiers under the declarations of an item: which of them are typedef names where the parser stands (ISO C11 6.2.1, 6.7.8).
use Rattle.std.specs.Prelude.{ℕ, zero, suc, ◌+◌, ◌&&◌, ◌||◌, List, [], ◌∷◌, Option, Some, None, Bool, true, false, not, map, length, nat_lt, slice_set, is_none, bytes_eq, if◌then◌else◌}
use Rattle.tok_data.specs.declared.tokens.OutToken.{OutToken}
use Rattle.tok_data.specs.declared.tokens.PpKind.{PpKind}
use Rattle.tok_data.specs.declared.tokens.PpKind.TheVariants as pp
use Rattle.c_parser.specs.declared.kinds.Kind.{Kind}
use Rattle.c_parser.specs.declared.kinds.Kind.TheVariants.{TypeName}
use Rattle.c_parser.specs.Enumerations.{enumerates, settle}
use Rattle.c_parser.specs.Kinds.{kind_at}
use Rattle.c_parser.specs.Scopes.{shade}
use Rattle.c_parser.specs.Tokens.{kind_of, number_among}

-- each identifier as a typedef name, by its number, and the numbers of those that are none
pub record Words : Type 0 where
  pub kinds : List Kind
  pub hidden : List Bool

-- what the tokens are
abbrev pub shown : Words → List Kind
shown w = map (shade w.hidden) w.kinds

-- for a part that begins at this token: an enumerator of the part hides a typedef name behind it (6.2.1p7)
abbrev pub shown_from : Words → ℕ → List Kind
shown_from w from = settle (shown w) from

-- what the token with this number is
abbrev pub kind_in : Words → ℕ → Kind
kind_in w at = kind_at (shown w) at

unfoldable pub flagged : List Bool → ℕ → Bool → List Bool
flagged hidden n b = if nat_lt n (length hidden) then slice_set hidden n b else hidden

abbrev pub declared_as : Words → Bool → Kind → Words
declared_as w typedef (TypeName n) = record { kinds = w.kinds; hidden = flagged w.hidden n (not typedef) }
declared_as w typedef k = w

-- behind a declaration of the identifier with this number: its text is a typedef name from here on where the declaration has
-- `typedef`, and else it is none
abbrev pub declared : Words → Bool → ℕ → Words
declared w typedef n = declared_as w typedef (kind_at w.kinds n)

-- behind a part with these tokens: each enumeration constant among them is no typedef name
abbrev pub past_one : Words → ℕ → Words
past_one w n = if enumerates w.kinds n then declared w false n else w

abbrev pub past_numbers : Words → List ℕ → Words
past_numbers w [] = w
past_numbers w (n ∷ ns) = past_numbers (past_one w n) ns

-- the same by places: so many tokens from a place on
abbrev pub past_range : Words → ℕ → ℕ → Words
past_range w at zero = w
past_range w at (suc count) = past_range (past_one w at) (at + 1) count

abbrev pub is_word : PpKind → Bool
is_word pp.Ident = true
is_word pp.Number = false
is_word pp.Char = false
is_word pp.Str = false
is_word pp.Header = false
is_word pp.Punct = false
is_word pp.Stray = false

-- whether the token is an identifier, or a keyword, of this text
abbrev pub spells : OutToken → List ℕ → Bool
spells t text = is_word t.kind && bytes_eq t.spelling text

-- the first such token, counted on from `at`, if none was found before
abbrev pub first_or : Option ℕ → Bool → ℕ → Option ℕ
first_or (Some n) here at = Some n
first_or None true at = Some at
first_or None false at = None

abbrev pub first_from : ℕ → Option ℕ → List OutToken → List ℕ → Option ℕ
first_from at found [] text = found
first_from at found (t ∷ ts) text = first_from (at + 1) (first_or found (spells t text) at) ts text

-- an identifier has the number of the first one that spells it
abbrev pub first_among : List OutToken → List ℕ → Option ℕ
first_among tokens text = first_from 0 None tokens text

abbrev pub is_hidden : List (List ℕ) → OutToken → Bool
is_hidden names t = not (is_word t.kind) || is_none (number_among names t.spelling)

-- where these names are typedef names, and nothing is declared yet
abbrev pub words_of : List (List ℕ) → List OutToken → Words
words_of names tokens = record {
  kinds = map (kind_of (first_among tokens)) tokens;
  hidden = map (is_hidden names) tokens;
}
