-- The tokens of an item, which are named by their numbers in it.
use Rattle.std.specs.Prelude.{ℕ, Bool, true, false, not, List, [], ◌∷◌, Option, Some, None, map, slice_get}
use Rattle.tok_data.specs.declared.sources.TokId.{TokId}
use Rattle.tok_data.specs.declared.tokens.OutToken.{OutToken}
use Rattle.tok_data.specs.declared.tokens.PpKind.{PpKind}
use Rattle.tok_data.specs.declared.tokens.PpKind.TheVariants as pp
use Rattle.tok_data.specs.declared.tokens.Spelt.TheVariants as place
use Rattle.tok_data.specs.Keywords.{is_keyword}

-- what an item sees of its tokens: their kinds and spellings, and not where they stand
abbrev pub bare : OutToken → OutToken
bare t = record t { space_before = false; spelt = place.Made; site = record { file = []; at = 0 } }

abbrev pub bare_tokens : List OutToken → List OutToken
bare_tokens = map bare

abbrev pub spelled : Option OutToken → List ℕ
spelled (Some t) = t.spelling
spelled None = []

abbrev pub spelling : List OutToken → ℕ → List ℕ
spelling tokens n = spelled (slice_get tokens n)

-- 6.4.1p2: a keyword is no identifier
abbrev pub is_name : PpKind → List ℕ → Bool
is_name pp.Ident text = not (is_keyword text)
is_name pp.Number text = false
is_name pp.Char text = false
is_name pp.Str text = false
is_name pp.Header text = false
is_name pp.Punct text = false
is_name pp.Stray text = false

abbrev pub is_identifier : OutToken → Bool
is_identifier t = is_name t.kind t.spelling

abbrev pub first_number : List ℕ → ℕ
first_number [] = 0
first_number (n ∷ ns) = n

abbrev pub token : List ℕ → ℕ → TokId
token file n = record { file = file; at = n }
