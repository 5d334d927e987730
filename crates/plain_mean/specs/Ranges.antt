-- The ranges of bytes that tokens take in the texts of a session, text by text, and the texts with a name in place of each.
use Rattle.std.specs.Prelude.{ℕ, ◌≤◌, Bool, List, [], ◌∷◌, length, map, filter, Option, Some, None, IfSome, option_map, slice_get, bytes_eq}
use Rattle.std.specs.List.{filter_map}
use Rattle.std.specs.declared.cmp.Ordering.{Ordering}
use Rattle.c_tokens.specs.Lexed.{lexed}
use Rattle.doc_texts.specs.Edited.{renamed, with_text_at}
use Rattle.doc_texts.specs.Limits.{longest_text}
use Rattle.doc_texts.specs.Texts.{Texts, text_at, path_set}
use Rattle.doc_texts.specs.declared.ranges.ByteRange.{ByteRange}
use Rattle.doc_texts.specs.declared.ranges.TextEdits.{TextEdits}
use Rattle.plain_mean.specs.Given.{text_in}
use Rattle.tok_data.specs.declared.sources.TokId.{TokId}
use Rattle.tok_data.specs.contracts.sources.TokIdOrd.TheImpl as order
use Rattle.uri_paths.specs.Paths.{path_read}

-- the order of tokens: by the names of their texts, and by number
abbrev pub tok_cmp : TokId → TokId → Ordering
tok_cmp s t = order.cmp-value.it s t

-- ---- ranges

abbrev pub range_by : ℕ × ℕ → ByteRange
range_by p = record { start = p.0; end = p.1 }

-- where the token with this number stands, by the places of a text's tokens; a number that the text lacks stands nowhere
abbrev pub range_at : List (ℕ × ℕ) → ℕ → Option ByteRange
range_at places at = option_map range_by (slice_get places at)

-- the numbers of those of the tokens that stand in the text of this name, in their order
abbrev pub is_in : List ℕ → TokId → Bool
is_in file t = bytes_eq t.file file

abbrev pub numbers_in : List TokId → List ℕ → List ℕ
numbers_in toks file = map (λ t. t.at) (filter (is_in file) toks)

abbrev pub ranges_in : Texts → List TokId → List ℕ → List ByteRange
ranges_in texts toks path = filter_map (range_at (lexed (text_in texts path)).places) (numbers_in toks path)

-- the ranges of one text
pub record Ranges : Type 0 where
  pub path : List ℕ
  pub ranges : List ByteRange

-- the paths of the tokens' texts, in order, each once; a library text has none
abbrev pub paths_in : List TokId → List (List ℕ)
paths_in toks = path_set (filter_map (λ t. path_read t.file) toks)

abbrev pub ranges_at_path : Texts → List TokId → List ℕ → Ranges
ranges_at_path texts toks path = record { path = path; ranges = ranges_in texts toks path }

abbrev pub ranges_of : Texts → List TokId → List Ranges
ranges_of texts toks = map (ranges_at_path texts toks) (paths_in toks)

abbrev pub plain : TextEdits → Ranges
plain e = record { path = e.path; ranges = e.ranges.items }

-- ---- texts

-- each text is no longer than any that a session takes in
abbrev pub AreShort : Texts → Type 0
AreShort texts = (path : List ℕ) → IfSome (text_at texts path) (λ text. length text ≤ longest_text)

abbrev pub with_ranges : Texts → Ranges → List ℕ → Option (List ℕ) → Texts
with_ranges made r name None = made
with_ranges made r name (Some text) = with_text_at made r.path (renamed name r.ranges text)

-- a name stands in place of each range, of the texts as they stand in `texts`
unfoldable pub all_renamed : Texts → Texts → List Ranges → List ℕ → Texts
all_renamed texts made [] name = made
all_renamed texts made (r ∷ rs) name = all_renamed texts (with_ranges made r name (text_at texts r.path)) rs name

-- the texts with a name in place of each of these tokens
unfoldable pub texts_after : Texts → List TokId → List ℕ → Texts
texts_after texts toks name = all_renamed texts texts (ranges_of texts toks) name
