-- What is kept of a text that was lexed.
use Rattle.std.specs.Prelude.{◌≡◌, ◌≤◌, ℕ, List, [], length, Option, Some, unwrap_or}
use Rattle.std.specs.BTreeMap.{BTreeMap, get}
use Rattle.std.specs.Cmp.Lexicographic.{slice_cmp}
use Rattle.std.specs.Ordering.{nat_cmp}
use Rattle.c_tokens.specs.Lexed.{lexed}
use Rattle.c_tokens.specs.Laws.{InOrder, ranges}
use Rattle.doc_texts.specs.Prior.{Prior, text_before}
use Rattle.doc_texts.specs.Texts.{Texts}
use Rattle.include_units.specs.Runs.{own_places}
use Rattle.plain_mean.specs.Given.{text_in}
use Rattle.plain_mean.specs.declared.lexings.KeptLexings.{KeptLexings}
use Rattle.plain_mean.specs.declared.lexings.LexedText.{LexedText}

pub record IsLexed (text : List ℕ) (l : LexedText) : Type 0 where
  pub tokens : l.tokens ≡ (lexed text).tokens
  pub short : length l.tokens ≤ 4290772992
  pub places : l.places ≡ own_places text
  pub place_order : InOrder text 0 (length text) (lexed text).places
  pub fault_order : InOrder text 0 (length text) (ranges (lexed text).faults)

-- what is kept is what lexing gives of these texts
abbrev pub AreLexed : Texts → BTreeMap (List ℕ) LexedText → Type 0
AreLexed texts kept = (path : List ℕ) (l : LexedText) → get (slice_cmp nat_cmp) kept path ≡ Some l → IsLexed (text_in texts path) l

-- what is kept of a path
unfoldable pub lexing_at : KeptLexings → List ℕ → Option LexedText
lexing_at lexings path = get (slice_cmp nat_cmp) lexings.kept path

-- what is kept without the texts is what lexing gives of these
abbrev pub HasLexed : Texts → KeptLexings → Type 0
HasLexed texts lexings = AreLexed texts lexings.kept

-- what is kept is what lexing gave of the texts before
abbrev pub WereLexed : Prior → Texts → KeptLexings → Type 0
WereLexed prior now lexings = (path : List ℕ) (l : LexedText) → get (slice_cmp nat_cmp) lexings.kept path ≡ Some l → IsLexed (unwrap_or (text_before prior now path) []) l
