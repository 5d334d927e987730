-- What an item means is told by the kinds and spellings of its tokens.
use Rattle.std.proofs.Common.{◌≡◌, refl, sym, ap, ◌∙◌, ℕ, ◌+◌, ◌==◌, Bool, true, false, not, ◌&&◌, ◌||◌, nat_lt, List, [], ◌∷◌, ◌++◌, map, drop, take, length, Option, None, Some, if◌then◌else◌}
use Rattle.std.proofs.lemmas.List.{drop-map, length-map, map-append, take-map}
use Rattle.std.proofs.lemmas.Slice.Eq.{bytes_eq-Decides}
use Rattle.std.specs.Bool.{Decides}
use Rattle.std.specs.Prelude.{bytes_eq}
use Rattle.asking.specs.LookUps.{result_of}
use Rattle.c_parser.specs.Tokens.{kind_of}
use Rattle.c_parser.specs.Words.{first_among, first_from, first_or, is_hidden, spells, words_of}
use Rattle.earlier_items.specs.Before.{before}
use Rattle.elab_state.specs.Tokens.{bare, bare_tokens}
use Rattle.item_cut.specs.Items.{assigns, body_at, body_from, depth, depth_after, depth_from, has_equals, last_is, opens_body, somewhere}
use Rattle.item_cut.specs.Marks.{is_close_paren, is_equals, is_open_brace}
use Rattle.item_readings.specs.Readings.{Reader, Reading, Refused, body_in, body_reading, head_in, head_reading, most_tokens, no_tree}
use Rattle.scope_tables.specs.declared.meanings.BodyMeaning.{BodyMeaning}
use Rattle.scope_tables.specs.declared.meanings.HeadMeaning.{HeadMeaning}
use Rattle.tok_data.specs.contracts.tokens.PpKindPartialEq.TheImpl as kinds
use Rattle.tok_data.specs.declared.tokens.OutToken.{OutToken}
use Rattle.tok_data.specs.declared.tokens.PpKind.{PpKind}
use Rattle.tree_data.specs.Statements.{Statement}
use Rattle.tree_data.specs.Trees.{Heading}
use Rattle.type_data.specs.declared.names.ItemName.{ItemName}
use Rattle.stmt_checks.specs.Folds.{Folded, bodies, body, head, is_checked, is_read, with_head}
use Rattle.stmt_checks.specs.Heads.{head_meaning}
use Rattle.stmt_checks.specs.Meanings.{body_meaning, context}

-- ---- what they are read as

first_bare : (at : ℕ) (found : Option ℕ) (ts : List OutToken) (text : List ℕ) → first_from at found (bare_tokens ts) text ≡ first_from at found ts text
first_bare at found [] text = refl
first_bare at found (t ∷ ts) text = first_bare (at + 1) (first_or found (spells t text) at) ts text

module _ {A : Type 0} (f : OutToken → A) (blind : (t : OutToken) → f (bare t) ≡ f t) where
  map_bare : (ts : List OutToken) → map f (bare_tokens ts) ≡ map f ts
  map_bare [] = refl
  map_bare (t ∷ ts) = λ i. blind t i ∷ map_bare ts i

among_bare : (ts : List OutToken) → first_among (bare_tokens ts) ≡ first_among ts
among_bare ts = λ i text. first_bare 0 None ts text i

kinds_bare : (ts : List OutToken) → map (kind_of (first_among (bare_tokens ts))) (bare_tokens ts) ≡ map (kind_of (first_among ts)) ts
kinds_bare ts = ap (λ number. map (kind_of number) (bare_tokens ts)) (among_bare ts) ∙ map_bare (kind_of (first_among ts)) (λ t. refl) ts

words_bare : (names : List (List ℕ)) (ts : List OutToken) → words_of names (bare_tokens ts) ≡ words_of names ts
words_bare names ts = λ i. record { kinds = kinds_bare ts i; hidden = map_bare (is_hidden names) (λ t. refl) ts i }

pub head_alike : (r : Reader) (names : List (List ℕ)) (ts : List OutToken) → head_reading r names (bare_tokens ts) ≡ head_reading r names ts
head_alike r names ts = λ i. if nat_lt most_tokens (length-map ts bare i) then Refused no_tree 0 else head_in r (words_bare names ts i)

pub body_alike : (r : Reader) (names : List (List ℕ)) (ts : List OutToken) → body_reading r names (bare_tokens ts) ≡ body_reading r names ts
body_alike r names ts = λ i. if nat_lt most_tokens (length-map ts bare i) then Refused no_tree 0 else body_in r (words_bare names ts i)
