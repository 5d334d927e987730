-- The one tree of an item's head or body as a function of its tokens, and the refusal where there is none (ISO C11 6.7, 6.8.2, 6.9).
use Rattle.std.specs.Prelude.{◌≡◌, ℕ, List, length, Option, Some, None, Bool, nat_lt, if◌then◌else◌}
use Rattle.tok_data.specs.declared.tokens.OutToken.{OutToken}
use Rattle.tree_data.specs.Trees.{Heading}
use Rattle.tree_data.specs.Statements.{Statement}
use Rattle.c_parser.specs.Brackets.{too_deep}
use Rattle.c_parser.specs.Heads.{HoldsHead}
use Rattle.c_parser.specs.Words.{Words, words_of}
use Rattle.stmt_parser.specs.Bodies.{IsBody}

-- a head of the grammar, or the fact that there is none
abbrev pub IsHeadOf : Words → Option Heading → Type 0
IsHeadOf w (Some h) = HoldsHead w h 0 (length w.kinds)
IsHeadOf w None = (u : Heading) → HoldsHead w u 0 (length w.kinds) → ⊥

abbrev pub IsBodyOf : Words → Option Statement → Type 0
IsBodyOf w (Some s) = IsBody w s
IsBodyOf w None = (u : Statement) → IsBody w u → ⊥

-- which tree the words of a head, and of a body, have
pub record Reader : Type 0 where
  pub head : Words → Option Heading
  pub body : Words → Option Statement

-- it finds a tree wherever there is one
pub record IsReader (r : Reader) : Type 0 where
  pub heads : (w : Words) → IsHeadOf w (r.head w)
  pub bodies : (w : Words) → IsBodyOf w (r.body w)

-- a tree, or why there is none: a rule's number and a token's
pub data Reading (A : Type 0) : Type 0 where
  Tree : A → Reading A
  Refused : ℕ → ℕ → Reading A

-- no tree of the grammar spells the tokens, which falls on the first
abbrev pub no_tree : ℕ
no_tree = 301

-- brackets nest past 256 levels, at the bracket that opens the next one
abbrev pub too_deep_rule : ℕ
too_deep_rule = 303

-- how deep brackets nest is looked at first
abbrev pub reading : {A : Type 0} → Option ℕ → Option A → Reading A
reading (Some at) found = Refused too_deep_rule at
reading None (Some t) = Tree t
reading None None = Refused no_tree 0

abbrev pub head_in : Reader → Words → Reading Heading
head_in r w = reading (too_deep w.kinds) (r.head w)

abbrev pub body_in : Reader → Words → Reading Statement
body_in r w = reading (too_deep w.kinds) (r.body w)

-- more tokens than any item of a unit has are not read
abbrev pub most_tokens : ℕ
most_tokens = 2000000

abbrev pub are_many : List OutToken → Bool
are_many tokens = nat_lt most_tokens (length tokens)

-- where these names are typedef names in front of the item
abbrev pub head_reading : Reader → List (List ℕ) → List OutToken → Reading Heading
head_reading r names tokens = if are_many tokens then Refused no_tree 0 else head_in r (words_of names tokens)

abbrev pub body_reading : Reader → List (List ℕ) → List OutToken → Reading Statement
body_reading r names tokens = if are_many tokens then Refused no_tree 0 else body_in r (words_of names tokens)

-- what every reader says
abbrev pub ReadsHead : List (List ℕ) → List OutToken → Reading Heading → Type 0
ReadsHead names tokens x = (r : Reader) → IsReader r → x ≡ head_reading r names tokens

abbrev pub ReadsBody : List (List ℕ) → List OutToken → Reading Statement → Type 0
ReadsBody names tokens x = (r : Reader) → IsReader r → x ≡ body_reading r names tokens

-- any two readers say the same of the words of heads, and of those of bodies
abbrev pub HeadsAgree : Type 0
HeadsAgree = (r s : Reader) → IsReader r → IsReader s → (w : Words) → r.head w ≡ s.head w

abbrev pub BodiesAgree : Type 0
BodiesAgree = (r s : Reader) → IsReader r → IsReader s → (w : Words) → r.body w ≡ s.body w
