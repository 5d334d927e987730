-- Brackets in pairs, one inside another or one behind another.
use Rattle.std.specs.Prelude.{◌≡◌, ℕ, ◌+◌, ◌||◌, Bool, true, false}
use Rattle.tree_data.specs.Statements.{Statement}
use Rattle.tree_data.specs.Trees.{Tree, Heading}
use Rattle.c_parser.specs.declared.kinds.Kind.{Kind}
use Rattle.c_parser.specs.declared.kinds.Kind.TheVariants.{OpenParen, CloseParen, OpenBracket, CloseBracket, OpenBrace, CloseBrace}
use Rattle.c_parser.specs.Brackets.{opens, closes}
use Rattle.c_parser.specs.Parts.{HoldsDeclaration}
use Rattle.c_parser.specs.Reading.{Reads}
use Rattle.c_parser.specs.Words.{Words, shown_from, kind_in}
use Rattle.stmt_parser.specs.Reading.{HoldsStatement}

-- the second bracket closes what the first one opens
abbrev pub is_pair : Kind → Kind → Bool
is_pair OpenParen CloseParen = true
is_pair OpenBracket CloseBracket = true
is_pair OpenBrace CloseBrace = true
is_pair _ _ = false

-- no token is left; one that is no bracket, and what stands behind it; a pair, with what stands in it and behind it
pub data Pairs : Type 0 where
  No_token : Pairs
  Token_then : Pairs → Pairs
  Pair_then : Pairs → Pairs → Pairs

abbrev pub ArePairs : Words → Pairs → ℕ → ℕ → Type 0
ArePairs w No_token a b = b ≡ a
ArePairs w (Token_then ps) a b = (opens (kind_in w a) || closes (kind_in w a) ≡ false) × ArePairs w ps (a + 1) b
ArePairs w (Pair_then inner ps) a b =
    (c : ℕ) × (opens (kind_in w a) ≡ true) × ArePairs w inner (a + 1) c × (is_pair (kind_in w a) (kind_in w c) ≡ true) × ArePairs w ps (c + 1) b

-- brackets are balanced from a to b
pub record AreBalanced (w : Words) (a b : ℕ) : Type 0 where
  pub pairs : Pairs
  pub are : ArePairs w pairs a b

-- so they are in expressions and in declarations
pub record PartsAreBalanced : Type 0 where
  pub expression : (w : Words) → (n : ℕ) → (t : Tree) → (a b : ℕ) → Reads (shown_from w a) n t a b → AreBalanced w a b
  pub declaration : (w : Words) → (d : Heading) → (a b : ℕ) → HoldsDeclaration w d a b → AreBalanced w a b

-- and in statements
abbrev pub StatementsAreBalanced : Type 0
StatementsAreBalanced = (w : Words) → (s : Statement) → (a b : ℕ) → HoldsStatement w s a b → AreBalanced w a b
