-- What the parser found of a statement and its parts at a place, and what it says where it found none.
use Rattle.std.specs.Prelude.{◌≡◌, ℕ, ◌+◌, ◌<◌, ◌≤◌, length, Bool, true, Option}
use Rattle.tree_data.specs.Statements.{Statement, Lead, Item, Declared_of, Stated_of, takes_no_else}
use Rattle.tree_data.specs.Trees.{Tree}
use Rattle.c_parser.specs.declared.answers.Stop.{Stop}
use Rattle.c_parser.specs.declared.kinds.Kind.{Kind}
use Rattle.c_parser.specs.declared.kinds.Kind.TheVariants.{CloseParen, Semicolon}
use Rattle.c_parser.specs.Parts.{IsBlind}
use Rattle.c_parser.specs.Reading.{IsWant}
use Rattle.c_parser.specs.Words.{Words, kind_in}
use Rattle.stmt_parser.specs.InForce.{past_optional}
use Rattle.stmt_parser.specs.Reading.{HoldsOptional, HoldsTest, HoldsStatement, HoldsLead, HoldsItem, Ends}

pub record FoundOptional (w : Words) (a : ℕ) (x : Option Tree) (b : ℕ) : Type 0 where
  pub reads : HoldsOptional w x a b
  pub forth : a ≤ b
  pub inside : b ≤ length w.kinds

-- `( expression )`, up to the number of its `)`
pub record FoundTest (w : Words) (a : ℕ) (t : Tree) (c : ℕ) : Type 0 where
  pub reads : HoldsTest w a t c a (c + 1)
  pub forth : a < c
  pub inside : c < length w.kinds

-- `expression opt ; expression opt )`; the marks are read under v, the expressions under w
pub record FoundTail (v w : Words) (a : ℕ) (y : Option Tree) (n : ℕ) (z : Option Tree) (c : ℕ) : Type 0 where
  pub test : HoldsOptional w y a n
  pub semicolon : kind_in v n ≡ Semicolon
  pub step : HoldsOptional (past_optional w y) z (n + 1) c
  pub closing : kind_in v c ≡ CloseParen
  pub forth : a ≤ c
  pub inside : c < length w.kinds

-- two scopes that differ in typedef names alone
abbrev pub Alike : Words → Words → Type 0
Alike w v = (f : Kind → Bool) → IsBlind f → (a : ℕ) → f (kind_in w a) ≡ f (kind_in v a)

pub record FoundLead (w : Words) (a : ℕ) (l : Lead) (b : ℕ) : Type 0 where
  pub reads : HoldsLead w l a b
  pub alone : takes_no_else l ≡ true
  pub forth : a < b
  pub inside : b ≤ length w.kinds

pub record FoundStatement (w : Words) (a : ℕ) (s : Statement) (b : ℕ) : Type 0 where
  pub reads : HoldsStatement w s a b
  pub ends : Ends w s b
  pub forth : a < b
  pub inside : b ≤ length w.kinds

-- no statement stands here, or memory is wanting
abbrev pub FailsStatement : Words → ℕ → Stop → Type 0
FailsStatement w a e = (s : Statement) → (b : ℕ) → HoldsStatement w s a b → Ends w s b → IsWant e

-- an `else` that stands behind an item isn't one that a statement takes
abbrev pub EndsItem : Words → Item → ℕ → Type 0
EndsItem w (Declared_of d) b = Unit {0}
EndsItem w (Stated_of s) b = Ends w s b

pub record FoundItem (w : Words) (a : ℕ) (i : Item) (b : ℕ) : Type 0 where
  pub reads : HoldsItem w i a b
  pub ends : EndsItem w i b
  pub forth : a < b
  pub inside : b ≤ length w.kinds

abbrev pub FailsItem : Words → ℕ → Stop → Type 0
FailsItem w a e = (i : Item) → (b : ℕ) → HoldsItem w i a b → EndsItem w i b → IsWant e
