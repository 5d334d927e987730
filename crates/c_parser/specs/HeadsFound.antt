-- What the parser found of a head at a place (ISO C11 6.7, 6.9), and what the tokens of a head mean, all of them.
use Rattle.std.specs.Prelude.{◌≡◌, ℕ, ◌+◌, ◌<◌, ◌≤◌, List, length, Option, Some, None, Bool, true, false}
use Rattle.tree_data.specs.Trees.{Declaring, Grouping, Specifyings, Initial, Assertion, Heading}
use Rattle.c_parser.specs.declared.answers.ParseError.{ParseError}
use Rattle.c_parser.specs.declared.answers.ParseError.TheVariants.{Syntax, TooDeep, NoMemory}
use Rattle.c_parser.specs.declared.kinds.Kind.{Kind}
use Rattle.c_parser.specs.declared.kinds.Kind.TheVariants.{Comma, Semicolon, OpenBrace}
use Rattle.c_parser.specs.Brackets.{too_deep}
use Rattle.c_parser.specs.Grammar.{AreSome}
use Rattle.c_parser.specs.Reading.{HoldSpecifyings, HoldsDeclarator, HoldsDirect, HoldsAssertion}
use Rattle.c_parser.specs.Heads.{Leading, HoldsValue, HoldsOne, HoldAll, HoldsHead, Closes}
use Rattle.c_parser.specs.Words.{Words}

pub record FoundDeclarator (ks : List Kind) (plain : Bool) (a : ℕ) (d : Declaring) (b : ℕ) : Type 0 where
  pub reads : HoldsDeclarator ks plain d a b
  pub forth : a < b
  pub inside : b ≤ length ks

pub record FoundDirect (ks : List Kind) (plain : Bool) (a : ℕ) (g : Grouping) (b : ℕ) : Type 0 where
  pub reads : HoldsDirect ks plain g a b
  pub forth : a < b
  pub inside : b ≤ length ks

pub record FoundValue (ks : List Kind) (a : ℕ) (i : Option Initial) (b : ℕ) : Type 0 where
  pub reads : HoldsValue ks i a b
  pub forth : a ≤ b
  pub inside : b ≤ length ks

pub record FoundOne (w : Words) (o : ℕ) (s : Leading) (a : ℕ) (d : Declaring) (i : Option Initial) (b : ℕ) : Type 0 where
  pub reads : HoldsOne w o s d i a b
  pub forth : a < b
  pub inside : b ≤ length w.kinds

pub record FoundAll (w : Words) (o : ℕ) (s : Leading) (a : ℕ) (ds : List (Declaring × Option Initial)) (b : ℕ) : Type 0 where
  pub reads : HoldAll w o s ds a b
  pub forth : a < b
  pub inside : b ≤ length w.kinds

pub record FoundFront (ks : List Kind) (a : ℕ) (ss : Specifyings) (b : ℕ) : Type 0 where
  pub some : AreSome ss
  pub reads : HoldSpecifyings ks false ss a b
  pub forth : a ≤ b
  pub inside : b ≤ length ks

-- declarators, and the `;` or `{` behind them
pub record FoundDeclared (w : Words) (o : ℕ) (s : Leading) (a : ℕ) (ds : List (Declaring × Option Initial)) (body : Bool) (b : ℕ) : Type 0 where
  pub last : ℕ
  pub reads : HoldAll w o s ds a last
  pub closes : Closes w.kinds ds body last
  pub ends : b ≡ last + 1
  pub inside : b ≤ length w.kinds

pub record FoundAssertion (ks : List Kind) (a : ℕ) (x : Assertion) (b : ℕ) : Type 0 where
  pub reads : HoldsAssertion ks x a b
  pub inside : b ≤ length ks

pub record FoundHead (w : Words) (a : ℕ) (h : Heading) (b : ℕ) : Type 0 where
  pub reads : HoldsHead w h a b
  pub inside : b ≤ length w.kinds

-- behind an init-declarator stands such a token
abbrev pub ends_one : Kind → Bool
ends_one Comma = true
ends_one Semicolon = true
ends_one OpenBrace = true
ends_one _ = false

-- and behind all of them one of these
abbrev pub ends_all : Kind → Bool
ends_all Semicolon = true
ends_all OpenBrace = true
ends_all _ = false

-- no two heads are all the tokens, whatever is declared
abbrev pub HeadReadingIsUnique : Type 0
HeadReadingIsUnique =
    (w : Words) → (h u : Heading) → HoldsHead w h 0 (length w.kinds) → HoldsHead w u 0 (length w.kinds) → h ≡ u

-- the tokens mean this head and no other
pub record IsHeadMeaning (w : Words) (h : Heading) : Type 0 where
  pub shallow : too_deep w.kinds ≡ None
  pub proper : HoldsHead w h 0 (length w.kinds)
  pub only : (u : Heading) → HoldsHead w u 0 (length w.kinds) → h ≡ u

-- why there is no head: brackets nest too deep, which is looked for first, or no head spells the tokens
abbrev pub IsHeadCause : Words → ParseError → Type 0
IsHeadCause w (Syntax at) = (at ≡ 0) × (too_deep w.kinds ≡ None) × ((u : Heading) → HoldsHead w u 0 (length w.kinds) → ⊥)
IsHeadCause w (TooDeep at) = too_deep w.kinds ≡ Some at
IsHeadCause w NoMemory = Unit {0}
