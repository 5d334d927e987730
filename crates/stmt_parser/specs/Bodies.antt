-- The body that tokens mean, all of them, and why they mean none (ISO C11 6.8.2, 6.9.1).
use Rattle.std.specs.Prelude.{◌≡◌, length, Some, None, Bool, true, false}
use Rattle.tree_data.specs.Statements.{Statement, Statement_of, Core, Block_of, Expression_of, Goto_of, Continue_of, Break_of, Return_of, Do_of, No_leads, Lead_then}
use Rattle.c_parser.specs.declared.answers.ParseError.{ParseError}
use Rattle.c_parser.specs.declared.answers.ParseError.TheVariants.{Syntax, TooDeep, NoMemory}
use Rattle.c_parser.specs.Brackets.{too_deep}
use Rattle.c_parser.specs.Words.{Words}
use Rattle.stmt_parser.specs.Reading.{HoldsStatement}

abbrev pub is_braced : Core → Bool
is_braced (Block_of o is c) = true
is_braced (Expression_of e m) = false
is_braced (Goto_of k n m) = false
is_braced (Continue_of k m) = false
is_braced (Break_of k m) = false
is_braced (Return_of k e m) = false
is_braced (Do_of k s v o t c m) = false

-- a compound-statement, and nothing in front of it
abbrev pub is_block : Statement → Bool
is_block (Statement_of No_leads c) = is_braced c
is_block (Statement_of (Lead_then l ls) c) = false

-- a body is one that takes all tokens
abbrev pub IsBody : Words → Statement → Type 0
IsBody w s = (is_block s ≡ true) × HoldsStatement w s 0 (length w.kinds)

-- the tokens mean this body and no other
pub record IsBodyMeaning (w : Words) (s : Statement) : Type 0 where
  pub shallow : too_deep w.kinds ≡ None
  pub proper : IsBody w s
  pub only : (u : Statement) → IsBody w u → s ≡ u

-- why there is no body: brackets nest too deep, which is looked for first, or no tree spells the tokens
abbrev pub IsBodyCause : Words → ParseError → Type 0
IsBodyCause w (Syntax at) = (at ≡ 0) × (too_deep w.kinds ≡ None) × ((u : Statement) → IsBody w u → ⊥)
IsBodyCause w (TooDeep at) = too_deep w.kinds ≡ Some at
IsBodyCause w NoMemory = Unit {0}

-- unique reading: no two bodies spell the same tokens
abbrev pub BodyReadingIsUnique : Type 0
BodyReadingIsUnique = (w : Words) → (s u : Statement) → IsBody w s → IsBody w u → s ≡ u
