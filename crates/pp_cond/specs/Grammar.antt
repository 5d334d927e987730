-- The expressions of conditions (ISO C11 6.5.1, 6.5.3 to 6.5.15, 6.5.17, 6.6, 6.10.1): what a tree spells, which trees are
-- proper, and their values.
use Rattle.std.specs.Prelude.{◌≡◌, ℕ, ◌+◌, ◌≤◌, true, List, [], ◌∷◌, ◌++◌}
use Rattle.pp_cond.specs.declared.marks.Mark.{Mark}
use Rattle.pp_cond.specs.declared.marks.Mark.TheVariants.{Question, Colon, Comma, OpenParen, CloseParen}
use Rattle.pp_cond.specs.declared.numbers.Number.{Number}
use Rattle.pp_cond.specs.declared.symbols.Symbol.{Symbol}
use Rattle.pp_cond.specs.declared.symbols.Symbol.TheVariants as symbol
use Rattle.pp_cond.specs.Marks.{level_of, is_prefix}
use Rattle.pp_cond.specs.Numbers.{unary, binary, choice, comma}

pub data Tree : Type 0 where
  Constant_of : Number → Tree
  Paren_of : Tree → Tree
  Unary_of : Mark → Tree → Tree
  Binary_of : Mark → Tree → Tree → Tree
  Choice_of : Tree → Tree → Tree → Tree
  Comma_of : Tree → Tree → Tree

abbrev pub spell : Tree → List Symbol
spell (Constant_of v) = symbol.Constant v ∷ []
spell (Paren_of t) = symbol.Mark OpenParen ∷ (spell t ++ symbol.Mark CloseParen ∷ [])
spell (Unary_of m t) = symbol.Mark m ∷ spell t
spell (Binary_of m a b) = spell a ++ symbol.Mark m ∷ spell b
spell (Choice_of c a b) = spell c ++ symbol.Mark Question ∷ (spell a ++ symbol.Mark Colon ∷ spell b)
spell (Comma_of a b) = spell a ++ symbol.Mark Comma ∷ spell b

-- the production that a tree is of: 0 expression, 1 conditional-expression, 2 (logical-OR-expression) to 11
-- (multiplicative-expression), 12 unary-expression, 13 primary-expression; each is one of those with smaller numbers
abbrev pub level : Tree → ℕ
level (Constant_of v) = 13
level (Paren_of t) = 13
level (Unary_of m t) = 12
level (Binary_of m a b) = level_of m
level (Choice_of c a b) = 1
level (Comma_of a b) = 0

-- the parts of a tree are of the productions that its own names
abbrev pub Proper : Tree → Type 0
Proper (Constant_of v) = Unit {0}
Proper (Paren_of t) = Proper t
Proper (Unary_of m t) = (is_prefix m ≡ true) × (12 ≤ level t) × Proper t
Proper (Binary_of m a b) =
    (2 ≤ level_of m) × (level_of m ≤ level a) × (level_of m + 1 ≤ level b) × Proper a × Proper b
Proper (Choice_of c a b) = (2 ≤ level c) × (1 ≤ level b) × Proper c × Proper a × Proper b
Proper (Comma_of a b) = (1 ≤ level b) × Proper a × Proper b

-- a constant-expression (6.6), which is a conditional-expression, that these symbols spell
pub record IsExpression (symbols : List Symbol) (t : Tree) : Type 0 where
  pub whole : 1 ≤ level t
  pub proper : Proper t
  pub spells : spell t ≡ symbols

abbrev pub value : Tree → Number
value (Constant_of v) = v
value (Paren_of t) = value t
value (Unary_of m t) = unary m (value t)
value (Binary_of m a b) = binary m (value a) (value b)
value (Choice_of c a b) = choice (value c) (value a) (value b)
value (Comma_of a b) = comma (value b)
