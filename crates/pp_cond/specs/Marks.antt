-- The punctuators of constant expressions (ISO C11 6.4.6), and what operators they are (6.5.3.3, 6.5.5 to 6.5.14).
use Rattle.std.specs.Prelude.{ℕ, Bool, true, false, List, [], ◌∷◌, bytes_eq, codes, if◌then◌else◌}
use Rattle.c_literals.specs.declared.ops.Op.{Op}
use Rattle.c_literals.specs.declared.ops.Op.TheVariants as op
use Rattle.pp_cond.specs.declared.marks.Mark.{Mark}
use Rattle.pp_cond.specs.declared.marks.Mark.TheVariants.{Plus, Minus, Tilde, Not, Star, Slash, Percent, ShiftLeft, ShiftRight, Less, Greater, LessEqual, GreaterEqual, Equal, NotEqual, And, Caret, Or, AndAnd, OrOr, Question, Colon, Comma, OpenParen, CloseParen, Other}

unfoldable pub marks : List (List ℕ × Mark)
marks =
    (codes "+", Plus)
    ∷ (codes "-", Minus)
    ∷ (codes "~", Tilde)
    ∷ (codes "!", Not)
    ∷ (codes "*", Star)
    ∷ (codes "/", Slash)
    ∷ (codes "%", Percent)
    ∷ (codes "<<", ShiftLeft)
    ∷ (codes ">>", ShiftRight)
    ∷ (codes "<", Less)
    ∷ (codes ">", Greater)
    ∷ (codes "<=", LessEqual)
    ∷ (codes ">=", GreaterEqual)
    ∷ (codes "==", Equal)
    ∷ (codes "!=", NotEqual)
    ∷ (codes "&", And)
    ∷ (codes "^", Caret)
    ∷ (codes "|", Or)
    ∷ (codes "&&", AndAnd)
    ∷ (codes "||", OrOr)
    ∷ (codes "?", Question)
    ∷ (codes ":", Colon)
    ∷ (codes ",", Comma)
    ∷ (codes "(", OpenParen)
    ∷ (codes ")", CloseParen) ∷ []

abbrev pub lookup : List (List ℕ × Mark) → List ℕ → Mark
lookup [] text = Other
lookup (e ∷ es) text = if bytes_eq e.0 text then e.1 else lookup es text

unfoldable pub mark_of : List ℕ → Mark
mark_of = lookup marks

-- the level of precedence of a binary operator: 2 (logical-OR-expression) to 11 (multiplicative-expression); 0 for what
-- is none
abbrev pub level_of : Mark → ℕ
level_of OrOr = 2
level_of AndAnd = 3
level_of Or = 4
level_of Caret = 5
level_of And = 6
level_of Equal = 7
level_of NotEqual = 7
level_of Less = 8
level_of Greater = 8
level_of LessEqual = 8
level_of GreaterEqual = 8
level_of ShiftLeft = 9
level_of ShiftRight = 9
level_of Plus = 10
level_of Minus = 10
level_of Star = 11
level_of Slash = 11
level_of Percent = 11
level_of _ = 0

-- 6.5.3.3; `&` and `*` have no place in a constant expression of integers
abbrev pub is_prefix : Mark → Bool
is_prefix Plus = true
is_prefix Minus = true
is_prefix Tilde = true
is_prefix Not = true
is_prefix _ = false

abbrev pub prefix_op : Mark → Op
prefix_op Minus = op.Minus
prefix_op Tilde = op.BitNot
prefix_op Not = op.LogNot
prefix_op _ = op.Plus

abbrev pub op_of : Mark → Op
op_of Star = op.Mul
op_of Slash = op.Div
op_of Percent = op.Rem
op_of Plus = op.Add
op_of Minus = op.Sub
op_of ShiftLeft = op.Shl
op_of ShiftRight = op.Shr
op_of Less = op.Lt
op_of Greater = op.Gt
op_of LessEqual = op.Le
op_of GreaterEqual = op.Ge
op_of Equal = op.Eq
op_of NotEqual = op.Ne
op_of And = op.BitAnd
op_of Caret = op.BitXor
op_of Or = op.BitOr
op_of AndAnd = op.LogAnd
op_of _ = op.LogOr
