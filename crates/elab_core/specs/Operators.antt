-- The construct that an operator token stands for (ISO C11 6.5.2 to 6.5.17), by its spelling.
use Rattle.std.specs.Prelude.{ℕ, Bool, ◌||◌, List, [], ◌∷◌, Option, Some, None, bytes_eq, codes, if◌then◌else◌}
use Rattle.c_literals.specs.declared.ops.Op.{Op}
use Rattle.c_literals.specs.declared.ops.Op.TheVariants as op
use Rattle.expr_rules.specs.declared.parts.Form.{Form}
use Rattle.expr_rules.specs.declared.parts.Form.TheVariants as form

abbrev pub lookup : List (List ℕ × Op) → List ℕ → Option Op
lookup [] text = None
lookup (e ∷ es) text = if bytes_eq e.0 text then Some e.1 else lookup es text

-- between two operands
unfoldable pub binary_operators : List (List ℕ × Op)
binary_operators =
    (codes "+", op.Add) ∷ (codes "-", op.Sub) ∷ (codes "*", op.Mul) ∷ (codes "/", op.Div) ∷ (codes "%", op.Rem)
    ∷ (codes "==", op.Eq) ∷ (codes "!=", op.Ne) ∷ (codes "<", op.Lt) ∷ (codes ">", op.Gt) ∷ (codes "<=", op.Le) ∷ (codes ">=", op.Ge)
    ∷ (codes "&&", op.LogAnd) ∷ (codes "||", op.LogOr) ∷ (codes "&", op.BitAnd) ∷ (codes "|", op.BitOr) ∷ (codes "^", op.BitXor)
    ∷ (codes "<<", op.Shl) ∷ (codes ">>", op.Shr) ∷ []

unfoldable pub binary_operator : List ℕ → Option Op
binary_operator = lookup binary_operators

-- of a compound assignment
unfoldable pub assignment_operators : List (List ℕ × Op)
assignment_operators =
    (codes "+=", op.Add) ∷ (codes "-=", op.Sub) ∷ (codes "*=", op.Mul) ∷ (codes "/=", op.Div) ∷ (codes "%=", op.Rem)
    ∷ (codes "&=", op.BitAnd) ∷ (codes "|=", op.BitOr) ∷ (codes "^=", op.BitXor) ∷ (codes "<<=", op.Shl) ∷ (codes ">>=", op.Shr) ∷ []

unfoldable pub assignment_operator : List ℕ → Option Op
assignment_operator = lookup assignment_operators

-- in front of an operand, where it gives a value of arithmetic
unfoldable pub unary_operators : List (List ℕ × Op)
unary_operators = (codes "+", op.Plus) ∷ (codes "-", op.Minus) ∷ (codes "~", op.BitNot) ∷ (codes "!", op.LogNot) ∷ []

unfoldable pub unary_operator : List ℕ → Option Op
unary_operator = lookup unary_operators

abbrev pub binary_or_comma : Option Op → Form
binary_or_comma (Some o) = form.Binary o
binary_or_comma None = form.Comma

abbrev pub binary_form : List ℕ → Form
binary_form text = binary_or_comma (binary_operator text)

abbrev pub assign_or_by : Option Op → Form
assign_or_by (Some o) = form.AssignOp o
assign_or_by None = form.Assign

abbrev pub assign_form : List ℕ → Form
assign_form text = assign_or_by (assignment_operator text)

unfoldable pub step_form : List ℕ → Form
step_form text = if bytes_eq text (codes "++") then form.PostInc else form.PostDec

unfoldable pub is_size : List ℕ → Bool
is_size text = bytes_eq text (codes "sizeof")

unfoldable pub is_alignment : List ℕ → Bool
is_alignment text = bytes_eq text (codes "_Alignof")

unfoldable pub place_form : List ℕ → Form
place_form text =
    if bytes_eq text (codes "&") then form.AddressOf
    else if bytes_eq text (codes "*") then form.Deref
    else if bytes_eq text (codes "++") then form.PreInc
    else if bytes_eq text (codes "--") then form.PreDec
    else form.SizeOf None

abbrev pub unary_or_place : Option Op → List ℕ → Form
unary_or_place (Some o) text = form.Unary o
unary_or_place None text = place_form text

abbrev pub prefix_form : List ℕ → Form
prefix_form text = unary_or_place (unary_operator text) text
