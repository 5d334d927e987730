use Rattle.std.proofs.Common.{rules, ◌≡◌, ℕ, ◌∷◌, [], ◌++◌, map, sym, ap, ◌∙◌}
use Rattle.tree_data.specs.Trees.{Tree, operand}
use Rattle.tree_data.specs.declared.expr.Expr.{Expr}
use Rattle.elab_core.proofs.Lasts.{last_part_is, mapped}
use Rattle.elab_core.specs.Ends.{last_of}
use Rattle.elab_core.proofs.Layers.{expr_assign, expr_binary, expr_compound, expr_conditional, expr_constant, expr_generic, expr_name, expr_of_type, expr_offset, expr_paren, expr_postfix, expr_text, expr_unary}
use Rattle.elab_core.specs.Ends.{last_number, braces_end}
use Rattle.tree_data.specs.Seen.{tree_of, braces_of}
use Rattle.elab_core.proofs.ends.+last.Goals as goal

abbrev whole : ℕ × Expr → ℕ × Tree
whole p = (p.0, tree_of p.1)

pub last_of-returns-in-Name : goal.last_of-returns-in-Name
last_of-returns-in-Name t c = sym (ap last_of (expr_name c.args.expr.now c.in-Name.at c.in-Name.is))

pub last_of-returns-in-Constant : goal.last_of-returns-in-Constant
last_of-returns-in-Constant t c = sym (ap last_of (expr_constant c.args.expr.now c.in-Constant.at c.in-Constant.is))

pub last_of-returns-in-Text : goal.last_of-returns-in-Text
last_of-returns-in-Text t c = c.last_number.ensures ∙ ap last_number c.as_slice.ensures.value ∙ sym (ap last_of (expr_text c.args.expr.now c.in-Text.pieces c.in-Text.is))

pub last_of-returns-in-Paren : goal.last_of-returns-in-Paren
last_of-returns-in-Paren t c = sym (ap last_of (expr_paren c.args.expr.now c.in-Paren.field-0 c.in-Paren.field-1 c.in-Paren.closing c.in-Paren.is))

pub last_of-returns-in-Postfix : goal.last_of-returns-in-Postfix
last_of-returns-in-Postfix t c = c.suffixes_end.ensures ∙ sym (ap last_of (expr_postfix c.args.expr.now c.in-Postfix.field-0 c.in-Postfix.more c.in-Postfix.is))

pub last_of-returns-in-Unary : goal.last_of-returns-in-Unary
last_of-returns-in-Unary t c = c.last_of.ensures ∙ ap (λ x. last_of (tree_of x)) c.deref.ensures ∙ sym (ap last_of (expr_unary c.args.expr.now c.in-Unary.field-0 c.in-Unary.operand c.in-Unary.is))

pub last_of-returns-in-OfType : goal.last_of-returns-in-OfType
last_of-returns-in-OfType t c = sym (ap last_of (expr_of_type c.args.expr.now c.in-OfType.field-0 c.in-OfType.field-1 c.in-OfType.field-2 c.in-OfType.closing c.in-OfType.is))

pub last_of-returns-in-Binary : goal.last_of-returns-in-Binary
last_of-returns-in-Binary t c = c.operands_end.ensures ∙ sym (ap last_of (expr_binary c.args.expr.now c.in-Binary.field-0 c.in-Binary.more c.in-Binary.is))

pub last_of-returns-in-Conditional : goal.last_of-returns-in-Conditional
last_of-returns-in-Conditional t c = c.last_of-in-Conditional.ensures ∙ ap (λ x. last_of (tree_of x)) c.deref-in-Conditional.ensures ∙ sym (ap last_of (expr_conditional c.args.expr.now c.in-Conditional.field-0 c.in-Conditional.last c.in-Conditional.is))

pub last_of-returns-in-Assign : goal.last_of-returns-in-Assign
last_of-returns-in-Assign t c = c.last_of-in-Assign.ensures ∙ ap (λ x. last_of (tree_of x)) c.deref-in-Assign.ensures ∙ sym (ap last_of (expr_assign c.args.expr.now c.in-Assign.field-0 c.in-Assign.value c.in-Assign.is))

pub last_of-returns-in-Compound : goal.last_of-returns-in-Compound
last_of-returns-in-Compound t c = c.braces_end.ensures ∙ ap (λ x. braces_end (braces_of x)) c.deref-in-Compound.ensures ∙ sym (ap last_of (expr_compound c.args.expr.now c.in-Compound.field-0 c.in-Compound.field-1 c.in-Compound.field-2 c.in-Compound.list c.in-Compound.is))

pub last_of-returns-in-Generic : goal.last_of-returns-in-Generic
last_of-returns-in-Generic t c = sym (ap last_of (expr_generic c.args.expr.now c.in-Generic.field-0 c.in-Generic.field-1 c.in-Generic.field-2 c.in-Generic.field-3 c.in-Generic.closing c.in-Generic.is))

pub last_of-returns-in-Offset : goal.last_of-returns-in-Offset
last_of-returns-in-Offset t c = sym (ap last_of (expr_offset c.args.expr.now c.in-Offset.field-0 c.in-Offset.field-1 c.in-Offset.field-2 c.in-Offset.field-3 c.in-Offset.field-4 c.in-Offset.field-5 c.in-Offset.closing c.in-Offset.is))

pub operands_end-returns-in-Some : goal.operands_end-returns-in-Some
operands_end-returns-in-Some t c =
    let is : c.args.more.now.items ≡ c.in-Some.field-0-1.now ++ c.in-Some.pair.now ∷ [] = search rules in
    c.last_of.ensures ∙ sym (last_part_is operand (map whole c.args.more.now.items) (map whole c.in-Some.field-0-1.now) (whole c.in-Some.pair.now)
    (ap (map whole) is ∙ mapped whole c.in-Some.field-0-1.now c.in-Some.pair.now))
