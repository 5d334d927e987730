use Rattle.std.proofs.Common.{sym, ap, ◌∙◌}
use Rattle.elab_core.specs.Ends.{first_of, front_begins}
use Rattle.elab_core.proofs.Layers.{choice_part_is, expr_assign, expr_binary, expr_compound, expr_conditional, expr_constant, expr_generic, expr_name, expr_of_type, expr_offset, expr_paren, expr_postfix, expr_text, expr_unary}
use Rattle.elab_state.specs.Tokens.{first_number}
use Rattle.tree_data.specs.Seen.{tree_of}
use Rattle.elab_core.proofs.ends.+first.Goals as goal

pub first_of-returns-in-Name : goal.first_of-returns-in-Name
first_of-returns-in-Name t c = sym (ap first_of (expr_name c.args.expr.now c.in-Name.at c.in-Name.is))

pub first_of-returns-in-Constant : goal.first_of-returns-in-Constant
first_of-returns-in-Constant t c = sym (ap first_of (expr_constant c.args.expr.now c.in-Constant.at c.in-Constant.is))

pub first_of-returns-in-Text : goal.first_of-returns-in-Text
first_of-returns-in-Text t c = c.first_number.ensures ∙ ap first_number c.as_slice.ensures.value ∙ sym (ap first_of (expr_text c.args.expr.now c.in-Text.pieces c.in-Text.is))

pub first_of-returns-in-Paren : goal.first_of-returns-in-Paren
first_of-returns-in-Paren t c = sym (ap first_of (expr_paren c.args.expr.now c.in-Paren.opening c.in-Paren.field-1 c.in-Paren.field-2 c.in-Paren.is))

pub first_of-returns-in-Postfix : goal.first_of-returns-in-Postfix
first_of-returns-in-Postfix t c = c.first_of.ensures ∙ ap (λ x. first_of (tree_of x)) c.deref.ensures ∙ sym (ap first_of (expr_postfix c.args.expr.now c.in-Postfix.first c.in-Postfix.field-1 c.in-Postfix.is))

pub first_of-returns-in-Unary : goal.first_of-returns-in-Unary
first_of-returns-in-Unary t c = c.prefixes_begin.ensures ∙ sym (ap first_of (expr_unary c.args.expr.now c.in-Unary.prefixes c.in-Unary.field-1 c.in-Unary.is))

pub first_of-returns-in-OfType : goal.first_of-returns-in-OfType
first_of-returns-in-OfType t c = sym (ap first_of (expr_of_type c.args.expr.now c.in-OfType.keyword c.in-OfType.field-1 c.in-OfType.field-2 c.in-OfType.field-3 c.in-OfType.is))

pub first_of-returns-in-Binary : goal.first_of-returns-in-Binary
first_of-returns-in-Binary t c = c.first_of-in-Binary.ensures ∙ ap (λ x. first_of (tree_of x)) c.deref-in-Binary.ensures ∙ sym (ap first_of (expr_binary c.args.expr.now c.in-Binary.first c.in-Binary.field-1 c.in-Binary.is))

pub first_of-returns-in-Conditional : goal.first_of-returns-in-Conditional
first_of-returns-in-Conditional t c = c.choices_begin.ensures ∙ sym (ap first_of (expr_conditional c.args.expr.now c.in-Conditional.choices c.in-Conditional.field-1 c.in-Conditional.is))

pub first_of-returns-in-Assign : goal.first_of-returns-in-Assign
first_of-returns-in-Assign t c = c.places_begin.ensures ∙ sym (ap first_of (expr_assign c.args.expr.now c.in-Assign.places c.in-Assign.field-1 c.in-Assign.is))

pub first_of-returns-in-Compound : goal.first_of-returns-in-Compound
first_of-returns-in-Compound t c = sym (ap first_of (expr_compound c.args.expr.now c.in-Compound.opening c.in-Compound.field-1 c.in-Compound.field-2 c.in-Compound.field-3 c.in-Compound.is))

pub first_of-returns-in-Generic : goal.first_of-returns-in-Generic
first_of-returns-in-Generic t c = sym (ap first_of (expr_generic c.args.expr.now c.in-Generic.keyword c.in-Generic.field-1 c.in-Generic.field-2 c.in-Generic.field-3 c.in-Generic.field-4 c.in-Generic.is))

pub first_of-returns-in-Offset : goal.first_of-returns-in-Offset
first_of-returns-in-Offset t c = sym (ap first_of (expr_offset c.args.expr.now c.in-Offset.keyword c.in-Offset.field-1 c.in-Offset.field-2 c.in-Offset.field-3 c.in-Offset.field-4 c.in-Offset.field-5 c.in-Offset.field-6 c.in-Offset.is))

pub choice_begins-returns : goal.choice_begins-returns
choice_begins-returns t c = c.first_of.ensures ∙ sym (ap front_begins (choice_part_is c.args.choice.now))
