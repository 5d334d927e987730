use Rattle.std.proofs.Common.{sym, ap}
use Rattle.elab_core.specs.Ends.{is_text}
use Rattle.elab_core.proofs.Layers as layers
use Rattle.elab_core.proofs.braces.is_text.Goals as goal

pub returns-in-Text : goal.returns-in-Text
returns-in-Text c = sym (ap is_text (layers.expr_text c.args.expr.now c.in-Text.field-0 c.in-Text.is))

pub returns-in-Name : goal.returns-in-Name
returns-in-Name c = sym (ap is_text (layers.expr_name c.args.expr.now c.in-Name.field-0 c.in-Name.is))

pub returns-in-Constant : goal.returns-in-Constant
returns-in-Constant c = sym (ap is_text (layers.expr_constant c.args.expr.now c.in-Constant.field-0 c.in-Constant.is))

pub returns-in-Paren : goal.returns-in-Paren
returns-in-Paren c = sym (ap is_text (layers.expr_paren c.args.expr.now c.in-Paren.field-0 c.in-Paren.field-1 c.in-Paren.field-2 c.in-Paren.is))

pub returns-in-OfType : goal.returns-in-OfType
returns-in-OfType c = sym (ap is_text (layers.expr_of_type c.args.expr.now c.in-OfType.field-0 c.in-OfType.field-1 c.in-OfType.field-2 c.in-OfType.field-3 c.in-OfType.is))

pub returns-in-Postfix : goal.returns-in-Postfix
returns-in-Postfix c = sym (ap is_text (layers.expr_postfix c.args.expr.now c.in-Postfix.field-0 c.in-Postfix.field-1 c.in-Postfix.is))

pub returns-in-Unary : goal.returns-in-Unary
returns-in-Unary c = sym (ap is_text (layers.expr_unary c.args.expr.now c.in-Unary.field-0 c.in-Unary.field-1 c.in-Unary.is))

pub returns-in-Binary : goal.returns-in-Binary
returns-in-Binary c = sym (ap is_text (layers.expr_binary c.args.expr.now c.in-Binary.field-0 c.in-Binary.field-1 c.in-Binary.is))

pub returns-in-Conditional : goal.returns-in-Conditional
returns-in-Conditional c = sym (ap is_text (layers.expr_conditional c.args.expr.now c.in-Conditional.field-0 c.in-Conditional.field-1 c.in-Conditional.is))

pub returns-in-Assign : goal.returns-in-Assign
returns-in-Assign c = sym (ap is_text (layers.expr_assign c.args.expr.now c.in-Assign.field-0 c.in-Assign.field-1 c.in-Assign.is))

pub returns-in-Compound : goal.returns-in-Compound
returns-in-Compound c = sym (ap is_text (layers.expr_compound c.args.expr.now c.in-Compound.field-0 c.in-Compound.field-1 c.in-Compound.field-2 c.in-Compound.field-3 c.in-Compound.is))

pub returns-in-Generic : goal.returns-in-Generic
returns-in-Generic c = sym (ap is_text (layers.expr_generic c.args.expr.now c.in-Generic.field-0 c.in-Generic.field-1 c.in-Generic.field-2 c.in-Generic.field-3 c.in-Generic.field-4 c.in-Generic.is))

pub returns-in-Offset : goal.returns-in-Offset
returns-in-Offset c = sym (ap is_text (layers.expr_offset c.args.expr.now c.in-Offset.field-0 c.in-Offset.field-1 c.in-Offset.field-2 c.in-Offset.field-3 c.in-Offset.field-4 c.in-Offset.field-5 c.in-Offset.field-6 c.in-Offset.is))
