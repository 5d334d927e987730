use Rattle.std.proofs.Common.{ap, sym, ◌∙◌}
use Rattle.tree_data.specs.declared.expr.Expr.TheOpen as layer
use Rattle.tree_data.specs.declared.expr.Expr.TheFolds.{fold-roll-Expr}
use Rattle.tree_data.specs.declared.expr.Expr.TheVariants.{rolls-Name, rolls-Constant, rolls-Text, rolls-Paren, rolls-Postfix, rolls-Binary, rolls-Conditional, rolls-Assign, rolls-OfType, rolls-Compound, rolls-Generic, rolls-Offset, rolls-Unary}
use Rattle.tree_data.specs.Seen.{tree_of, behind_of, front_of, braces_of, piece_of, initial_of, designator_of, association_of, bound_of, deriving_of, group_of, parameters_of, prefix_of, specifier_of, declarator_of, specs_of, type_of, member_of, field_of, enumerator_of, enumeration_of, assertion_of, tree_step, designator_step, initial_step, piece_step, enumerator_step, field_step, member_step, behind_step, association_step, bound_step, deriving_step, group_step, parameters_step, prefix_step, specifier_step, braces_step, assertion_step, enumeration_step, front_step, declarator_step, specs_step, type_step, prefixes_of}
use Rattle.tree_data.specs.Trees as spec
use Rattle.tree_data.specs.Trees.{Tree, Behind, Front, is_unary, is_operator, fronts, None_before, Initial, Grouping, Specifying, Specifyings, Declaring, Naming}
use Rattle.tree_data.proofs.expr.Expr.is_unary.Goals as goal

pub returns-in-Name : goal.returns-in-Name
unfolding tree_of behind_of front_of braces_of piece_of initial_of designator_of association_of bound_of deriving_of group_of parameters_of prefix_of specifier_of declarator_of specs_of type_of member_of field_of enumerator_of enumeration_of assertion_of tree_step designator_step initial_step piece_step enumerator_step field_step member_step behind_step association_step bound_step deriving_step group_step parameters_step prefix_step specifier_step braces_step assertion_step enumeration_step front_step declarator_step specs_step type_step
returns-in-Name c =
    sym
    (ap (λ e. is_unary (tree_of e)) (c.in-Name.is ∙ sym (rolls-Name c.in-Name.field-0))
    ∙ ap
    is_unary
    (fold-roll-Expr Tree spec.Designator Initial spec.Piece spec.Enumerator spec.Field spec.Member Behind spec.Association spec.Bound spec.Deriving Grouping spec.Parameters Front Specifying spec.Braces spec.Assertion Specifying Front Declaring Specifyings Naming tree_step designator_step initial_step piece_step enumerator_step field_step member_step behind_step association_step bound_step deriving_step group_step parameters_step prefix_step specifier_step braces_step assertion_step enumeration_step front_step declarator_step specs_step type_step (layer.Name c.in-Name.field-0)))

pub returns-in-Constant : goal.returns-in-Constant
unfolding tree_of behind_of front_of braces_of piece_of initial_of designator_of association_of bound_of deriving_of group_of parameters_of prefix_of specifier_of declarator_of specs_of type_of member_of field_of enumerator_of enumeration_of assertion_of tree_step designator_step initial_step piece_step enumerator_step field_step member_step behind_step association_step bound_step deriving_step group_step parameters_step prefix_step specifier_step braces_step assertion_step enumeration_step front_step declarator_step specs_step type_step
returns-in-Constant c =
    sym
    (ap (λ e. is_unary (tree_of e)) (c.in-Constant.is ∙ sym (rolls-Constant c.in-Constant.field-0))
    ∙ ap
    is_unary
    (fold-roll-Expr Tree spec.Designator Initial spec.Piece spec.Enumerator spec.Field spec.Member Behind spec.Association spec.Bound spec.Deriving Grouping spec.Parameters Front Specifying spec.Braces spec.Assertion Specifying Front Declaring Specifyings Naming tree_step designator_step initial_step piece_step enumerator_step field_step member_step behind_step association_step bound_step deriving_step group_step parameters_step prefix_step specifier_step braces_step assertion_step enumeration_step front_step declarator_step specs_step type_step (layer.Constant c.in-Constant.field-0)))

pub returns-in-Text : goal.returns-in-Text
unfolding tree_of behind_of front_of braces_of piece_of initial_of designator_of association_of bound_of deriving_of group_of parameters_of prefix_of specifier_of declarator_of specs_of type_of member_of field_of enumerator_of enumeration_of assertion_of tree_step designator_step initial_step piece_step enumerator_step field_step member_step behind_step association_step bound_step deriving_step group_step parameters_step prefix_step specifier_step braces_step assertion_step enumeration_step front_step declarator_step specs_step type_step
returns-in-Text c =
    sym
    (ap (λ e. is_unary (tree_of e)) (c.in-Text.is ∙ sym (rolls-Text c.in-Text.field-0))
    ∙ ap
    is_unary
    (fold-roll-Expr Tree spec.Designator Initial spec.Piece spec.Enumerator spec.Field spec.Member Behind spec.Association spec.Bound spec.Deriving Grouping spec.Parameters Front Specifying spec.Braces spec.Assertion Specifying Front Declaring Specifyings Naming tree_step designator_step initial_step piece_step enumerator_step field_step member_step behind_step association_step bound_step deriving_step group_step parameters_step prefix_step specifier_step braces_step assertion_step enumeration_step front_step declarator_step specs_step type_step (layer.Text c.in-Text.field-0)))

pub returns-in-Paren : goal.returns-in-Paren
unfolding tree_of behind_of front_of braces_of piece_of initial_of designator_of association_of bound_of deriving_of group_of parameters_of prefix_of specifier_of declarator_of specs_of type_of member_of field_of enumerator_of enumeration_of assertion_of tree_step designator_step initial_step piece_step enumerator_step field_step member_step behind_step association_step bound_step deriving_step group_step parameters_step prefix_step specifier_step braces_step assertion_step enumeration_step front_step declarator_step specs_step type_step
returns-in-Paren c =
    sym
    (ap (λ e. is_unary (tree_of e)) (c.in-Paren.is ∙ sym (rolls-Paren c.in-Paren.field-0 c.in-Paren.field-1 c.in-Paren.field-2))
    ∙ ap
    is_unary
    (fold-roll-Expr Tree spec.Designator Initial spec.Piece spec.Enumerator spec.Field spec.Member Behind spec.Association spec.Bound spec.Deriving Grouping spec.Parameters Front Specifying spec.Braces spec.Assertion Specifying Front Declaring Specifyings Naming tree_step designator_step initial_step piece_step enumerator_step field_step member_step behind_step association_step bound_step deriving_step group_step parameters_step prefix_step specifier_step braces_step assertion_step enumeration_step front_step declarator_step specs_step type_step (layer.Paren c.in-Paren.field-0 c.in-Paren.field-1 c.in-Paren.field-2)))

pub returns-in-Postfix : goal.returns-in-Postfix
unfolding tree_of behind_of front_of braces_of piece_of initial_of designator_of association_of bound_of deriving_of group_of parameters_of prefix_of specifier_of declarator_of specs_of type_of member_of field_of enumerator_of enumeration_of assertion_of tree_step designator_step initial_step piece_step enumerator_step field_step member_step behind_step association_step bound_step deriving_step group_step parameters_step prefix_step specifier_step braces_step assertion_step enumeration_step front_step declarator_step specs_step type_step
returns-in-Postfix c =
    sym
    (ap (λ e. is_unary (tree_of e)) (c.in-Postfix.is ∙ sym (rolls-Postfix c.in-Postfix.field-0 c.in-Postfix.field-1))
    ∙ ap
    is_unary
    (fold-roll-Expr Tree spec.Designator Initial spec.Piece spec.Enumerator spec.Field spec.Member Behind spec.Association spec.Bound spec.Deriving Grouping spec.Parameters Front Specifying spec.Braces spec.Assertion Specifying Front Declaring Specifyings Naming tree_step designator_step initial_step piece_step enumerator_step field_step member_step behind_step association_step bound_step deriving_step group_step parameters_step prefix_step specifier_step braces_step assertion_step enumeration_step front_step declarator_step specs_step type_step (layer.Postfix c.in-Postfix.field-0 c.in-Postfix.field-1)))

pub returns-in-Binary : goal.returns-in-Binary
unfolding tree_of behind_of front_of braces_of piece_of initial_of designator_of association_of bound_of deriving_of group_of parameters_of prefix_of specifier_of declarator_of specs_of type_of member_of field_of enumerator_of enumeration_of assertion_of tree_step designator_step initial_step piece_step enumerator_step field_step member_step behind_step association_step bound_step deriving_step group_step parameters_step prefix_step specifier_step braces_step assertion_step enumeration_step front_step declarator_step specs_step type_step
returns-in-Binary c =
    sym
    (ap (λ e. is_unary (tree_of e)) (c.in-Binary.is ∙ sym (rolls-Binary c.in-Binary.field-0 c.in-Binary.field-1))
    ∙ ap
    is_unary
    (fold-roll-Expr Tree spec.Designator Initial spec.Piece spec.Enumerator spec.Field spec.Member Behind spec.Association spec.Bound spec.Deriving Grouping spec.Parameters Front Specifying spec.Braces spec.Assertion Specifying Front Declaring Specifyings Naming tree_step designator_step initial_step piece_step enumerator_step field_step member_step behind_step association_step bound_step deriving_step group_step parameters_step prefix_step specifier_step braces_step assertion_step enumeration_step front_step declarator_step specs_step type_step (layer.Binary c.in-Binary.field-0 c.in-Binary.field-1)))

pub returns-in-Conditional : goal.returns-in-Conditional
unfolding tree_of behind_of front_of braces_of piece_of initial_of designator_of association_of bound_of deriving_of group_of parameters_of prefix_of specifier_of declarator_of specs_of type_of member_of field_of enumerator_of enumeration_of assertion_of tree_step designator_step initial_step piece_step enumerator_step field_step member_step behind_step association_step bound_step deriving_step group_step parameters_step prefix_step specifier_step braces_step assertion_step enumeration_step front_step declarator_step specs_step type_step
returns-in-Conditional c =
    sym
    (ap (λ e. is_unary (tree_of e)) (c.in-Conditional.is ∙ sym (rolls-Conditional c.in-Conditional.field-0 c.in-Conditional.field-1))
    ∙ ap
    is_unary
    (fold-roll-Expr Tree spec.Designator Initial spec.Piece spec.Enumerator spec.Field spec.Member Behind spec.Association spec.Bound spec.Deriving Grouping spec.Parameters Front Specifying spec.Braces spec.Assertion Specifying Front Declaring Specifyings Naming tree_step designator_step initial_step piece_step enumerator_step field_step member_step behind_step association_step bound_step deriving_step group_step parameters_step prefix_step specifier_step braces_step assertion_step enumeration_step front_step declarator_step specs_step type_step (layer.Conditional c.in-Conditional.field-0 c.in-Conditional.field-1)))

pub returns-in-Assign : goal.returns-in-Assign
unfolding tree_of behind_of front_of braces_of piece_of initial_of designator_of association_of bound_of deriving_of group_of parameters_of prefix_of specifier_of declarator_of specs_of type_of member_of field_of enumerator_of enumeration_of assertion_of tree_step designator_step initial_step piece_step enumerator_step field_step member_step behind_step association_step bound_step deriving_step group_step parameters_step prefix_step specifier_step braces_step assertion_step enumeration_step front_step declarator_step specs_step type_step
returns-in-Assign c =
    sym
    (ap (λ e. is_unary (tree_of e)) (c.in-Assign.is ∙ sym (rolls-Assign c.in-Assign.field-0 c.in-Assign.field-1))
    ∙ ap
    is_unary
    (fold-roll-Expr Tree spec.Designator Initial spec.Piece spec.Enumerator spec.Field spec.Member Behind spec.Association spec.Bound spec.Deriving Grouping spec.Parameters Front Specifying spec.Braces spec.Assertion Specifying Front Declaring Specifyings Naming tree_step designator_step initial_step piece_step enumerator_step field_step member_step behind_step association_step bound_step deriving_step group_step parameters_step prefix_step specifier_step braces_step assertion_step enumeration_step front_step declarator_step specs_step type_step (layer.Assign c.in-Assign.field-0 c.in-Assign.field-1)))

pub returns-in-OfType : goal.returns-in-OfType
unfolding tree_of behind_of front_of braces_of piece_of initial_of designator_of association_of bound_of deriving_of group_of parameters_of prefix_of specifier_of declarator_of specs_of type_of member_of field_of enumerator_of enumeration_of assertion_of tree_step designator_step initial_step piece_step enumerator_step field_step member_step behind_step association_step bound_step deriving_step group_step parameters_step prefix_step specifier_step braces_step assertion_step enumeration_step front_step declarator_step specs_step type_step
returns-in-OfType c =
    sym
    (ap (λ e. is_unary (tree_of e)) (c.in-OfType.is ∙ sym (rolls-OfType c.in-OfType.field-0 c.in-OfType.field-1 c.in-OfType.field-2 c.in-OfType.field-3))
    ∙ ap
    is_unary
    (fold-roll-Expr Tree spec.Designator Initial spec.Piece spec.Enumerator spec.Field spec.Member Behind spec.Association spec.Bound spec.Deriving Grouping spec.Parameters Front Specifying spec.Braces spec.Assertion Specifying Front Declaring Specifyings Naming tree_step designator_step initial_step piece_step enumerator_step field_step member_step behind_step association_step bound_step deriving_step group_step parameters_step prefix_step specifier_step braces_step assertion_step enumeration_step front_step declarator_step specs_step type_step (layer.OfType c.in-OfType.field-0 c.in-OfType.field-1 c.in-OfType.field-2 c.in-OfType.field-3)))

pub returns-in-Compound : goal.returns-in-Compound
unfolding tree_of behind_of front_of braces_of piece_of initial_of designator_of association_of bound_of deriving_of group_of parameters_of prefix_of specifier_of declarator_of specs_of type_of member_of field_of enumerator_of enumeration_of assertion_of tree_step designator_step initial_step piece_step enumerator_step field_step member_step behind_step association_step bound_step deriving_step group_step parameters_step prefix_step specifier_step braces_step assertion_step enumeration_step front_step declarator_step specs_step type_step
returns-in-Compound c =
    sym
    (ap (λ e. is_unary (tree_of e)) (c.in-Compound.is ∙ sym (rolls-Compound c.in-Compound.field-0 c.in-Compound.field-1 c.in-Compound.field-2 c.in-Compound.field-3))
    ∙ ap
    is_unary
    (fold-roll-Expr Tree spec.Designator Initial spec.Piece spec.Enumerator spec.Field spec.Member Behind spec.Association spec.Bound spec.Deriving Grouping spec.Parameters Front Specifying spec.Braces spec.Assertion Specifying Front Declaring Specifyings Naming tree_step designator_step initial_step piece_step enumerator_step field_step member_step behind_step association_step bound_step deriving_step group_step parameters_step prefix_step specifier_step braces_step assertion_step enumeration_step front_step declarator_step specs_step type_step (layer.Compound c.in-Compound.field-0 c.in-Compound.field-1 c.in-Compound.field-2 c.in-Compound.field-3)))

pub returns-in-Unary : goal.returns-in-Unary
unfolding tree_of behind_of front_of braces_of piece_of initial_of designator_of association_of bound_of deriving_of group_of parameters_of prefix_of specifier_of declarator_of specs_of type_of member_of field_of enumerator_of enumeration_of assertion_of tree_step designator_step initial_step piece_step enumerator_step field_step member_step behind_step association_step bound_step deriving_step group_step parameters_step prefix_step specifier_step braces_step assertion_step enumeration_step front_step declarator_step specs_step type_step
returns-in-Unary c =
    c.begins_with_operator.ensures
    ∙ ap (λ ps. is_operator (fronts (prefixes_of ps) None_before)) c.as_slice.ensures.value
    ∙ sym
    (ap (λ e. is_unary (tree_of e)) (c.in-Unary.is ∙ sym (rolls-Unary c.in-Unary.prefixes c.in-Unary.field-1))
    ∙ ap
    is_unary
    (fold-roll-Expr Tree spec.Designator Initial spec.Piece spec.Enumerator spec.Field spec.Member Behind spec.Association spec.Bound spec.Deriving Grouping spec.Parameters Front Specifying spec.Braces spec.Assertion Specifying Front Declaring Specifyings Naming tree_step designator_step initial_step piece_step enumerator_step field_step member_step behind_step association_step bound_step deriving_step group_step parameters_step prefix_step specifier_step braces_step assertion_step enumeration_step front_step declarator_step specs_step type_step (layer.Unary c.in-Unary.prefixes c.in-Unary.field-1)))

pub returns-in-Generic : goal.returns-in-Generic
unfolding tree_of behind_of front_of braces_of piece_of initial_of designator_of association_of bound_of deriving_of group_of parameters_of prefix_of specifier_of declarator_of specs_of type_of member_of field_of enumerator_of enumeration_of assertion_of tree_step designator_step initial_step piece_step enumerator_step field_step member_step behind_step association_step bound_step deriving_step group_step parameters_step prefix_step specifier_step braces_step assertion_step enumeration_step front_step declarator_step specs_step type_step
returns-in-Generic c =
    sym
    (ap (λ e. is_unary (tree_of e)) (c.in-Generic.is ∙ sym (rolls-Generic c.in-Generic.field-0 c.in-Generic.field-1 c.in-Generic.field-2 c.in-Generic.field-3 c.in-Generic.field-4))
    ∙ ap
    is_unary
    (fold-roll-Expr Tree spec.Designator Initial spec.Piece spec.Enumerator spec.Field spec.Member Behind spec.Association spec.Bound spec.Deriving Grouping spec.Parameters Front Specifying spec.Braces spec.Assertion Specifying Front Declaring Specifyings Naming tree_step designator_step initial_step piece_step enumerator_step field_step member_step behind_step association_step bound_step deriving_step group_step parameters_step prefix_step specifier_step braces_step assertion_step enumeration_step front_step declarator_step specs_step type_step (layer.Generic c.in-Generic.field-0 c.in-Generic.field-1 c.in-Generic.field-2 c.in-Generic.field-3 c.in-Generic.field-4)))

pub returns-in-Offset : goal.returns-in-Offset
unfolding tree_of behind_of front_of braces_of piece_of initial_of designator_of association_of bound_of deriving_of group_of parameters_of prefix_of specifier_of declarator_of specs_of type_of member_of field_of enumerator_of enumeration_of assertion_of tree_step designator_step initial_step piece_step enumerator_step field_step member_step behind_step association_step bound_step deriving_step group_step parameters_step prefix_step specifier_step braces_step assertion_step enumeration_step front_step declarator_step specs_step type_step
returns-in-Offset c =
    sym
    (ap (λ e. is_unary (tree_of e)) (c.in-Offset.is ∙ sym (rolls-Offset c.in-Offset.field-0 c.in-Offset.field-1 c.in-Offset.field-2 c.in-Offset.field-3 c.in-Offset.field-4 c.in-Offset.field-5 c.in-Offset.field-6))
    ∙ ap
    is_unary
    (fold-roll-Expr Tree spec.Designator Initial spec.Piece spec.Enumerator spec.Field spec.Member Behind spec.Association spec.Bound spec.Deriving Grouping spec.Parameters Front Specifying spec.Braces spec.Assertion Specifying Front Declaring Specifyings Naming tree_step designator_step initial_step piece_step enumerator_step field_step member_step behind_step association_step bound_step deriving_step group_step parameters_step prefix_step specifier_step braces_step assertion_step enumeration_step front_step declarator_step specs_step type_step (layer.Offset c.in-Offset.field-0 c.in-Offset.field-1 c.in-Offset.field-2 c.in-Offset.field-3 c.in-Offset.field-4 c.in-Offset.field-5 c.in-Offset.field-6)))
