use Rattle.std.proofs.Common.{ap, sym, ◌∙◌}
use Rattle.tree_data.specs.declared.expr.Expr.TheOpen as layer
use Rattle.tree_data.specs.declared.expr.Expr.TheFolds.{fold-roll-Bound}
use Rattle.tree_data.specs.declared.types.Bound.TheVariants.{rolls-Unsized, rolls-AnySize, rolls-Sized, rolls-StaticSized, rolls-SizedStatic}
use Rattle.tree_data.specs.Seen.{tree_of, behind_of, front_of, braces_of, piece_of, initial_of, designator_of, association_of, bound_of, deriving_of, group_of, parameters_of, prefix_of, specifier_of, declarator_of, specs_of, type_of, member_of, field_of, enumerator_of, enumeration_of, assertion_of, tree_step, designator_step, initial_step, piece_step, enumerator_step, field_step, member_step, behind_step, association_step, bound_step, deriving_step, group_step, parameters_step, prefix_step, specifier_step, braces_step, assertion_step, enumeration_step, front_step, declarator_step, specs_step, type_step}
use Rattle.tree_data.specs.Trees as spec
use Rattle.tree_data.specs.Trees.{Tree, Behind, Front, Initial, Grouping, Specifying, Specifyings, Declaring, Naming, are_some, is_starred}
use Rattle.tree_data.proofs.types.Bound.is_starred.Goals as goal

pub returns-in-Unsized : goal.returns-in-Unsized
unfolding tree_of behind_of front_of braces_of piece_of initial_of designator_of association_of bound_of deriving_of group_of parameters_of prefix_of specifier_of declarator_of specs_of type_of member_of field_of enumerator_of enumeration_of assertion_of tree_step designator_step initial_step piece_step enumerator_step field_step member_step behind_step association_step bound_step deriving_step group_step parameters_step prefix_step specifier_step braces_step assertion_step enumeration_step front_step declarator_step specs_step type_step
returns-in-Unsized c =
    sym
    (ap (λ e. is_starred (bound_of e)) (c.in-Unsized.is ∙ sym (rolls-Unsized c.in-Unsized.field-0))
    ∙ ap is_starred (fold-roll-Bound Tree spec.Designator Initial spec.Piece spec.Enumerator spec.Field spec.Member Behind spec.Association spec.Bound spec.Deriving Grouping spec.Parameters Front Specifying spec.Braces spec.Assertion Specifying Front Declaring Specifyings Naming tree_step designator_step initial_step piece_step enumerator_step field_step member_step behind_step association_step bound_step deriving_step group_step parameters_step prefix_step specifier_step braces_step assertion_step enumeration_step front_step declarator_step specs_step type_step (layer.Unsized c.in-Unsized.field-0)))

pub returns-in-AnySize : goal.returns-in-AnySize
unfolding tree_of behind_of front_of braces_of piece_of initial_of designator_of association_of bound_of deriving_of group_of parameters_of prefix_of specifier_of declarator_of specs_of type_of member_of field_of enumerator_of enumeration_of assertion_of tree_step designator_step initial_step piece_step enumerator_step field_step member_step behind_step association_step bound_step deriving_step group_step parameters_step prefix_step specifier_step braces_step assertion_step enumeration_step front_step declarator_step specs_step type_step
returns-in-AnySize c =
    c.are_some.ensures
    ∙ ap are_some c.as_slice.ensures.value
    ∙ sym
    (ap (λ e. is_starred (bound_of e)) (c.in-AnySize.is ∙ sym (rolls-AnySize c.in-AnySize.qualifiers c.in-AnySize.field-1))
    ∙ ap is_starred (fold-roll-Bound Tree spec.Designator Initial spec.Piece spec.Enumerator spec.Field spec.Member Behind spec.Association spec.Bound spec.Deriving Grouping spec.Parameters Front Specifying spec.Braces spec.Assertion Specifying Front Declaring Specifyings Naming tree_step designator_step initial_step piece_step enumerator_step field_step member_step behind_step association_step bound_step deriving_step group_step parameters_step prefix_step specifier_step braces_step assertion_step enumeration_step front_step declarator_step specs_step type_step (layer.AnySize c.in-AnySize.qualifiers c.in-AnySize.field-1)))

pub returns-in-Sized : goal.returns-in-Sized
unfolding tree_of behind_of front_of braces_of piece_of initial_of designator_of association_of bound_of deriving_of group_of parameters_of prefix_of specifier_of declarator_of specs_of type_of member_of field_of enumerator_of enumeration_of assertion_of tree_step designator_step initial_step piece_step enumerator_step field_step member_step behind_step association_step bound_step deriving_step group_step parameters_step prefix_step specifier_step braces_step assertion_step enumeration_step front_step declarator_step specs_step type_step
returns-in-Sized c =
    sym
    (ap (λ e. is_starred (bound_of e)) (c.in-Sized.is ∙ sym (rolls-Sized c.in-Sized.field-0 c.in-Sized.field-1))
    ∙ ap is_starred (fold-roll-Bound Tree spec.Designator Initial spec.Piece spec.Enumerator spec.Field spec.Member Behind spec.Association spec.Bound spec.Deriving Grouping spec.Parameters Front Specifying spec.Braces spec.Assertion Specifying Front Declaring Specifyings Naming tree_step designator_step initial_step piece_step enumerator_step field_step member_step behind_step association_step bound_step deriving_step group_step parameters_step prefix_step specifier_step braces_step assertion_step enumeration_step front_step declarator_step specs_step type_step (layer.Sized c.in-Sized.field-0 c.in-Sized.field-1)))

pub returns-in-StaticSized : goal.returns-in-StaticSized
unfolding tree_of behind_of front_of braces_of piece_of initial_of designator_of association_of bound_of deriving_of group_of parameters_of prefix_of specifier_of declarator_of specs_of type_of member_of field_of enumerator_of enumeration_of assertion_of tree_step designator_step initial_step piece_step enumerator_step field_step member_step behind_step association_step bound_step deriving_step group_step parameters_step prefix_step specifier_step braces_step assertion_step enumeration_step front_step declarator_step specs_step type_step
returns-in-StaticSized c =
    sym
    (ap (λ e. is_starred (bound_of e)) (c.in-StaticSized.is ∙ sym (rolls-StaticSized c.in-StaticSized.field-0 c.in-StaticSized.field-1 c.in-StaticSized.field-2))
    ∙ ap is_starred (fold-roll-Bound Tree spec.Designator Initial spec.Piece spec.Enumerator spec.Field spec.Member Behind spec.Association spec.Bound spec.Deriving Grouping spec.Parameters Front Specifying spec.Braces spec.Assertion Specifying Front Declaring Specifyings Naming tree_step designator_step initial_step piece_step enumerator_step field_step member_step behind_step association_step bound_step deriving_step group_step parameters_step prefix_step specifier_step braces_step assertion_step enumeration_step front_step declarator_step specs_step type_step (layer.StaticSized c.in-StaticSized.field-0 c.in-StaticSized.field-1 c.in-StaticSized.field-2)))

pub returns-in-SizedStatic : goal.returns-in-SizedStatic
unfolding tree_of behind_of front_of braces_of piece_of initial_of designator_of association_of bound_of deriving_of group_of parameters_of prefix_of specifier_of declarator_of specs_of type_of member_of field_of enumerator_of enumeration_of assertion_of tree_step designator_step initial_step piece_step enumerator_step field_step member_step behind_step association_step bound_step deriving_step group_step parameters_step prefix_step specifier_step braces_step assertion_step enumeration_step front_step declarator_step specs_step type_step
returns-in-SizedStatic c =
    sym
    (ap (λ e. is_starred (bound_of e)) (c.in-SizedStatic.is ∙ sym (rolls-SizedStatic c.in-SizedStatic.field-0 c.in-SizedStatic.field-1 c.in-SizedStatic.field-2))
    ∙ ap is_starred (fold-roll-Bound Tree spec.Designator Initial spec.Piece spec.Enumerator spec.Field spec.Member Behind spec.Association spec.Bound spec.Deriving Grouping spec.Parameters Front Specifying spec.Braces spec.Assertion Specifying Front Declaring Specifyings Naming tree_step designator_step initial_step piece_step enumerator_step field_step member_step behind_step association_step bound_step deriving_step group_step parameters_step prefix_step specifier_step braces_step assertion_step enumeration_step front_step declarator_step specs_step type_step (layer.SizedStatic c.in-SizedStatic.field-0 c.in-SizedStatic.field-1 c.in-SizedStatic.field-2)))
