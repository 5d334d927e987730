use Rattle.std.proofs.Common.{ap, sym, ◌∙◌}
use Rattle.tree_data.specs.declared.expr.Expr.TheOpen as layer
use Rattle.tree_data.specs.declared.expr.Expr.TheFolds.{fold-roll-Deriving}
use Rattle.tree_data.specs.declared.types.Deriving.TheVariants.{rolls-Array, rolls-Function}
use Rattle.tree_data.specs.Seen.{tree_of, behind_of, front_of, braces_of, piece_of, initial_of, designator_of, association_of, bound_of, deriving_of, group_of, parameters_of, prefix_of, specifier_of, declarator_of, specs_of, type_of, member_of, field_of, enumerator_of, enumeration_of, assertion_of, tree_step, designator_step, initial_step, piece_step, enumerator_step, field_step, member_step, behind_step, association_step, bound_step, deriving_step, group_step, parameters_step, prefix_step, specifier_step, braces_step, assertion_step, enumeration_step, front_step, declarator_step, specs_step, type_step}
use Rattle.tree_data.specs.Trees as spec
use Rattle.tree_data.specs.Trees.{Tree, Behind, Front, Initial, Grouping, Specifying, Specifyings, Declaring, Naming, needs_name}
use Rattle.tree_data.proofs.types.Deriving.needs_name.Goals as goal

pub returns-in-Array : goal.returns-in-Array
unfolding tree_of behind_of front_of braces_of piece_of initial_of designator_of association_of bound_of deriving_of group_of parameters_of prefix_of specifier_of declarator_of specs_of type_of member_of field_of enumerator_of enumeration_of assertion_of tree_step designator_step initial_step piece_step enumerator_step field_step member_step behind_step association_step bound_step deriving_step group_step parameters_step prefix_step specifier_step braces_step assertion_step enumeration_step front_step declarator_step specs_step type_step
returns-in-Array c =
    c.is_starred.ensures
    ∙ sym
    (ap (λ e. needs_name (deriving_of e)) (c.in-Array.is ∙ sym (rolls-Array c.in-Array.field-0 c.in-Array.bound c.in-Array.field-2))
    ∙ ap needs_name (fold-roll-Deriving Tree spec.Designator Initial spec.Piece spec.Enumerator spec.Field spec.Member Behind spec.Association spec.Bound spec.Deriving Grouping spec.Parameters Front Specifying spec.Braces spec.Assertion Specifying Front Declaring Specifyings Naming tree_step designator_step initial_step piece_step enumerator_step field_step member_step behind_step association_step bound_step deriving_step group_step parameters_step prefix_step specifier_step braces_step assertion_step enumeration_step front_step declarator_step specs_step type_step (layer.Array c.in-Array.field-0 c.in-Array.bound c.in-Array.field-2)))

pub returns-in-Function : goal.returns-in-Function
unfolding tree_of behind_of front_of braces_of piece_of initial_of designator_of association_of bound_of deriving_of group_of parameters_of prefix_of specifier_of declarator_of specs_of type_of member_of field_of enumerator_of enumeration_of assertion_of tree_step designator_step initial_step piece_step enumerator_step field_step member_step behind_step association_step bound_step deriving_step group_step parameters_step prefix_step specifier_step braces_step assertion_step enumeration_step front_step declarator_step specs_step type_step
returns-in-Function c =
    c.are_names.ensures
    ∙ sym
    (ap (λ e. needs_name (deriving_of e)) (c.in-Function.is ∙ sym (rolls-Function c.in-Function.field-0 c.in-Function.parameters c.in-Function.field-2))
    ∙ ap needs_name (fold-roll-Deriving Tree spec.Designator Initial spec.Piece spec.Enumerator spec.Field spec.Member Behind spec.Association spec.Bound spec.Deriving Grouping spec.Parameters Front Specifying spec.Braces spec.Assertion Specifying Front Declaring Specifyings Naming tree_step designator_step initial_step piece_step enumerator_step field_step member_step behind_step association_step bound_step deriving_step group_step parameters_step prefix_step specifier_step braces_step assertion_step enumeration_step front_step declarator_step specs_step type_step (layer.Function c.in-Function.field-0 c.in-Function.parameters c.in-Function.field-2)))
