use Rattle.std.proofs.Common.{ap, sym, ◌∙◌}
use Rattle.tree_data.specs.declared.expr.Expr.TheOpen as layer
use Rattle.tree_data.specs.declared.expr.Expr.TheFolds.{fold-roll-Expr}
use Rattle.tree_data.specs.declared.expr.Expr.TheVariants.{rolls-Generic}
use Rattle.tree_data.specs.Seen.{tree_of, behind_of, front_of, braces_of, piece_of, initial_of, designator_of, association_of, bound_of, deriving_of, group_of, parameters_of, prefix_of, specifier_of, declarator_of, specs_of, type_of, member_of, field_of, enumerator_of, enumeration_of, assertion_of, tree_step, designator_step, initial_step, piece_step, enumerator_step, field_step, member_step, behind_step, association_step, bound_step, deriving_step, group_step, parameters_step, prefix_step, specifier_step, braces_step, assertion_step, enumeration_step, front_step, declarator_step, specs_step, type_step, associations_of}
use Rattle.tree_data.specs.Trees as spec
use Rattle.tree_data.specs.Trees.{Tree, Behind, Front, Initial, Generic_of, associations, Grouping, Specifying, Specifyings, Declaring, Naming}
use Rattle.tree_data.proofs.expr.Expr.generic.Goals as goal

pub returns : goal.returns
unfolding tree_of behind_of front_of braces_of piece_of initial_of designator_of association_of bound_of deriving_of group_of parameters_of prefix_of specifier_of declarator_of specs_of type_of member_of field_of enumerator_of enumeration_of assertion_of tree_step designator_step initial_step piece_step enumerator_step field_step member_step behind_step association_step bound_step deriving_step group_step parameters_step prefix_step specifier_step braces_step assertion_step enumeration_step front_step declarator_step specs_step type_step
returns c =
    ap tree_of (sym (rolls-Generic c.args.keyword c.args.opening c.in_ok-control.control c.in_ok-choices.choices c.args.closing))
    ∙ fold-roll-Expr Tree spec.Designator Initial spec.Piece spec.Enumerator spec.Field spec.Member Behind spec.Association spec.Bound spec.Deriving Grouping spec.Parameters Front Specifying spec.Braces spec.Assertion Specifying Front Declaring Specifyings Naming tree_step designator_step initial_step piece_step enumerator_step field_step member_step behind_step association_step bound_step deriving_step group_step parameters_step prefix_step specifier_step braces_step assertion_step enumeration_step front_step declarator_step specs_step type_step (layer.Generic c.args.keyword c.args.opening c.in_ok-control.control c.in_ok-choices.choices c.args.closing)
    ∙ ap (λ x. Generic_of c.args.keyword c.args.opening (tree_of x) (associations (associations_of c.in_ok-choices.choices.value.items)) c.args.closing) c.in_ok-control.ensures.ok
    ∙ ap (λ xs. Generic_of c.args.keyword c.args.opening (tree_of c.args.control) (associations (associations_of xs.items)) c.args.closing) c.in_ok-choices.ensures.ok
