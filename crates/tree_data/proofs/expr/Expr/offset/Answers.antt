use Rattle.std.proofs.Common.{ap, sym, ◌∙◌}
use Rattle.tree_data.specs.declared.expr.Expr.TheOpen as layer
use Rattle.tree_data.specs.declared.expr.Expr.TheFolds.{fold-roll-Expr}
use Rattle.tree_data.specs.declared.expr.Expr.TheVariants.{rolls-Offset}
use Rattle.tree_data.specs.Seen.{tree_of, behind_of, front_of, braces_of, piece_of, initial_of, designator_of, association_of, bound_of, deriving_of, group_of, parameters_of, prefix_of, specifier_of, declarator_of, specs_of, type_of, member_of, field_of, enumerator_of, enumeration_of, assertion_of, tree_step, designator_step, initial_step, piece_step, enumerator_step, field_step, member_step, behind_step, association_step, bound_step, deriving_step, group_step, parameters_step, prefix_step, specifier_step, braces_step, assertion_step, enumeration_step, front_step, declarator_step, specs_step, type_step, suffixes_of}
use Rattle.tree_data.specs.Trees as spec
use Rattle.tree_data.specs.Trees.{Tree, Behind, Front, Initial, Offset_of, behinds, None_behind, Grouping, Specifying, Specifyings, Declaring, Naming}
use Rattle.tree_data.proofs.expr.Expr.offset.Goals as goal

pub returns : goal.returns
unfolding tree_of behind_of front_of braces_of piece_of initial_of designator_of association_of bound_of deriving_of group_of parameters_of prefix_of specifier_of declarator_of specs_of type_of member_of field_of enumerator_of enumeration_of assertion_of tree_step designator_step initial_step piece_step enumerator_step field_step member_step behind_step association_step bound_step deriving_step group_step parameters_step prefix_step specifier_step braces_step assertion_step enumeration_step front_step declarator_step specs_step type_step
returns c =
    ap tree_of (sym (rolls-Offset c.args.keyword c.args.opening c.in_ok-name.name c.args.comma c.args.member c.in_ok-steps.steps c.args.closing))
    ∙ fold-roll-Expr Tree spec.Designator Initial spec.Piece spec.Enumerator spec.Field spec.Member Behind spec.Association spec.Bound spec.Deriving Grouping spec.Parameters Front Specifying spec.Braces spec.Assertion Specifying Front Declaring Specifyings Naming tree_step designator_step initial_step piece_step enumerator_step field_step member_step behind_step association_step bound_step deriving_step group_step parameters_step prefix_step specifier_step braces_step assertion_step enumeration_step front_step declarator_step specs_step type_step (layer.Offset c.args.keyword c.args.opening c.in_ok-name.name c.args.comma c.args.member c.in_ok-steps.steps c.args.closing)
    ∙ ap (λ x. Offset_of c.args.keyword c.args.opening (type_of x) c.args.comma c.args.member (behinds (suffixes_of c.in_ok-steps.steps.value.items) None_behind) c.args.closing) c.in_ok-name.ensures.ok
    ∙ ap (λ xs. Offset_of c.args.keyword c.args.opening (type_of c.args.name) c.args.comma c.args.member (behinds (suffixes_of xs.items) None_behind) c.args.closing) c.in_ok-steps.ensures.ok
