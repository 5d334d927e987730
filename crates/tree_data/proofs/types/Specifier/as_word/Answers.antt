use Rattle.std.proofs.Common.{ap, sym, ◌∙◌}
use Rattle.tree_data.specs.declared.expr.Expr.TheOpen as layer
use Rattle.tree_data.specs.declared.expr.Expr.TheFolds.{fold-roll-Specifier, fold_out-Enumeration}
use Rattle.tree_data.specs.declared.types.Specifier.TheVariants.{rolls-Word, rolls-TypedefName, rolls-Tag, rolls-Atomic, rolls-AlignedAs, rolls-Aligned, rolls-Members, rolls-Enumerators}
use Rattle.tree_data.specs.Seen.{tree_of, behind_of, front_of, braces_of, piece_of, initial_of, designator_of, association_of, bound_of, deriving_of, group_of, parameters_of, prefix_of, specifier_of, declarator_of, specs_of, type_of, member_of, field_of, enumerator_of, enumeration_of, assertion_of, tree_step, designator_step, initial_step, piece_step, enumerator_step, field_step, member_step, behind_step, association_step, bound_step, deriving_step, group_step, parameters_step, prefix_step, specifier_step, braces_step, assertion_step, enumeration_step, front_step, declarator_step, specs_step, type_step}
use Rattle.tree_data.specs.Trees as spec
use Rattle.tree_data.specs.Trees.{Tree, Behind, Front, Initial, Grouping, Specifying, Specifyings, Declaring, Naming, word_in}
use Rattle.tree_data.proofs.types.Specifier.as_word.Goals as goal

pub returns-in-Word : goal.returns-in-Word
unfolding tree_of behind_of front_of braces_of piece_of initial_of designator_of association_of bound_of deriving_of group_of parameters_of prefix_of specifier_of declarator_of specs_of type_of member_of field_of enumerator_of enumeration_of assertion_of tree_step designator_step initial_step piece_step enumerator_step field_step member_step behind_step association_step bound_step deriving_step group_step parameters_step prefix_step specifier_step braces_step assertion_step enumeration_step front_step declarator_step specs_step type_step
returns-in-Word c =
    sym
    (ap (λ e. word_in (specifier_of e)) (c.in-Word.is ∙ sym (rolls-Word c.in-Word.at))
    ∙ ap word_in (fold-roll-Specifier Tree spec.Designator Initial spec.Piece spec.Enumerator spec.Field spec.Member Behind spec.Association spec.Bound spec.Deriving Grouping spec.Parameters Front Specifying spec.Braces spec.Assertion Specifying Front Declaring Specifyings Naming tree_step designator_step initial_step piece_step enumerator_step field_step member_step behind_step association_step bound_step deriving_step group_step parameters_step prefix_step specifier_step braces_step assertion_step enumeration_step front_step declarator_step specs_step type_step (layer.Word c.in-Word.at)))

pub returns-in-TypedefName : goal.returns-in-TypedefName
unfolding tree_of behind_of front_of braces_of piece_of initial_of designator_of association_of bound_of deriving_of group_of parameters_of prefix_of specifier_of declarator_of specs_of type_of member_of field_of enumerator_of enumeration_of assertion_of tree_step designator_step initial_step piece_step enumerator_step field_step member_step behind_step association_step bound_step deriving_step group_step parameters_step prefix_step specifier_step braces_step assertion_step enumeration_step front_step declarator_step specs_step type_step
returns-in-TypedefName c =
    sym
    (ap (λ e. word_in (specifier_of e)) (c.in-TypedefName.is ∙ sym (rolls-TypedefName c.in-TypedefName.field-0))
    ∙ ap word_in (fold-roll-Specifier Tree spec.Designator Initial spec.Piece spec.Enumerator spec.Field spec.Member Behind spec.Association spec.Bound spec.Deriving Grouping spec.Parameters Front Specifying spec.Braces spec.Assertion Specifying Front Declaring Specifyings Naming tree_step designator_step initial_step piece_step enumerator_step field_step member_step behind_step association_step bound_step deriving_step group_step parameters_step prefix_step specifier_step braces_step assertion_step enumeration_step front_step declarator_step specs_step type_step (layer.TypedefName c.in-TypedefName.field-0)))

pub returns-in-Tag : goal.returns-in-Tag
unfolding tree_of behind_of front_of braces_of piece_of initial_of designator_of association_of bound_of deriving_of group_of parameters_of prefix_of specifier_of declarator_of specs_of type_of member_of field_of enumerator_of enumeration_of assertion_of tree_step designator_step initial_step piece_step enumerator_step field_step member_step behind_step association_step bound_step deriving_step group_step parameters_step prefix_step specifier_step braces_step assertion_step enumeration_step front_step declarator_step specs_step type_step
returns-in-Tag c =
    sym
    (ap (λ e. word_in (specifier_of e)) (c.in-Tag.is ∙ sym (rolls-Tag c.in-Tag.field-0 c.in-Tag.field-1))
    ∙ ap word_in (fold-roll-Specifier Tree spec.Designator Initial spec.Piece spec.Enumerator spec.Field spec.Member Behind spec.Association spec.Bound spec.Deriving Grouping spec.Parameters Front Specifying spec.Braces spec.Assertion Specifying Front Declaring Specifyings Naming tree_step designator_step initial_step piece_step enumerator_step field_step member_step behind_step association_step bound_step deriving_step group_step parameters_step prefix_step specifier_step braces_step assertion_step enumeration_step front_step declarator_step specs_step type_step (layer.Tag c.in-Tag.field-0 c.in-Tag.field-1)))

pub returns-in-Atomic : goal.returns-in-Atomic
unfolding tree_of behind_of front_of braces_of piece_of initial_of designator_of association_of bound_of deriving_of group_of parameters_of prefix_of specifier_of declarator_of specs_of type_of member_of field_of enumerator_of enumeration_of assertion_of tree_step designator_step initial_step piece_step enumerator_step field_step member_step behind_step association_step bound_step deriving_step group_step parameters_step prefix_step specifier_step braces_step assertion_step enumeration_step front_step declarator_step specs_step type_step
returns-in-Atomic c =
    sym
    (ap (λ e. word_in (specifier_of e)) (c.in-Atomic.is ∙ sym (rolls-Atomic c.in-Atomic.field-0 c.in-Atomic.field-1 c.in-Atomic.field-2 c.in-Atomic.field-3))
    ∙ ap word_in (fold-roll-Specifier Tree spec.Designator Initial spec.Piece spec.Enumerator spec.Field spec.Member Behind spec.Association spec.Bound spec.Deriving Grouping spec.Parameters Front Specifying spec.Braces spec.Assertion Specifying Front Declaring Specifyings Naming tree_step designator_step initial_step piece_step enumerator_step field_step member_step behind_step association_step bound_step deriving_step group_step parameters_step prefix_step specifier_step braces_step assertion_step enumeration_step front_step declarator_step specs_step type_step (layer.Atomic c.in-Atomic.field-0 c.in-Atomic.field-1 c.in-Atomic.field-2 c.in-Atomic.field-3)))

pub returns-in-AlignedAs : goal.returns-in-AlignedAs
unfolding tree_of behind_of front_of braces_of piece_of initial_of designator_of association_of bound_of deriving_of group_of parameters_of prefix_of specifier_of declarator_of specs_of type_of member_of field_of enumerator_of enumeration_of assertion_of tree_step designator_step initial_step piece_step enumerator_step field_step member_step behind_step association_step bound_step deriving_step group_step parameters_step prefix_step specifier_step braces_step assertion_step enumeration_step front_step declarator_step specs_step type_step
returns-in-AlignedAs c =
    sym
    (ap (λ e. word_in (specifier_of e)) (c.in-AlignedAs.is ∙ sym (rolls-AlignedAs c.in-AlignedAs.field-0 c.in-AlignedAs.field-1 c.in-AlignedAs.field-2 c.in-AlignedAs.field-3))
    ∙ ap word_in (fold-roll-Specifier Tree spec.Designator Initial spec.Piece spec.Enumerator spec.Field spec.Member Behind spec.Association spec.Bound spec.Deriving Grouping spec.Parameters Front Specifying spec.Braces spec.Assertion Specifying Front Declaring Specifyings Naming tree_step designator_step initial_step piece_step enumerator_step field_step member_step behind_step association_step bound_step deriving_step group_step parameters_step prefix_step specifier_step braces_step assertion_step enumeration_step front_step declarator_step specs_step type_step (layer.AlignedAs c.in-AlignedAs.field-0 c.in-AlignedAs.field-1 c.in-AlignedAs.field-2 c.in-AlignedAs.field-3)))

pub returns-in-Aligned : goal.returns-in-Aligned
unfolding tree_of behind_of front_of braces_of piece_of initial_of designator_of association_of bound_of deriving_of group_of parameters_of prefix_of specifier_of declarator_of specs_of type_of member_of field_of enumerator_of enumeration_of assertion_of tree_step designator_step initial_step piece_step enumerator_step field_step member_step behind_step association_step bound_step deriving_step group_step parameters_step prefix_step specifier_step braces_step assertion_step enumeration_step front_step declarator_step specs_step type_step
returns-in-Aligned c =
    sym
    (ap (λ e. word_in (specifier_of e)) (c.in-Aligned.is ∙ sym (rolls-Aligned c.in-Aligned.field-0 c.in-Aligned.field-1 c.in-Aligned.field-2 c.in-Aligned.field-3))
    ∙ ap word_in (fold-roll-Specifier Tree spec.Designator Initial spec.Piece spec.Enumerator spec.Field spec.Member Behind spec.Association spec.Bound spec.Deriving Grouping spec.Parameters Front Specifying spec.Braces spec.Assertion Specifying Front Declaring Specifyings Naming tree_step designator_step initial_step piece_step enumerator_step field_step member_step behind_step association_step bound_step deriving_step group_step parameters_step prefix_step specifier_step braces_step assertion_step enumeration_step front_step declarator_step specs_step type_step (layer.Aligned c.in-Aligned.field-0 c.in-Aligned.field-1 c.in-Aligned.field-2 c.in-Aligned.field-3)))

pub returns-in-Members : goal.returns-in-Members
unfolding tree_of behind_of front_of braces_of piece_of initial_of designator_of association_of bound_of deriving_of group_of parameters_of prefix_of specifier_of declarator_of specs_of type_of member_of field_of enumerator_of enumeration_of assertion_of tree_step designator_step initial_step piece_step enumerator_step field_step member_step behind_step association_step bound_step deriving_step group_step parameters_step prefix_step specifier_step braces_step assertion_step enumeration_step front_step declarator_step specs_step type_step
returns-in-Members c =
    sym
    (ap (λ e. word_in (specifier_of e)) (c.in-Members.is ∙ sym (rolls-Members c.in-Members.field-0 c.in-Members.field-1 c.in-Members.field-2 c.in-Members.field-3 c.in-Members.field-4))
    ∙ ap word_in (fold-roll-Specifier Tree spec.Designator Initial spec.Piece spec.Enumerator spec.Field spec.Member Behind spec.Association spec.Bound spec.Deriving Grouping spec.Parameters Front Specifying spec.Braces spec.Assertion Specifying Front Declaring Specifyings Naming tree_step designator_step initial_step piece_step enumerator_step field_step member_step behind_step association_step bound_step deriving_step group_step parameters_step prefix_step specifier_step braces_step assertion_step enumeration_step front_step declarator_step specs_step type_step (layer.Members c.in-Members.field-0 c.in-Members.field-1 c.in-Members.field-2 c.in-Members.field-3 c.in-Members.field-4)))

pub returns-in-Enumerators : goal.returns-in-Enumerators
unfolding tree_of behind_of front_of braces_of piece_of initial_of designator_of association_of bound_of deriving_of group_of parameters_of prefix_of specifier_of declarator_of specs_of type_of member_of field_of enumerator_of enumeration_of assertion_of tree_step designator_step initial_step piece_step enumerator_step field_step member_step behind_step association_step bound_step deriving_step group_step parameters_step prefix_step specifier_step braces_step assertion_step enumeration_step front_step declarator_step specs_step type_step
returns-in-Enumerators c =
    sym
    (ap (λ e. word_in (specifier_of e)) (c.in-Enumerators.is ∙ sym (rolls-Enumerators c.in-Enumerators.field-0))
    ∙ ap word_in (fold-roll-Specifier Tree spec.Designator Initial spec.Piece spec.Enumerator spec.Field spec.Member Behind spec.Association spec.Bound spec.Deriving Grouping spec.Parameters Front Specifying spec.Braces spec.Assertion Specifying Front Declaring Specifyings Naming tree_step designator_step initial_step piece_step enumerator_step field_step member_step behind_step association_step bound_step deriving_step group_step parameters_step prefix_step specifier_step braces_step assertion_step enumeration_step front_step declarator_step specs_step type_step (layer.Enumerators c.in-Enumerators.field-0))
    ∙ ap word_in (fold_out-Enumeration Tree spec.Designator Initial spec.Piece spec.Enumerator spec.Field spec.Member Behind spec.Association spec.Bound spec.Deriving Grouping spec.Parameters Front Specifying spec.Braces spec.Assertion Specifying Front Declaring Specifyings Naming tree_step designator_step initial_step piece_step enumerator_step field_step member_step behind_step association_step bound_step deriving_step group_step parameters_step prefix_step specifier_step braces_step assertion_step enumeration_step front_step declarator_step specs_step type_step c.in-Enumerators.field-0.value))
