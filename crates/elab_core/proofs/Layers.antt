-- What each layer of a tree of the code stands for.
use Rattle.std.proofs.Common.{ℕ, ◌≡◌, Option, Vec, Box, Global, ap, sym, ◌∙◌}
use Rattle.tree_data.specs.declared.expr.Expr.{Expr}
use Rattle.tree_data.specs.declared.parts.Suffix.{Suffix}
use Rattle.tree_data.specs.declared.selections.Association.{Association}
use Rattle.tree_data.specs.declared.inits.Piece.{Piece}
use Rattle.tree_data.specs.declared.inits.Init.{Init}
use Rattle.tree_data.specs.declared.inits.Designator.{Designator}
use Rattle.tree_data.specs.declared.types.Bound.{Bound}
use Rattle.tree_data.specs.declared.types.Deriving.{Deriving}
use Rattle.tree_data.specs.declared.types.Group.{Group}
use Rattle.tree_data.specs.declared.types.Parameters.{Parameters}
use Rattle.tree_data.specs.declared.types.Prefix.{Prefix}
use Rattle.tree_data.specs.declared.types.Specifier.{Specifier}
use Rattle.tree_data.specs.declared.members.Member.{Member}
use Rattle.tree_data.specs.declared.members.Field.{Field}
use Rattle.tree_data.specs.declared.members.Enumerator.{Enumerator}
use Rattle.tree_data.specs.declared.types.TypeName.{TypeName, out-TypeName}
use Rattle.tree_data.specs.declared.types.Specs.{Specs, out-Specs}
use Rattle.tree_data.specs.declared.types.Declarator.{Declarator, out-Declarator}
use Rattle.tree_data.specs.declared.parts.Choice.{Choice, out-Choice}
use Rattle.tree_data.specs.declared.members.Enumeration.{Enumeration, out-Enumeration}
use Rattle.tree_data.specs.declared.members.Assertion.{Assertion, out-Assertion}
use Rattle.tree_data.specs.declared.inits.Braces.{Braces, out-Braces}
use Rattle.tree_data.specs.declared.expr.Expr.TheOpen as layer
use Rattle.tree_data.specs.declared.expr.Expr.TheFolds.{fold-roll-Expr, fold-roll-Suffix, fold-roll-Association, fold-roll-Piece, fold-roll-Init, fold-roll-Designator, fold-roll-Bound, fold-roll-Deriving, fold-roll-Group, fold-roll-Parameters, fold-roll-Prefix, fold-roll-Specifier, fold-roll-Member, fold-roll-Field, fold-roll-Enumerator, fold_out-TypeName, fold_out-Specs, fold_out-Declarator, fold_out-Choice, fold_out-Enumeration, fold_out-Assertion, fold_out-Braces}
use Rattle.tree_data.specs.declared.expr.Expr.TheVariants as expr
use Rattle.tree_data.specs.declared.parts.Suffix.TheVariants as suffix
use Rattle.tree_data.specs.declared.selections.Association.TheVariants as choice
use Rattle.tree_data.specs.declared.inits.Piece.TheVariants as piece
use Rattle.tree_data.specs.declared.inits.Init.TheVariants as init
use Rattle.tree_data.specs.declared.inits.Designator.TheVariants as designator
use Rattle.tree_data.specs.declared.types.Bound.TheVariants as bound
use Rattle.tree_data.specs.declared.types.Deriving.TheVariants as derivation
use Rattle.tree_data.specs.declared.types.Group.TheVariants as group
use Rattle.tree_data.specs.declared.types.Parameters.TheVariants as parameters
use Rattle.tree_data.specs.declared.types.Prefix.TheVariants as prefix
use Rattle.tree_data.specs.declared.types.Specifier.TheVariants as specifier
use Rattle.tree_data.specs.declared.members.Member.TheVariants as member
use Rattle.tree_data.specs.declared.members.Field.TheVariants as field
use Rattle.tree_data.specs.declared.members.Enumerator.TheVariants as enumerator
use Rattle.tree_data.specs.Seen as seen
use Rattle.tree_data.specs.Seen.{tree_of, behind_of, association_of, front_of, braces_of, piece_of, initial_of, designator_of, bound_of, deriving_of, group_of, parameters_of, prefix_of, specifier_of, declarator_of, specs_of, type_of, member_of, field_of, enumerator_of, enumeration_of, assertion_of, assertion_step, association_step, behind_step, bound_step, braces_step, declarator_step, deriving_step, designator_step, enumeration_step, enumerator_step, field_step, front_step, group_step, initial_step, member_step, parameters_step, piece_step, prefix_step, specifier_step, specs_step, tree_step, type_step}
use Rattle.tree_data.specs.Trees as spec
use Rattle.tree_data.specs.Trees.{Tree, Behind, Front, Initial, Specifying, Specifyings, Naming, Declaring, Grouping, Name_of, Constant_of, Text_of, Paren_of, Postfix_of, Unary_of, Binary_of, Conditional_of, Assign_of, Of_type, Compound_of, Generic_of, Offset_of, Index_of, Call_of, Call_with_of, Member_of, Step_of, None_behind, Operator_of, Cast_of, Choice_of, None_before, Braces_of, Value_of, List_of, Plain_of, Designated_of, Element_of, Field_of, Typed_of, Default_of, Word_of, Typedef_of, Tag_of, Atomic_of, Aligned_as_of, Aligned_of, Members_of, Enumerators_of, Bare_of, Fields_of, Asserted_of, No_members, Declared_of, Bits_of, Padding_of, No_fields, Counted_of, Given_of, No_enumerators, Assertion_of, No_specifiers, Type_of, Declaring_of, No_group, Named_of, Group_of, Array_of, Function_of, No_derivings, No_parameters, Fixed_of, Variadic_of, Names_of, No_more, Unsized_of, Any_size_of, Sized_of, Static_sized_of, Sized_static_of, behinds, fronts, pieces, designators, associations, specifyings, derivings, members, fields, enumerators, row}

pub expr_name : (x : Expr) → (f0 : ℕ) → x ≡ expr.Name f0 → tree_of x ≡ Name_of f0
unfolding tree_of tree_step
expr_name x f0 h =
    ap tree_of (h ∙ sym (expr.rolls-Name f0))
    ∙ fold-roll-Expr Tree spec.Designator Initial spec.Piece spec.Enumerator spec.Field spec.Member Behind spec.Association spec.Bound spec.Deriving Grouping spec.Parameters Front Specifying spec.Braces spec.Assertion Specifying Front Declaring Specifyings Naming tree_step designator_step initial_step piece_step enumerator_step field_step member_step behind_step association_step bound_step deriving_step group_step parameters_step prefix_step specifier_step braces_step assertion_step enumeration_step front_step declarator_step specs_step type_step (layer.Name f0)

pub expr_constant : (x : Expr) → (f0 : ℕ) → x ≡ expr.Constant f0 → tree_of x ≡ Constant_of f0
unfolding tree_of tree_step
expr_constant x f0 h =
    ap tree_of (h ∙ sym (expr.rolls-Constant f0))
    ∙ fold-roll-Expr Tree spec.Designator Initial spec.Piece spec.Enumerator spec.Field spec.Member Behind spec.Association spec.Bound spec.Deriving Grouping spec.Parameters Front Specifying spec.Braces spec.Assertion Specifying Front Declaring Specifyings Naming tree_step designator_step initial_step piece_step enumerator_step field_step member_step behind_step association_step bound_step deriving_step group_step parameters_step prefix_step specifier_step braces_step assertion_step enumeration_step front_step declarator_step specs_step type_step (layer.Constant f0)

pub expr_text : (x : Expr) → (f0 : Vec ℕ Global) → x ≡ expr.Text f0 → tree_of x ≡ Text_of f0.items
unfolding tree_of tree_step
expr_text x f0 h =
    ap tree_of (h ∙ sym (expr.rolls-Text f0))
    ∙ fold-roll-Expr Tree spec.Designator Initial spec.Piece spec.Enumerator spec.Field spec.Member Behind spec.Association spec.Bound spec.Deriving Grouping spec.Parameters Front Specifying spec.Braces spec.Assertion Specifying Front Declaring Specifyings Naming tree_step designator_step initial_step piece_step enumerator_step field_step member_step behind_step association_step bound_step deriving_step group_step parameters_step prefix_step specifier_step braces_step assertion_step enumeration_step front_step declarator_step specs_step type_step (layer.Text f0)

pub expr_paren : (x : Expr) → (f0 : ℕ) → (f1 : Box Expr Global) → (f2 : ℕ) → x ≡ expr.Paren f0 f1 f2 → tree_of x ≡ Paren_of f0 (tree_of f1.value) f2
unfolding tree_of tree_step
expr_paren x f0 f1 f2 h =
    ap tree_of (h ∙ sym (expr.rolls-Paren f0 f1 f2))
    ∙ fold-roll-Expr Tree spec.Designator Initial spec.Piece spec.Enumerator spec.Field spec.Member Behind spec.Association spec.Bound spec.Deriving Grouping spec.Parameters Front Specifying spec.Braces spec.Assertion Specifying Front Declaring Specifyings Naming tree_step designator_step initial_step piece_step enumerator_step field_step member_step behind_step association_step bound_step deriving_step group_step parameters_step prefix_step specifier_step braces_step assertion_step enumeration_step front_step declarator_step specs_step type_step (layer.Paren f0 f1 f2)

pub expr_postfix : (x : Expr) → (f0 : Box Expr Global) → (f1 : Vec Suffix Global) → x ≡ expr.Postfix f0 f1 → tree_of x ≡ Postfix_of (tree_of f0.value) (behinds (seen.suffixes_of f1.items) None_behind)
unfolding tree_of tree_step behind_of
expr_postfix x f0 f1 h =
    ap tree_of (h ∙ sym (expr.rolls-Postfix f0 f1))
    ∙ fold-roll-Expr Tree spec.Designator Initial spec.Piece spec.Enumerator spec.Field spec.Member Behind spec.Association spec.Bound spec.Deriving Grouping spec.Parameters Front Specifying spec.Braces spec.Assertion Specifying Front Declaring Specifyings Naming tree_step designator_step initial_step piece_step enumerator_step field_step member_step behind_step association_step bound_step deriving_step group_step parameters_step prefix_step specifier_step braces_step assertion_step enumeration_step front_step declarator_step specs_step type_step (layer.Postfix f0 f1)

pub expr_unary : (x : Expr) → (f0 : Vec Prefix Global) → (f1 : Box Expr Global) → x ≡ expr.Unary f0 f1 → tree_of x ≡ Unary_of (fronts (seen.prefixes_of f0.items) None_before) (tree_of f1.value)
unfolding tree_of tree_step prefix_of
expr_unary x f0 f1 h =
    ap tree_of (h ∙ sym (expr.rolls-Unary f0 f1))
    ∙ fold-roll-Expr Tree spec.Designator Initial spec.Piece spec.Enumerator spec.Field spec.Member Behind spec.Association spec.Bound spec.Deriving Grouping spec.Parameters Front Specifying spec.Braces spec.Assertion Specifying Front Declaring Specifyings Naming tree_step designator_step initial_step piece_step enumerator_step field_step member_step behind_step association_step bound_step deriving_step group_step parameters_step prefix_step specifier_step braces_step assertion_step enumeration_step front_step declarator_step specs_step type_step (layer.Unary f0 f1)

pub expr_of_type : (x : Expr) → (f0 : ℕ) → (f1 : ℕ) → (f2 : Box TypeName Global) → (f3 : ℕ) → x ≡ expr.OfType f0 f1 f2 f3 → tree_of x ≡ Of_type f0 f1 (type_of f2.value) f3
unfolding tree_of tree_step type_of
expr_of_type x f0 f1 f2 f3 h =
    ap tree_of (h ∙ sym (expr.rolls-OfType f0 f1 f2 f3))
    ∙ fold-roll-Expr Tree spec.Designator Initial spec.Piece spec.Enumerator spec.Field spec.Member Behind spec.Association spec.Bound spec.Deriving Grouping spec.Parameters Front Specifying spec.Braces spec.Assertion Specifying Front Declaring Specifyings Naming tree_step designator_step initial_step piece_step enumerator_step field_step member_step behind_step association_step bound_step deriving_step group_step parameters_step prefix_step specifier_step braces_step assertion_step enumeration_step front_step declarator_step specs_step type_step (layer.OfType f0 f1 f2 f3)

pub expr_binary : (x : Expr) → (f0 : Box Expr Global) → (f1 : Vec (ℕ × Expr) Global) → x ≡ expr.Binary f0 f1 → tree_of x ≡ Binary_of (tree_of f0.value) (behinds (seen.operands_of f1.items) None_behind)
unfolding tree_of tree_step
expr_binary x f0 f1 h =
    ap tree_of (h ∙ sym (expr.rolls-Binary f0 f1))
    ∙ fold-roll-Expr Tree spec.Designator Initial spec.Piece spec.Enumerator spec.Field spec.Member Behind spec.Association spec.Bound spec.Deriving Grouping spec.Parameters Front Specifying spec.Braces spec.Assertion Specifying Front Declaring Specifyings Naming tree_step designator_step initial_step piece_step enumerator_step field_step member_step behind_step association_step bound_step deriving_step group_step parameters_step prefix_step specifier_step braces_step assertion_step enumeration_step front_step declarator_step specs_step type_step (layer.Binary f0 f1)

pub expr_conditional : (x : Expr) → (f0 : Vec Choice Global) → (f1 : Box Expr Global) → x ≡ expr.Conditional f0 f1 → tree_of x ≡ Conditional_of (fronts (seen.choices_of f0.items) None_before) (tree_of f1.value)
unfolding tree_of tree_step front_of
expr_conditional x f0 f1 h =
    ap tree_of (h ∙ sym (expr.rolls-Conditional f0 f1))
    ∙ fold-roll-Expr Tree spec.Designator Initial spec.Piece spec.Enumerator spec.Field spec.Member Behind spec.Association spec.Bound spec.Deriving Grouping spec.Parameters Front Specifying spec.Braces spec.Assertion Specifying Front Declaring Specifyings Naming tree_step designator_step initial_step piece_step enumerator_step field_step member_step behind_step association_step bound_step deriving_step group_step parameters_step prefix_step specifier_step braces_step assertion_step enumeration_step front_step declarator_step specs_step type_step (layer.Conditional f0 f1)

pub expr_assign : (x : Expr) → (f0 : Vec (Expr × ℕ) Global) → (f1 : Box Expr Global) → x ≡ expr.Assign f0 f1 → tree_of x ≡ Assign_of (fronts (seen.lefts_of f0.items) None_before) (tree_of f1.value)
unfolding tree_of tree_step
expr_assign x f0 f1 h =
    ap tree_of (h ∙ sym (expr.rolls-Assign f0 f1))
    ∙ fold-roll-Expr Tree spec.Designator Initial spec.Piece spec.Enumerator spec.Field spec.Member Behind spec.Association spec.Bound spec.Deriving Grouping spec.Parameters Front Specifying spec.Braces spec.Assertion Specifying Front Declaring Specifyings Naming tree_step designator_step initial_step piece_step enumerator_step field_step member_step behind_step association_step bound_step deriving_step group_step parameters_step prefix_step specifier_step braces_step assertion_step enumeration_step front_step declarator_step specs_step type_step (layer.Assign f0 f1)

pub expr_compound : (x : Expr) → (f0 : ℕ) → (f1 : Box TypeName Global) → (f2 : ℕ) → (f3 : Box Braces Global) → x ≡ expr.Compound f0 f1 f2 f3 → tree_of x ≡ Compound_of f0 (type_of f1.value) f2 (braces_of f3.value)
unfolding tree_of tree_step type_of braces_of
expr_compound x f0 f1 f2 f3 h =
    ap tree_of (h ∙ sym (expr.rolls-Compound f0 f1 f2 f3))
    ∙ fold-roll-Expr Tree spec.Designator Initial spec.Piece spec.Enumerator spec.Field spec.Member Behind spec.Association spec.Bound spec.Deriving Grouping spec.Parameters Front Specifying spec.Braces spec.Assertion Specifying Front Declaring Specifyings Naming tree_step designator_step initial_step piece_step enumerator_step field_step member_step behind_step association_step bound_step deriving_step group_step parameters_step prefix_step specifier_step braces_step assertion_step enumeration_step front_step declarator_step specs_step type_step (layer.Compound f0 f1 f2 f3)

pub expr_generic : (x : Expr) → (f0 : ℕ) → (f1 : ℕ) → (f2 : Box Expr Global) → (f3 : Box (Vec (ℕ × Association) Global) Global) → (f4 : ℕ) → x ≡ expr.Generic f0 f1 f2 f3 f4 → tree_of x ≡ Generic_of f0 f1 (tree_of f2.value) (associations (seen.associations_of f3.value.items)) f4
unfolding tree_of tree_step association_of
expr_generic x f0 f1 f2 f3 f4 h =
    ap tree_of (h ∙ sym (expr.rolls-Generic f0 f1 f2 f3 f4))
    ∙ fold-roll-Expr Tree spec.Designator Initial spec.Piece spec.Enumerator spec.Field spec.Member Behind spec.Association spec.Bound spec.Deriving Grouping spec.Parameters Front Specifying spec.Braces spec.Assertion Specifying Front Declaring Specifyings Naming tree_step designator_step initial_step piece_step enumerator_step field_step member_step behind_step association_step bound_step deriving_step group_step parameters_step prefix_step specifier_step braces_step assertion_step enumeration_step front_step declarator_step specs_step type_step (layer.Generic f0 f1 f2 f3 f4)

pub expr_offset : (x : Expr) → (f0 : ℕ) → (f1 : ℕ) → (f2 : Box TypeName Global) → (f3 : ℕ) → (f4 : ℕ) → (f5 : Box (Vec Suffix Global) Global) → (f6 : ℕ) → x ≡ expr.Offset f0 f1 f2 f3 f4 f5 f6 → tree_of x ≡ Offset_of f0 f1 (type_of f2.value) f3 f4 (behinds (seen.suffixes_of f5.value.items) None_behind) f6
unfolding tree_of tree_step type_of behind_of
expr_offset x f0 f1 f2 f3 f4 f5 f6 h =
    ap tree_of (h ∙ sym (expr.rolls-Offset f0 f1 f2 f3 f4 f5 f6))
    ∙ fold-roll-Expr Tree spec.Designator Initial spec.Piece spec.Enumerator spec.Field spec.Member Behind spec.Association spec.Bound spec.Deriving Grouping spec.Parameters Front Specifying spec.Braces spec.Assertion Specifying Front Declaring Specifyings Naming tree_step designator_step initial_step piece_step enumerator_step field_step member_step behind_step association_step bound_step deriving_step group_step parameters_step prefix_step specifier_step braces_step assertion_step enumeration_step front_step declarator_step specs_step type_step (layer.Offset f0 f1 f2 f3 f4 f5 f6)

pub suffix_index : (x : Suffix) → (f0 : ℕ) → (f1 : Box Expr Global) → (f2 : ℕ) → x ≡ suffix.Index f0 f1 f2 → behind_of x ≡ Index_of f0 (tree_of f1.value) f2
unfolding behind_of behind_step tree_of
suffix_index x f0 f1 f2 h =
    ap behind_of (h ∙ sym (suffix.rolls-Index f0 f1 f2))
    ∙ fold-roll-Suffix Tree spec.Designator Initial spec.Piece spec.Enumerator spec.Field spec.Member Behind spec.Association spec.Bound spec.Deriving Grouping spec.Parameters Front Specifying spec.Braces spec.Assertion Specifying Front Declaring Specifyings Naming tree_step designator_step initial_step piece_step enumerator_step field_step member_step behind_step association_step bound_step deriving_step group_step parameters_step prefix_step specifier_step braces_step assertion_step enumeration_step front_step declarator_step specs_step type_step (layer.Index f0 f1 f2)

pub suffix_call : (x : Suffix) → (f0 : ℕ) → (f1 : ℕ) → x ≡ suffix.Call f0 f1 → behind_of x ≡ Call_of f0 f1
unfolding behind_of behind_step
suffix_call x f0 f1 h =
    ap behind_of (h ∙ sym (suffix.rolls-Call f0 f1))
    ∙ fold-roll-Suffix Tree spec.Designator Initial spec.Piece spec.Enumerator spec.Field spec.Member Behind spec.Association spec.Bound spec.Deriving Grouping spec.Parameters Front Specifying spec.Braces spec.Assertion Specifying Front Declaring Specifyings Naming tree_step designator_step initial_step piece_step enumerator_step field_step member_step behind_step association_step bound_step deriving_step group_step parameters_step prefix_step specifier_step braces_step assertion_step enumeration_step front_step declarator_step specs_step type_step (layer.Call f0 f1)

pub suffix_call_with : (x : Suffix) → (f0 : ℕ) → (f1 : Box Expr Global) → (f2 : Vec (ℕ × Expr) Global) → (f3 : ℕ) → x ≡ suffix.CallWith f0 f1 f2 f3 → behind_of x ≡ Call_with_of f0 (tree_of f1.value) (behinds (seen.operands_of f2.items) None_behind) f3
unfolding behind_of behind_step tree_of
suffix_call_with x f0 f1 f2 f3 h =
    ap behind_of (h ∙ sym (suffix.rolls-CallWith f0 f1 f2 f3))
    ∙ fold-roll-Suffix Tree spec.Designator Initial spec.Piece spec.Enumerator spec.Field spec.Member Behind spec.Association spec.Bound spec.Deriving Grouping spec.Parameters Front Specifying spec.Braces spec.Assertion Specifying Front Declaring Specifyings Naming tree_step designator_step initial_step piece_step enumerator_step field_step member_step behind_step association_step bound_step deriving_step group_step parameters_step prefix_step specifier_step braces_step assertion_step enumeration_step front_step declarator_step specs_step type_step (layer.CallWith f0 f1 f2 f3)

pub suffix_member : (x : Suffix) → (f0 : ℕ) → (f1 : ℕ) → x ≡ suffix.Member f0 f1 → behind_of x ≡ Member_of f0 f1
unfolding behind_of behind_step
suffix_member x f0 f1 h =
    ap behind_of (h ∙ sym (suffix.rolls-Member f0 f1))
    ∙ fold-roll-Suffix Tree spec.Designator Initial spec.Piece spec.Enumerator spec.Field spec.Member Behind spec.Association spec.Bound spec.Deriving Grouping spec.Parameters Front Specifying spec.Braces spec.Assertion Specifying Front Declaring Specifyings Naming tree_step designator_step initial_step piece_step enumerator_step field_step member_step behind_step association_step bound_step deriving_step group_step parameters_step prefix_step specifier_step braces_step assertion_step enumeration_step front_step declarator_step specs_step type_step (layer.Member f0 f1)

pub suffix_step : (x : Suffix) → (f0 : ℕ) → x ≡ suffix.Step f0 → behind_of x ≡ Step_of f0
unfolding behind_of behind_step
suffix_step x f0 h =
    ap behind_of (h ∙ sym (suffix.rolls-Step f0))
    ∙ fold-roll-Suffix Tree spec.Designator Initial spec.Piece spec.Enumerator spec.Field spec.Member Behind spec.Association spec.Bound spec.Deriving Grouping spec.Parameters Front Specifying spec.Braces spec.Assertion Specifying Front Declaring Specifyings Naming tree_step designator_step initial_step piece_step enumerator_step field_step member_step behind_step association_step bound_step deriving_step group_step parameters_step prefix_step specifier_step braces_step assertion_step enumeration_step front_step declarator_step specs_step type_step (layer.Step f0)

pub choice_typed : (x : Association) → (f0 : Box TypeName Global) → (f1 : ℕ) → (f2 : Expr) → x ≡ choice.Typed f0 f1 f2 → association_of x ≡ Typed_of (type_of f0.value) f1 (tree_of f2)
unfolding association_of association_step type_of tree_of
choice_typed x f0 f1 f2 h =
    ap association_of (h ∙ sym (choice.rolls-Typed f0 f1 f2))
    ∙ fold-roll-Association Tree spec.Designator Initial spec.Piece spec.Enumerator spec.Field spec.Member Behind spec.Association spec.Bound spec.Deriving Grouping spec.Parameters Front Specifying spec.Braces spec.Assertion Specifying Front Declaring Specifyings Naming tree_step designator_step initial_step piece_step enumerator_step field_step member_step behind_step association_step bound_step deriving_step group_step parameters_step prefix_step specifier_step braces_step assertion_step enumeration_step front_step declarator_step specs_step type_step (layer.Typed f0 f1 f2)

pub choice_default : (x : Association) → (f0 : ℕ) → (f1 : ℕ) → (f2 : Expr) → x ≡ choice.Default f0 f1 f2 → association_of x ≡ Default_of f0 f1 (tree_of f2)
unfolding association_of association_step tree_of
choice_default x f0 f1 f2 h =
    ap association_of (h ∙ sym (choice.rolls-Default f0 f1 f2))
    ∙ fold-roll-Association Tree spec.Designator Initial spec.Piece spec.Enumerator spec.Field spec.Member Behind spec.Association spec.Bound spec.Deriving Grouping spec.Parameters Front Specifying spec.Braces spec.Assertion Specifying Front Declaring Specifyings Naming tree_step designator_step initial_step piece_step enumerator_step field_step member_step behind_step association_step bound_step deriving_step group_step parameters_step prefix_step specifier_step braces_step assertion_step enumeration_step front_step declarator_step specs_step type_step (layer.Default f0 f1 f2)

pub piece_plain : (x : Piece) → (f0 : Init) → x ≡ piece.Plain f0 → piece_of x ≡ Plain_of (initial_of f0)
unfolding piece_of piece_step initial_of
piece_plain x f0 h =
    ap piece_of (h ∙ sym (piece.rolls-Plain f0))
    ∙ fold-roll-Piece Tree spec.Designator Initial spec.Piece spec.Enumerator spec.Field spec.Member Behind spec.Association spec.Bound spec.Deriving Grouping spec.Parameters Front Specifying spec.Braces spec.Assertion Specifying Front Declaring Specifyings Naming tree_step designator_step initial_step piece_step enumerator_step field_step member_step behind_step association_step bound_step deriving_step group_step parameters_step prefix_step specifier_step braces_step assertion_step enumeration_step front_step declarator_step specs_step type_step (layer.Plain f0)

pub piece_designated : (x : Piece) → (f0 : Designator) → (f1 : Vec Designator Global) → (f2 : ℕ) → (f3 : Init) → x ≡ piece.Designated f0 f1 f2 f3 → piece_of x ≡ Designated_of (designator_of f0) (designators (seen.designators_of f1.items)) f2 (initial_of f3)
unfolding piece_of piece_step designator_of initial_of
piece_designated x f0 f1 f2 f3 h =
    ap piece_of (h ∙ sym (piece.rolls-Designated f0 f1 f2 f3))
    ∙ fold-roll-Piece Tree spec.Designator Initial spec.Piece spec.Enumerator spec.Field spec.Member Behind spec.Association spec.Bound spec.Deriving Grouping spec.Parameters Front Specifying spec.Braces spec.Assertion Specifying Front Declaring Specifyings Naming tree_step designator_step initial_step piece_step enumerator_step field_step member_step behind_step association_step bound_step deriving_step group_step parameters_step prefix_step specifier_step braces_step assertion_step enumeration_step front_step declarator_step specs_step type_step (layer.Designated f0 f1 f2 f3)

pub init_value : (x : Init) → (f0 : Expr) → x ≡ init.Value f0 → initial_of x ≡ Value_of (tree_of f0)
unfolding initial_of initial_step tree_of
init_value x f0 h =
    ap initial_of (h ∙ sym (init.rolls-Value f0))
    ∙ fold-roll-Init Tree spec.Designator Initial spec.Piece spec.Enumerator spec.Field spec.Member Behind spec.Association spec.Bound spec.Deriving Grouping spec.Parameters Front Specifying spec.Braces spec.Assertion Specifying Front Declaring Specifyings Naming tree_step designator_step initial_step piece_step enumerator_step field_step member_step behind_step association_step bound_step deriving_step group_step parameters_step prefix_step specifier_step braces_step assertion_step enumeration_step front_step declarator_step specs_step type_step (layer.Value f0)

pub init_list : (x : Init) → (f0 : Box Braces Global) → x ≡ init.List f0 → initial_of x ≡ List_of (braces_of f0.value)
unfolding initial_of initial_step braces_of
init_list x f0 h =
    ap initial_of (h ∙ sym (init.rolls-List f0))
    ∙ fold-roll-Init Tree spec.Designator Initial spec.Piece spec.Enumerator spec.Field spec.Member Behind spec.Association spec.Bound spec.Deriving Grouping spec.Parameters Front Specifying spec.Braces spec.Assertion Specifying Front Declaring Specifyings Naming tree_step designator_step initial_step piece_step enumerator_step field_step member_step behind_step association_step bound_step deriving_step group_step parameters_step prefix_step specifier_step braces_step assertion_step enumeration_step front_step declarator_step specs_step type_step (layer.List f0)

pub designator_element : (x : Designator) → (f0 : ℕ) → (f1 : Expr) → (f2 : ℕ) → x ≡ designator.Element f0 f1 f2 → designator_of x ≡ Element_of f0 (tree_of f1) f2
unfolding designator_of designator_step tree_of
designator_element x f0 f1 f2 h =
    ap designator_of (h ∙ sym (designator.rolls-Element f0 f1 f2))
    ∙ fold-roll-Designator Tree spec.Designator Initial spec.Piece spec.Enumerator spec.Field spec.Member Behind spec.Association spec.Bound spec.Deriving Grouping spec.Parameters Front Specifying spec.Braces spec.Assertion Specifying Front Declaring Specifyings Naming tree_step designator_step initial_step piece_step enumerator_step field_step member_step behind_step association_step bound_step deriving_step group_step parameters_step prefix_step specifier_step braces_step assertion_step enumeration_step front_step declarator_step specs_step type_step (layer.Element f0 f1 f2)

pub designator_field : (x : Designator) → (f0 : ℕ) → (f1 : ℕ) → x ≡ designator.Field f0 f1 → designator_of x ≡ Field_of f0 f1
unfolding designator_of designator_step
designator_field x f0 f1 h =
    ap designator_of (h ∙ sym (designator.rolls-Field f0 f1))
    ∙ fold-roll-Designator Tree spec.Designator Initial spec.Piece spec.Enumerator spec.Field spec.Member Behind spec.Association spec.Bound spec.Deriving Grouping spec.Parameters Front Specifying spec.Braces spec.Assertion Specifying Front Declaring Specifyings Naming tree_step designator_step initial_step piece_step enumerator_step field_step member_step behind_step association_step bound_step deriving_step group_step parameters_step prefix_step specifier_step braces_step assertion_step enumeration_step front_step declarator_step specs_step type_step (layer.Field f0 f1)

pub bound_unsized : (x : Bound) → (f0 : Vec ℕ Global) → x ≡ bound.Unsized f0 → bound_of x ≡ Unsized_of f0.items
unfolding bound_of bound_step
bound_unsized x f0 h =
    ap bound_of (h ∙ sym (bound.rolls-Unsized f0))
    ∙ fold-roll-Bound Tree spec.Designator Initial spec.Piece spec.Enumerator spec.Field spec.Member Behind spec.Association spec.Bound spec.Deriving Grouping spec.Parameters Front Specifying spec.Braces spec.Assertion Specifying Front Declaring Specifyings Naming tree_step designator_step initial_step piece_step enumerator_step field_step member_step behind_step association_step bound_step deriving_step group_step parameters_step prefix_step specifier_step braces_step assertion_step enumeration_step front_step declarator_step specs_step type_step (layer.Unsized f0)

pub bound_any_size : (x : Bound) → (f0 : Vec ℕ Global) → (f1 : ℕ) → x ≡ bound.AnySize f0 f1 → bound_of x ≡ Any_size_of f0.items f1
unfolding bound_of bound_step
bound_any_size x f0 f1 h =
    ap bound_of (h ∙ sym (bound.rolls-AnySize f0 f1))
    ∙ fold-roll-Bound Tree spec.Designator Initial spec.Piece spec.Enumerator spec.Field spec.Member Behind spec.Association spec.Bound spec.Deriving Grouping spec.Parameters Front Specifying spec.Braces spec.Assertion Specifying Front Declaring Specifyings Naming tree_step designator_step initial_step piece_step enumerator_step field_step member_step behind_step association_step bound_step deriving_step group_step parameters_step prefix_step specifier_step braces_step assertion_step enumeration_step front_step declarator_step specs_step type_step (layer.AnySize f0 f1)

pub bound_sized : (x : Bound) → (f0 : Vec ℕ Global) → (f1 : Box Expr Global) → x ≡ bound.Sized f0 f1 → bound_of x ≡ Sized_of f0.items (tree_of f1.value)
unfolding bound_of bound_step tree_of
bound_sized x f0 f1 h =
    ap bound_of (h ∙ sym (bound.rolls-Sized f0 f1))
    ∙ fold-roll-Bound Tree spec.Designator Initial spec.Piece spec.Enumerator spec.Field spec.Member Behind spec.Association spec.Bound spec.Deriving Grouping spec.Parameters Front Specifying spec.Braces spec.Assertion Specifying Front Declaring Specifyings Naming tree_step designator_step initial_step piece_step enumerator_step field_step member_step behind_step association_step bound_step deriving_step group_step parameters_step prefix_step specifier_step braces_step assertion_step enumeration_step front_step declarator_step specs_step type_step (layer.Sized f0 f1)

pub bound_static_sized : (x : Bound) → (f0 : ℕ) → (f1 : Vec ℕ Global) → (f2 : Box Expr Global) → x ≡ bound.StaticSized f0 f1 f2 → bound_of x ≡ Static_sized_of f0 f1.items (tree_of f2.value)
unfolding bound_of bound_step tree_of
bound_static_sized x f0 f1 f2 h =
    ap bound_of (h ∙ sym (bound.rolls-StaticSized f0 f1 f2))
    ∙ fold-roll-Bound Tree spec.Designator Initial spec.Piece spec.Enumerator spec.Field spec.Member Behind spec.Association spec.Bound spec.Deriving Grouping spec.Parameters Front Specifying spec.Braces spec.Assertion Specifying Front Declaring Specifyings Naming tree_step designator_step initial_step piece_step enumerator_step field_step member_step behind_step association_step bound_step deriving_step group_step parameters_step prefix_step specifier_step braces_step assertion_step enumeration_step front_step declarator_step specs_step type_step (layer.StaticSized f0 f1 f2)

pub bound_sized_static : (x : Bound) → (f0 : Vec ℕ Global) → (f1 : ℕ) → (f2 : Box Expr Global) → x ≡ bound.SizedStatic f0 f1 f2 → bound_of x ≡ Sized_static_of f0.items f1 (tree_of f2.value)
unfolding bound_of bound_step tree_of
bound_sized_static x f0 f1 f2 h =
    ap bound_of (h ∙ sym (bound.rolls-SizedStatic f0 f1 f2))
    ∙ fold-roll-Bound Tree spec.Designator Initial spec.Piece spec.Enumerator spec.Field spec.Member Behind spec.Association spec.Bound spec.Deriving Grouping spec.Parameters Front Specifying spec.Braces spec.Assertion Specifying Front Declaring Specifyings Naming tree_step designator_step initial_step piece_step enumerator_step field_step member_step behind_step association_step bound_step deriving_step group_step parameters_step prefix_step specifier_step braces_step assertion_step enumeration_step front_step declarator_step specs_step type_step (layer.SizedStatic f0 f1 f2)

pub derivation_array : (x : Deriving) → (f0 : ℕ) → (f1 : Bound) → (f2 : ℕ) → x ≡ derivation.Array f0 f1 f2 → deriving_of x ≡ Array_of f0 (bound_of f1) f2
unfolding deriving_of deriving_step bound_of
derivation_array x f0 f1 f2 h =
    ap deriving_of (h ∙ sym (derivation.rolls-Array f0 f1 f2))
    ∙ fold-roll-Deriving Tree spec.Designator Initial spec.Piece spec.Enumerator spec.Field spec.Member Behind spec.Association spec.Bound spec.Deriving Grouping spec.Parameters Front Specifying spec.Braces spec.Assertion Specifying Front Declaring Specifyings Naming tree_step designator_step initial_step piece_step enumerator_step field_step member_step behind_step association_step bound_step deriving_step group_step parameters_step prefix_step specifier_step braces_step assertion_step enumeration_step front_step declarator_step specs_step type_step (layer.Array f0 f1 f2)

pub derivation_function : (x : Deriving) → (f0 : ℕ) → (f1 : Parameters) → (f2 : ℕ) → x ≡ derivation.Function f0 f1 f2 → deriving_of x ≡ Function_of f0 (parameters_of f1) f2
unfolding deriving_of deriving_step parameters_of
derivation_function x f0 f1 f2 h =
    ap deriving_of (h ∙ sym (derivation.rolls-Function f0 f1 f2))
    ∙ fold-roll-Deriving Tree spec.Designator Initial spec.Piece spec.Enumerator spec.Field spec.Member Behind spec.Association spec.Bound spec.Deriving Grouping spec.Parameters Front Specifying spec.Braces spec.Assertion Specifying Front Declaring Specifyings Naming tree_step designator_step initial_step piece_step enumerator_step field_step member_step behind_step association_step bound_step deriving_step group_step parameters_step prefix_step specifier_step braces_step assertion_step enumeration_step front_step declarator_step specs_step type_step (layer.Function f0 f1 f2)

pub group_no_group : (x : Group) → x ≡ group.NoGroup → group_of x ≡ No_group
unfolding group_of group_step
group_no_group x h =
    ap group_of (h ∙ sym group.rolls-NoGroup)
    ∙ fold-roll-Group Tree spec.Designator Initial spec.Piece spec.Enumerator spec.Field spec.Member Behind spec.Association spec.Bound spec.Deriving Grouping spec.Parameters Front Specifying spec.Braces spec.Assertion Specifying Front Declaring Specifyings Naming tree_step designator_step initial_step piece_step enumerator_step field_step member_step behind_step association_step bound_step deriving_step group_step parameters_step prefix_step specifier_step braces_step assertion_step enumeration_step front_step declarator_step specs_step type_step layer.NoGroup

pub group_named : (x : Group) → (f0 : ℕ) → x ≡ group.Named f0 → group_of x ≡ Named_of f0
unfolding group_of group_step
group_named x f0 h =
    ap group_of (h ∙ sym (group.rolls-Named f0))
    ∙ fold-roll-Group Tree spec.Designator Initial spec.Piece spec.Enumerator spec.Field spec.Member Behind spec.Association spec.Bound spec.Deriving Grouping spec.Parameters Front Specifying spec.Braces spec.Assertion Specifying Front Declaring Specifyings Naming tree_step designator_step initial_step piece_step enumerator_step field_step member_step behind_step association_step bound_step deriving_step group_step parameters_step prefix_step specifier_step braces_step assertion_step enumeration_step front_step declarator_step specs_step type_step (layer.Named f0)

pub group_grouped : (x : Group) → (f0 : ℕ) → (f1 : Box Declarator Global) → (f2 : ℕ) → x ≡ group.Grouped f0 f1 f2 → group_of x ≡ Group_of f0 (declarator_of f1.value) f2
unfolding group_of group_step declarator_of
group_grouped x f0 f1 f2 h =
    ap group_of (h ∙ sym (group.rolls-Grouped f0 f1 f2))
    ∙ fold-roll-Group Tree spec.Designator Initial spec.Piece spec.Enumerator spec.Field spec.Member Behind spec.Association spec.Bound spec.Deriving Grouping spec.Parameters Front Specifying spec.Braces spec.Assertion Specifying Front Declaring Specifyings Naming tree_step designator_step initial_step piece_step enumerator_step field_step member_step behind_step association_step bound_step deriving_step group_step parameters_step prefix_step specifier_step braces_step assertion_step enumeration_step front_step declarator_step specs_step type_step (layer.Grouped f0 f1 f2)

pub parameters_no_parameters : (x : Parameters) → x ≡ parameters.NoParameters → parameters_of x ≡ No_parameters
unfolding parameters_of parameters_step
parameters_no_parameters x h =
    ap parameters_of (h ∙ sym parameters.rolls-NoParameters)
    ∙ fold-roll-Parameters Tree spec.Designator Initial spec.Piece spec.Enumerator spec.Field spec.Member Behind spec.Association spec.Bound spec.Deriving Grouping spec.Parameters Front Specifying spec.Braces spec.Assertion Specifying Front Declaring Specifyings Naming tree_step designator_step initial_step piece_step enumerator_step field_step member_step behind_step association_step bound_step deriving_step group_step parameters_step prefix_step specifier_step braces_step assertion_step enumeration_step front_step declarator_step specs_step type_step layer.NoParameters

pub parameters_fixed : (x : Parameters) → (f0 : Box TypeName Global) → (f1 : Vec (ℕ × TypeName) Global) → x ≡ parameters.Fixed f0 f1 → parameters_of x ≡ Fixed_of (type_of f0.value) (row (seen.parameter_row_of f1.items) No_more)
unfolding parameters_of parameters_step type_of
parameters_fixed x f0 f1 h =
    ap parameters_of (h ∙ sym (parameters.rolls-Fixed f0 f1))
    ∙ fold-roll-Parameters Tree spec.Designator Initial spec.Piece spec.Enumerator spec.Field spec.Member Behind spec.Association spec.Bound spec.Deriving Grouping spec.Parameters Front Specifying spec.Braces spec.Assertion Specifying Front Declaring Specifyings Naming tree_step designator_step initial_step piece_step enumerator_step field_step member_step behind_step association_step bound_step deriving_step group_step parameters_step prefix_step specifier_step braces_step assertion_step enumeration_step front_step declarator_step specs_step type_step (layer.Fixed f0 f1)

pub parameters_variadic : (x : Parameters) → (f0 : Box TypeName Global) → (f1 : Vec (ℕ × TypeName) Global) → (f2 : ℕ) → (f3 : ℕ) → x ≡ parameters.Variadic f0 f1 f2 f3 → parameters_of x ≡ Variadic_of (type_of f0.value) (row (seen.parameter_row_of f1.items) No_more) f2 f3
unfolding parameters_of parameters_step type_of
parameters_variadic x f0 f1 f2 f3 h =
    ap parameters_of (h ∙ sym (parameters.rolls-Variadic f0 f1 f2 f3))
    ∙ fold-roll-Parameters Tree spec.Designator Initial spec.Piece spec.Enumerator spec.Field spec.Member Behind spec.Association spec.Bound spec.Deriving Grouping spec.Parameters Front Specifying spec.Braces spec.Assertion Specifying Front Declaring Specifyings Naming tree_step designator_step initial_step piece_step enumerator_step field_step member_step behind_step association_step bound_step deriving_step group_step parameters_step prefix_step specifier_step braces_step assertion_step enumeration_step front_step declarator_step specs_step type_step (layer.Variadic f0 f1 f2 f3)

pub parameters_names : (x : Parameters) → (f0 : ℕ) → (f1 : Vec (ℕ × ℕ) Global) → x ≡ parameters.Names f0 f1 → parameters_of x ≡ Names_of f0 f1.items
unfolding parameters_of parameters_step
parameters_names x f0 f1 h =
    ap parameters_of (h ∙ sym (parameters.rolls-Names f0 f1))
    ∙ fold-roll-Parameters Tree spec.Designator Initial spec.Piece spec.Enumerator spec.Field spec.Member Behind spec.Association spec.Bound spec.Deriving Grouping spec.Parameters Front Specifying spec.Braces spec.Assertion Specifying Front Declaring Specifyings Naming tree_step designator_step initial_step piece_step enumerator_step field_step member_step behind_step association_step bound_step deriving_step group_step parameters_step prefix_step specifier_step braces_step assertion_step enumeration_step front_step declarator_step specs_step type_step (layer.Names f0 f1)

pub prefix_operator : (x : Prefix) → (f0 : ℕ) → x ≡ prefix.Operator f0 → prefix_of x ≡ Operator_of f0
unfolding prefix_of prefix_step
prefix_operator x f0 h =
    ap prefix_of (h ∙ sym (prefix.rolls-Operator f0))
    ∙ fold-roll-Prefix Tree spec.Designator Initial spec.Piece spec.Enumerator spec.Field spec.Member Behind spec.Association spec.Bound spec.Deriving Grouping spec.Parameters Front Specifying spec.Braces spec.Assertion Specifying Front Declaring Specifyings Naming tree_step designator_step initial_step piece_step enumerator_step field_step member_step behind_step association_step bound_step deriving_step group_step parameters_step prefix_step specifier_step braces_step assertion_step enumeration_step front_step declarator_step specs_step type_step (layer.Operator f0)

pub prefix_cast : (x : Prefix) → (f0 : ℕ) → (f1 : Box TypeName Global) → (f2 : ℕ) → x ≡ prefix.Cast f0 f1 f2 → prefix_of x ≡ Cast_of f0 (type_of f1.value) f2
unfolding prefix_of prefix_step type_of
prefix_cast x f0 f1 f2 h =
    ap prefix_of (h ∙ sym (prefix.rolls-Cast f0 f1 f2))
    ∙ fold-roll-Prefix Tree spec.Designator Initial spec.Piece spec.Enumerator spec.Field spec.Member Behind spec.Association spec.Bound spec.Deriving Grouping spec.Parameters Front Specifying spec.Braces spec.Assertion Specifying Front Declaring Specifyings Naming tree_step designator_step initial_step piece_step enumerator_step field_step member_step behind_step association_step bound_step deriving_step group_step parameters_step prefix_step specifier_step braces_step assertion_step enumeration_step front_step declarator_step specs_step type_step (layer.Cast f0 f1 f2)

pub specifier_word : (x : Specifier) → (f0 : ℕ) → x ≡ specifier.Word f0 → specifier_of x ≡ Word_of f0
unfolding specifier_of specifier_step
specifier_word x f0 h =
    ap specifier_of (h ∙ sym (specifier.rolls-Word f0))
    ∙ fold-roll-Specifier Tree spec.Designator Initial spec.Piece spec.Enumerator spec.Field spec.Member Behind spec.Association spec.Bound spec.Deriving Grouping spec.Parameters Front Specifying spec.Braces spec.Assertion Specifying Front Declaring Specifyings Naming tree_step designator_step initial_step piece_step enumerator_step field_step member_step behind_step association_step bound_step deriving_step group_step parameters_step prefix_step specifier_step braces_step assertion_step enumeration_step front_step declarator_step specs_step type_step (layer.Word f0)

pub specifier_typedef_name : (x : Specifier) → (f0 : ℕ) → x ≡ specifier.TypedefName f0 → specifier_of x ≡ Typedef_of f0
unfolding specifier_of specifier_step
specifier_typedef_name x f0 h =
    ap specifier_of (h ∙ sym (specifier.rolls-TypedefName f0))
    ∙ fold-roll-Specifier Tree spec.Designator Initial spec.Piece spec.Enumerator spec.Field spec.Member Behind spec.Association spec.Bound spec.Deriving Grouping spec.Parameters Front Specifying spec.Braces spec.Assertion Specifying Front Declaring Specifyings Naming tree_step designator_step initial_step piece_step enumerator_step field_step member_step behind_step association_step bound_step deriving_step group_step parameters_step prefix_step specifier_step braces_step assertion_step enumeration_step front_step declarator_step specs_step type_step (layer.TypedefName f0)

pub specifier_tag : (x : Specifier) → (f0 : ℕ) → (f1 : ℕ) → x ≡ specifier.Tag f0 f1 → specifier_of x ≡ Tag_of f0 f1
unfolding specifier_of specifier_step
specifier_tag x f0 f1 h =
    ap specifier_of (h ∙ sym (specifier.rolls-Tag f0 f1))
    ∙ fold-roll-Specifier Tree spec.Designator Initial spec.Piece spec.Enumerator spec.Field spec.Member Behind spec.Association spec.Bound spec.Deriving Grouping spec.Parameters Front Specifying spec.Braces spec.Assertion Specifying Front Declaring Specifyings Naming tree_step designator_step initial_step piece_step enumerator_step field_step member_step behind_step association_step bound_step deriving_step group_step parameters_step prefix_step specifier_step braces_step assertion_step enumeration_step front_step declarator_step specs_step type_step (layer.Tag f0 f1)

pub specifier_atomic : (x : Specifier) → (f0 : ℕ) → (f1 : ℕ) → (f2 : Box TypeName Global) → (f3 : ℕ) → x ≡ specifier.Atomic f0 f1 f2 f3 → specifier_of x ≡ Atomic_of f0 f1 (type_of f2.value) f3
unfolding specifier_of specifier_step type_of
specifier_atomic x f0 f1 f2 f3 h =
    ap specifier_of (h ∙ sym (specifier.rolls-Atomic f0 f1 f2 f3))
    ∙ fold-roll-Specifier Tree spec.Designator Initial spec.Piece spec.Enumerator spec.Field spec.Member Behind spec.Association spec.Bound spec.Deriving Grouping spec.Parameters Front Specifying spec.Braces spec.Assertion Specifying Front Declaring Specifyings Naming tree_step designator_step initial_step piece_step enumerator_step field_step member_step behind_step association_step bound_step deriving_step group_step parameters_step prefix_step specifier_step braces_step assertion_step enumeration_step front_step declarator_step specs_step type_step (layer.Atomic f0 f1 f2 f3)

pub specifier_aligned_as : (x : Specifier) → (f0 : ℕ) → (f1 : ℕ) → (f2 : Box TypeName Global) → (f3 : ℕ) → x ≡ specifier.AlignedAs f0 f1 f2 f3 → specifier_of x ≡ Aligned_as_of f0 f1 (type_of f2.value) f3
unfolding specifier_of specifier_step type_of
specifier_aligned_as x f0 f1 f2 f3 h =
    ap specifier_of (h ∙ sym (specifier.rolls-AlignedAs f0 f1 f2 f3))
    ∙ fold-roll-Specifier Tree spec.Designator Initial spec.Piece spec.Enumerator spec.Field spec.Member Behind spec.Association spec.Bound spec.Deriving Grouping spec.Parameters Front Specifying spec.Braces spec.Assertion Specifying Front Declaring Specifyings Naming tree_step designator_step initial_step piece_step enumerator_step field_step member_step behind_step association_step bound_step deriving_step group_step parameters_step prefix_step specifier_step braces_step assertion_step enumeration_step front_step declarator_step specs_step type_step (layer.AlignedAs f0 f1 f2 f3)

pub specifier_aligned : (x : Specifier) → (f0 : ℕ) → (f1 : ℕ) → (f2 : Box Expr Global) → (f3 : ℕ) → x ≡ specifier.Aligned f0 f1 f2 f3 → specifier_of x ≡ Aligned_of f0 f1 (tree_of f2.value) f3
unfolding specifier_of specifier_step tree_of
specifier_aligned x f0 f1 f2 f3 h =
    ap specifier_of (h ∙ sym (specifier.rolls-Aligned f0 f1 f2 f3))
    ∙ fold-roll-Specifier Tree spec.Designator Initial spec.Piece spec.Enumerator spec.Field spec.Member Behind spec.Association spec.Bound spec.Deriving Grouping spec.Parameters Front Specifying spec.Braces spec.Assertion Specifying Front Declaring Specifyings Naming tree_step designator_step initial_step piece_step enumerator_step field_step member_step behind_step association_step bound_step deriving_step group_step parameters_step prefix_step specifier_step braces_step assertion_step enumeration_step front_step declarator_step specs_step type_step (layer.Aligned f0 f1 f2 f3)

pub specifier_members : (x : Specifier) → (f0 : ℕ) → (f1 : Option ℕ) → (f2 : ℕ) → (f3 : Vec Member Global) → (f4 : ℕ) → x ≡ specifier.Members f0 f1 f2 f3 f4 → specifier_of x ≡ Members_of f0 f1 f2 (members (seen.members_of f3.items) No_members) f4
unfolding specifier_of specifier_step member_of
specifier_members x f0 f1 f2 f3 f4 h =
    ap specifier_of (h ∙ sym (specifier.rolls-Members f0 f1 f2 f3 f4))
    ∙ fold-roll-Specifier Tree spec.Designator Initial spec.Piece spec.Enumerator spec.Field spec.Member Behind spec.Association spec.Bound spec.Deriving Grouping spec.Parameters Front Specifying spec.Braces spec.Assertion Specifying Front Declaring Specifyings Naming tree_step designator_step initial_step piece_step enumerator_step field_step member_step behind_step association_step bound_step deriving_step group_step parameters_step prefix_step specifier_step braces_step assertion_step enumeration_step front_step declarator_step specs_step type_step (layer.Members f0 f1 f2 f3 f4)

pub specifier_enumerators : (x : Specifier) → (f0 : Box Enumeration Global) → x ≡ specifier.Enumerators f0 → specifier_of x ≡ seen.enumeration_of f0.value
unfolding specifier_of specifier_step enumeration_of
specifier_enumerators x f0 h =
    ap specifier_of (h ∙ sym (specifier.rolls-Enumerators f0))
    ∙ fold-roll-Specifier Tree spec.Designator Initial spec.Piece spec.Enumerator spec.Field spec.Member Behind spec.Association spec.Bound spec.Deriving Grouping spec.Parameters Front Specifying spec.Braces spec.Assertion Specifying Front Declaring Specifyings Naming tree_step designator_step initial_step piece_step enumerator_step field_step member_step behind_step association_step bound_step deriving_step group_step parameters_step prefix_step specifier_step braces_step assertion_step enumeration_step front_step declarator_step specs_step type_step (layer.Enumerators f0)

pub member_bare : (x : Member) → (f0 : Specs) → (f1 : ℕ) → x ≡ member.Bare f0 f1 → member_of x ≡ Bare_of (specs_of f0) f1
unfolding member_of member_step specs_of
member_bare x f0 f1 h =
    ap member_of (h ∙ sym (member.rolls-Bare f0 f1))
    ∙ fold-roll-Member Tree spec.Designator Initial spec.Piece spec.Enumerator spec.Field spec.Member Behind spec.Association spec.Bound spec.Deriving Grouping spec.Parameters Front Specifying spec.Braces spec.Assertion Specifying Front Declaring Specifyings Naming tree_step designator_step initial_step piece_step enumerator_step field_step member_step behind_step association_step bound_step deriving_step group_step parameters_step prefix_step specifier_step braces_step assertion_step enumeration_step front_step declarator_step specs_step type_step (layer.Bare f0 f1)

pub member_fields : (x : Member) → (f0 : Specs) → (f1 : Field) → (f2 : Vec (ℕ × Field) Global) → (f3 : ℕ) → x ≡ member.Fields f0 f1 f2 f3 → member_of x ≡ Fields_of (specs_of f0) (field_of f1) (fields (seen.fields_of f2.items) No_fields) f3
unfolding member_of member_step specs_of field_of
member_fields x f0 f1 f2 f3 h =
    ap member_of (h ∙ sym (member.rolls-Fields f0 f1 f2 f3))
    ∙ fold-roll-Member Tree spec.Designator Initial spec.Piece spec.Enumerator spec.Field spec.Member Behind spec.Association spec.Bound spec.Deriving Grouping spec.Parameters Front Specifying spec.Braces spec.Assertion Specifying Front Declaring Specifyings Naming tree_step designator_step initial_step piece_step enumerator_step field_step member_step behind_step association_step bound_step deriving_step group_step parameters_step prefix_step specifier_step braces_step assertion_step enumeration_step front_step declarator_step specs_step type_step (layer.Fields f0 f1 f2 f3)

pub member_asserted : (x : Member) → (f0 : Assertion) → x ≡ member.Asserted f0 → member_of x ≡ Asserted_of (assertion_of f0)
unfolding member_of member_step assertion_of
member_asserted x f0 h =
    ap member_of (h ∙ sym (member.rolls-Asserted f0))
    ∙ fold-roll-Member Tree spec.Designator Initial spec.Piece spec.Enumerator spec.Field spec.Member Behind spec.Association spec.Bound spec.Deriving Grouping spec.Parameters Front Specifying spec.Braces spec.Assertion Specifying Front Declaring Specifyings Naming tree_step designator_step initial_step piece_step enumerator_step field_step member_step behind_step association_step bound_step deriving_step group_step parameters_step prefix_step specifier_step braces_step assertion_step enumeration_step front_step declarator_step specs_step type_step (layer.Asserted f0)

pub field_declared : (x : Field) → (f0 : Declarator) → x ≡ field.Declared f0 → field_of x ≡ Declared_of (declarator_of f0)
unfolding field_of field_step declarator_of
field_declared x f0 h =
    ap field_of (h ∙ sym (field.rolls-Declared f0))
    ∙ fold-roll-Field Tree spec.Designator Initial spec.Piece spec.Enumerator spec.Field spec.Member Behind spec.Association spec.Bound spec.Deriving Grouping spec.Parameters Front Specifying spec.Braces spec.Assertion Specifying Front Declaring Specifyings Naming tree_step designator_step initial_step piece_step enumerator_step field_step member_step behind_step association_step bound_step deriving_step group_step parameters_step prefix_step specifier_step braces_step assertion_step enumeration_step front_step declarator_step specs_step type_step (layer.Declared f0)

pub field_bits : (x : Field) → (f0 : Declarator) → (f1 : ℕ) → (f2 : Expr) → x ≡ field.Bits f0 f1 f2 → field_of x ≡ Bits_of (declarator_of f0) f1 (tree_of f2)
unfolding field_of field_step declarator_of tree_of
field_bits x f0 f1 f2 h =
    ap field_of (h ∙ sym (field.rolls-Bits f0 f1 f2))
    ∙ fold-roll-Field Tree spec.Designator Initial spec.Piece spec.Enumerator spec.Field spec.Member Behind spec.Association spec.Bound spec.Deriving Grouping spec.Parameters Front Specifying spec.Braces spec.Assertion Specifying Front Declaring Specifyings Naming tree_step designator_step initial_step piece_step enumerator_step field_step member_step behind_step association_step bound_step deriving_step group_step parameters_step prefix_step specifier_step braces_step assertion_step enumeration_step front_step declarator_step specs_step type_step (layer.Bits f0 f1 f2)

pub field_padding : (x : Field) → (f0 : ℕ) → (f1 : Expr) → x ≡ field.Padding f0 f1 → field_of x ≡ Padding_of f0 (tree_of f1)
unfolding field_of field_step tree_of
field_padding x f0 f1 h =
    ap field_of (h ∙ sym (field.rolls-Padding f0 f1))
    ∙ fold-roll-Field Tree spec.Designator Initial spec.Piece spec.Enumerator spec.Field spec.Member Behind spec.Association spec.Bound spec.Deriving Grouping spec.Parameters Front Specifying spec.Braces spec.Assertion Specifying Front Declaring Specifyings Naming tree_step designator_step initial_step piece_step enumerator_step field_step member_step behind_step association_step bound_step deriving_step group_step parameters_step prefix_step specifier_step braces_step assertion_step enumeration_step front_step declarator_step specs_step type_step (layer.Padding f0 f1)

pub enumerator_counted : (x : Enumerator) → (f0 : ℕ) → x ≡ enumerator.Counted f0 → enumerator_of x ≡ Counted_of f0
unfolding enumerator_of enumerator_step
enumerator_counted x f0 h =
    ap enumerator_of (h ∙ sym (enumerator.rolls-Counted f0))
    ∙ fold-roll-Enumerator Tree spec.Designator Initial spec.Piece spec.Enumerator spec.Field spec.Member Behind spec.Association spec.Bound spec.Deriving Grouping spec.Parameters Front Specifying spec.Braces spec.Assertion Specifying Front Declaring Specifyings Naming tree_step designator_step initial_step piece_step enumerator_step field_step member_step behind_step association_step bound_step deriving_step group_step parameters_step prefix_step specifier_step braces_step assertion_step enumeration_step front_step declarator_step specs_step type_step (layer.Counted f0)

pub enumerator_given : (x : Enumerator) → (f0 : ℕ) → (f1 : ℕ) → (f2 : Expr) → x ≡ enumerator.Given f0 f1 f2 → enumerator_of x ≡ Given_of f0 f1 (tree_of f2)
unfolding enumerator_of enumerator_step tree_of
enumerator_given x f0 f1 f2 h =
    ap enumerator_of (h ∙ sym (enumerator.rolls-Given f0 f1 f2))
    ∙ fold-roll-Enumerator Tree spec.Designator Initial spec.Piece spec.Enumerator spec.Field spec.Member Behind spec.Association spec.Bound spec.Deriving Grouping spec.Parameters Front Specifying spec.Braces spec.Assertion Specifying Front Declaring Specifyings Naming tree_step designator_step initial_step piece_step enumerator_step field_step member_step behind_step association_step bound_step deriving_step group_step parameters_step prefix_step specifier_step braces_step assertion_step enumeration_step front_step declarator_step specs_step type_step (layer.Given f0 f1 f2)

pub type_name_is : (x : TypeName) → type_of x ≡ Type_of (specs_of (out-TypeName x).specs) (declarator_of (out-TypeName x).declarator)
unfolding type_of type_step specs_of declarator_of
type_name_is x = fold_out-TypeName Tree spec.Designator Initial spec.Piece spec.Enumerator spec.Field spec.Member Behind spec.Association spec.Bound spec.Deriving Grouping spec.Parameters Front Specifying spec.Braces spec.Assertion Specifying Front Declaring Specifyings Naming tree_step designator_step initial_step piece_step enumerator_step field_step member_step behind_step association_step bound_step deriving_step group_step parameters_step prefix_step specifier_step braces_step assertion_step enumeration_step front_step declarator_step specs_step type_step x

pub specs_is : (x : Specs) → specs_of x ≡ specifyings (seen.specifiers_of (out-Specs x).specifiers.items) No_specifiers
unfolding specs_of specs_step specifier_of
specs_is x = fold_out-Specs Tree spec.Designator Initial spec.Piece spec.Enumerator spec.Field spec.Member Behind spec.Association spec.Bound spec.Deriving Grouping spec.Parameters Front Specifying spec.Braces spec.Assertion Specifying Front Declaring Specifyings Naming tree_step designator_step initial_step piece_step enumerator_step field_step member_step behind_step association_step bound_step deriving_step group_step parameters_step prefix_step specifier_step braces_step assertion_step enumeration_step front_step declarator_step specs_step type_step x

pub declarator_is : (x : Declarator) → declarator_of x ≡ Declaring_of (seen.pointers_of (out-Declarator x).pointers.items) (group_of (out-Declarator x).group) (derivings (seen.derivings_of (out-Declarator x).derivings.items) No_derivings)
unfolding declarator_of declarator_step group_of deriving_of
declarator_is x = fold_out-Declarator Tree spec.Designator Initial spec.Piece spec.Enumerator spec.Field spec.Member Behind spec.Association spec.Bound spec.Deriving Grouping spec.Parameters Front Specifying spec.Braces spec.Assertion Specifying Front Declaring Specifyings Naming tree_step designator_step initial_step piece_step enumerator_step field_step member_step behind_step association_step bound_step deriving_step group_step parameters_step prefix_step specifier_step braces_step assertion_step enumeration_step front_step declarator_step specs_step type_step x

pub choice_part_is : (x : Choice) → front_of x ≡ Choice_of (tree_of (out-Choice x).test) (out-Choice x).question (tree_of (out-Choice x).middle) (out-Choice x).colon
unfolding front_of front_step tree_of
choice_part_is x = fold_out-Choice Tree spec.Designator Initial spec.Piece spec.Enumerator spec.Field spec.Member Behind spec.Association spec.Bound spec.Deriving Grouping spec.Parameters Front Specifying spec.Braces spec.Assertion Specifying Front Declaring Specifyings Naming tree_step designator_step initial_step piece_step enumerator_step field_step member_step behind_step association_step bound_step deriving_step group_step parameters_step prefix_step specifier_step braces_step assertion_step enumeration_step front_step declarator_step specs_step type_step x

pub enumeration_is : (x : Enumeration) → enumeration_of x ≡ Enumerators_of (out-Enumeration x).keyword (out-Enumeration x).tag (out-Enumeration x).opening (enumerator_of (out-Enumeration x).first) (enumerators (seen.enumerators_of (out-Enumeration x).more.items) No_enumerators) (out-Enumeration x).comma (out-Enumeration x).closing
unfolding enumeration_of enumeration_step enumerator_of
enumeration_is x = fold_out-Enumeration Tree spec.Designator Initial spec.Piece spec.Enumerator spec.Field spec.Member Behind spec.Association spec.Bound spec.Deriving Grouping spec.Parameters Front Specifying spec.Braces spec.Assertion Specifying Front Declaring Specifyings Naming tree_step designator_step initial_step piece_step enumerator_step field_step member_step behind_step association_step bound_step deriving_step group_step parameters_step prefix_step specifier_step braces_step assertion_step enumeration_step front_step declarator_step specs_step type_step x

pub assertion_is : (x : Assertion) → assertion_of x ≡ Assertion_of (out-Assertion x).keyword (out-Assertion x).opening (tree_of (out-Assertion x).condition) (out-Assertion x).comma (out-Assertion x).text.items (out-Assertion x).closing (out-Assertion x).end
unfolding assertion_of assertion_step tree_of
assertion_is x = fold_out-Assertion Tree spec.Designator Initial spec.Piece spec.Enumerator spec.Field spec.Member Behind spec.Association spec.Bound spec.Deriving Grouping spec.Parameters Front Specifying spec.Braces spec.Assertion Specifying Front Declaring Specifyings Naming tree_step designator_step initial_step piece_step enumerator_step field_step member_step behind_step association_step bound_step deriving_step group_step parameters_step prefix_step specifier_step braces_step assertion_step enumeration_step front_step declarator_step specs_step type_step x

pub braces_is : (x : Braces) → braces_of x ≡ Braces_of (out-Braces x).opening (piece_of (out-Braces x).first) (pieces (seen.pieces_of (out-Braces x).more.items)) (out-Braces x).comma (out-Braces x).closing
unfolding braces_of braces_step piece_of
braces_is x = fold_out-Braces Tree spec.Designator Initial spec.Piece spec.Enumerator spec.Field spec.Member Behind spec.Association spec.Bound spec.Deriving Grouping spec.Parameters Front Specifying spec.Braces spec.Assertion Specifying Front Declaring Specifyings Naming tree_step designator_step initial_step piece_step enumerator_step field_step member_step behind_step association_step bound_step deriving_step group_step parameters_step prefix_step specifier_step braces_step assertion_step enumeration_step front_step declarator_step specs_step type_step x
