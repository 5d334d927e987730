-- What a tree of the code stands for.
use Rattle.std.specs.Prelude.{ℕ, List, map}
use Rattle.tree_data.specs.declared.expr.Expr.{Expr}
use Rattle.tree_data.specs.declared.expr.Expr.TheOpen as layer
use Rattle.tree_data.specs.declared.expr.Expr.TheOpen.{Expr-F, Enumerator-F, Field-F, Member-F, Assertion-F, Enumeration-F, Suffix-F, Association-F, Choice-F, Braces-F, Piece-F, Init-F, Designator-F, Bound-F, Deriving-F, Group-F, Parameters-F, Prefix-F, Specifier-F, Declarator-F, Specs-F, TypeName-F}
use Rattle.tree_data.specs.declared.expr.Expr.TheFolds.{fold-Expr, fold-Enumerator, fold-Field, fold-Member, fold-Assertion, fold-Enumeration, fold-Suffix, fold-Association, fold-Choice, fold-Braces, fold-Piece, fold-Init, fold-Designator, fold-Bound, fold-Deriving, fold-Group, fold-Parameters, fold-Prefix, fold-Specifier, fold-Declarator, fold-Specs, fold-TypeName}
use Rattle.tree_data.specs.declared.inits.Braces.{Braces}
use Rattle.tree_data.specs.declared.inits.Piece.{Piece}
use Rattle.tree_data.specs.declared.inits.Init.{Init}
use Rattle.tree_data.specs.declared.inits.Designator.{Designator}
use Rattle.tree_data.specs.declared.members.Member.{Member}
use Rattle.tree_data.specs.declared.members.Field.{Field}
use Rattle.tree_data.specs.declared.members.Enumerator.{Enumerator}
use Rattle.tree_data.specs.declared.members.Enumeration.{Enumeration}
use Rattle.tree_data.specs.declared.members.Assertion.{Assertion}
use Rattle.tree_data.specs.Trees as spec
use Rattle.tree_data.specs.declared.parts.Suffix.{Suffix}
use Rattle.tree_data.specs.declared.parts.Choice.{Choice}
use Rattle.tree_data.specs.declared.selections.Association.{Association}
use Rattle.tree_data.specs.declared.types.Bound.{Bound}
use Rattle.tree_data.specs.declared.types.Declarator.{Declarator}
use Rattle.tree_data.specs.declared.types.Deriving.{Deriving}
use Rattle.tree_data.specs.declared.types.Group.{Group}
use Rattle.tree_data.specs.declared.types.Parameters.{Parameters}
use Rattle.tree_data.specs.declared.types.Pointer.{Pointer}
use Rattle.tree_data.specs.declared.types.Prefix.{Prefix}
use Rattle.tree_data.specs.declared.types.Specifier.{Specifier}
use Rattle.tree_data.specs.declared.types.Specs.{Specs}
use Rattle.tree_data.specs.declared.types.TypeName.{TypeName}
use Rattle.tree_data.specs.Trees.{Tree, Name_of, Constant_of, Text_of, Paren_of, Postfix_of, Unary_of, Binary_of, Conditional_of, Assign_of, Of_type, Behind, Index_of, Call_of, Call_with_of, Member_of, Step_of, None_behind, Front, Choice_of, None_before, behinds, fronts, operand, left, Compound_of, Braces_of, Plain_of, Designated_of, Initial, Value_of, List_of, Element_of, Field_of, pieces, designators, Generic_of, Offset_of, Typed_of, Default_of, associations, Operator_of, Cast_of, Specifying, Word_of, Typedef_of, Tag_of, Atomic_of, Aligned_as_of, Aligned_of, Members_of, Enumerators_of, Bare_of, Fields_of, Asserted_of, members, No_members, Declared_of, Bits_of, Padding_of, fields, No_fields, Counted_of, Given_of, enumerators, No_enumerators, Assertion_of, Specifyings, No_specifiers, Naming, Type_of, Declaring, Declaring_of, Grouping, No_group, Named_of, Group_of, No_parameters, Fixed_of, Variadic_of, Names_of, No_more, row, Array_of, Function_of, No_derivings, Unsized_of, Any_size_of, Sized_of, Static_sized_of, Sized_static_of, specifyings, derivings}

unfoldable pub tree_step : Expr-F Tree spec.Designator Initial spec.Piece spec.Enumerator spec.Field spec.Member Behind spec.Association spec.Bound spec.Deriving Grouping spec.Parameters Front Specifying spec.Braces spec.Assertion Specifying Front Declaring Specifyings Naming → Tree
tree_step (layer.Name n) = Name_of n
tree_step (layer.Constant n) = Constant_of n
tree_step (layer.Text ns) = Text_of ns.items
tree_step (layer.Paren o t c) = Paren_of o t.value c
tree_step (layer.Postfix f ss) = Postfix_of f.value (behinds ss.items None_behind)
tree_step (layer.Unary ps t) = Unary_of (fronts ps.items None_before) t.value
tree_step (layer.OfType k o t c) = Of_type k o t.value c
tree_step (layer.Binary f ps) = Binary_of f.value (behinds (map operand ps.items) None_behind)
tree_step (layer.Conditional cs t) = Conditional_of (fronts cs.items None_before) t.value
tree_step (layer.Assign ls t) = Assign_of (fronts (map left ls.items) None_before) t.value
tree_step (layer.Compound o t c b) = Compound_of o t.value c b.value
tree_step (layer.Generic k o t gs c) = Generic_of k o t.value (associations gs.value.items) c
tree_step (layer.Offset k o t m n ss c) = Offset_of k o t.value m n (behinds ss.value.items None_behind) c

unfoldable pub behind_step : Suffix-F Tree spec.Designator Initial spec.Piece spec.Enumerator spec.Field spec.Member Behind spec.Association spec.Bound spec.Deriving Grouping spec.Parameters Front Specifying spec.Braces spec.Assertion Specifying Front Declaring Specifyings Naming → Behind
behind_step (layer.Index o t c) = Index_of o t.value c
behind_step (layer.Call o c) = Call_of o c
behind_step (layer.CallWith o f ps c) = Call_with_of o f.value (behinds (map operand ps.items) None_behind) c
behind_step (layer.Member o n) = Member_of o n
behind_step (layer.Step o) = Step_of o

unfoldable pub association_step : Association-F Tree spec.Designator Initial spec.Piece spec.Enumerator spec.Field spec.Member Behind spec.Association spec.Bound spec.Deriving Grouping spec.Parameters Front Specifying spec.Braces spec.Assertion Specifying Front Declaring Specifyings Naming → spec.Association
association_step (layer.Typed t c e) = Typed_of t.value c e
association_step (layer.Default d c e) = Default_of d c e

unfoldable pub front_step : Choice-F Tree spec.Designator Initial spec.Piece spec.Enumerator spec.Field spec.Member Behind spec.Association spec.Bound spec.Deriving Grouping spec.Parameters Front Specifying spec.Braces spec.Assertion Specifying Front Declaring Specifyings Naming → Front
front_step c = Choice_of c.test c.question c.middle c.colon

unfoldable pub braces_step : Braces-F Tree spec.Designator Initial spec.Piece spec.Enumerator spec.Field spec.Member Behind spec.Association spec.Bound spec.Deriving Grouping spec.Parameters Front Specifying spec.Braces spec.Assertion Specifying Front Declaring Specifyings Naming → spec.Braces
braces_step b = Braces_of b.opening b.first (pieces b.more.items) b.comma b.closing

unfoldable pub piece_step : Piece-F Tree spec.Designator Initial spec.Piece spec.Enumerator spec.Field spec.Member Behind spec.Association spec.Bound spec.Deriving Grouping spec.Parameters Front Specifying spec.Braces spec.Assertion Specifying Front Declaring Specifyings Naming → spec.Piece
piece_step (layer.Plain i) = Plain_of i
piece_step (layer.Designated d ds e i) = Designated_of d (designators ds.items) e i

unfoldable pub initial_step : Init-F Tree spec.Designator Initial spec.Piece spec.Enumerator spec.Field spec.Member Behind spec.Association spec.Bound spec.Deriving Grouping spec.Parameters Front Specifying spec.Braces spec.Assertion Specifying Front Declaring Specifyings Naming → Initial
initial_step (layer.Value t) = Value_of t
initial_step (layer.List b) = List_of b.value

unfoldable pub designator_step : Designator-F Tree spec.Designator Initial spec.Piece spec.Enumerator spec.Field spec.Member Behind spec.Association spec.Bound spec.Deriving Grouping spec.Parameters Front Specifying spec.Braces spec.Assertion Specifying Front Declaring Specifyings Naming → spec.Designator
designator_step (layer.Element o t c) = Element_of o t c
designator_step (layer.Field o n) = Field_of o n

-- a pointer holds no tree
abbrev pub pointing : Pointer → ℕ × List ℕ
pointing p = (p.star, p.qualifiers.items)

unfoldable pub bound_step : Bound-F Tree spec.Designator Initial spec.Piece spec.Enumerator spec.Field spec.Member Behind spec.Association spec.Bound spec.Deriving Grouping spec.Parameters Front Specifying spec.Braces spec.Assertion Specifying Front Declaring Specifyings Naming → spec.Bound
bound_step (layer.Unsized ns) = Unsized_of ns.items
bound_step (layer.AnySize ns n) = Any_size_of ns.items n
bound_step (layer.Sized ns t) = Sized_of ns.items t.value
bound_step (layer.StaticSized n ns t) = Static_sized_of n ns.items t.value
bound_step (layer.SizedStatic ns n t) = Sized_static_of ns.items n t.value

unfoldable pub deriving_step : Deriving-F Tree spec.Designator Initial spec.Piece spec.Enumerator spec.Field spec.Member Behind spec.Association spec.Bound spec.Deriving Grouping spec.Parameters Front Specifying spec.Braces spec.Assertion Specifying Front Declaring Specifyings Naming → spec.Deriving
deriving_step (layer.Array o b c) = Array_of o b c
deriving_step (layer.Function o ps c) = Function_of o ps c

unfoldable pub group_step : Group-F Tree spec.Designator Initial spec.Piece spec.Enumerator spec.Field spec.Member Behind spec.Association spec.Bound spec.Deriving Grouping spec.Parameters Front Specifying spec.Braces spec.Assertion Specifying Front Declaring Specifyings Naming → Grouping
group_step layer.NoGroup = No_group
group_step (layer.Named n) = Named_of n
group_step (layer.Grouped o d c) = Group_of o d.value c

unfoldable pub parameters_step : Parameters-F Tree spec.Designator Initial spec.Piece spec.Enumerator spec.Field spec.Member Behind spec.Association spec.Bound spec.Deriving Grouping spec.Parameters Front Specifying spec.Braces spec.Assertion Specifying Front Declaring Specifyings Naming → spec.Parameters
parameters_step layer.NoParameters = No_parameters
parameters_step (layer.Fixed t ps) = Fixed_of t.value (row ps.items No_more)
parameters_step (layer.Variadic t ps m d) = Variadic_of t.value (row ps.items No_more) m d
parameters_step (layer.Names n ns) = Names_of n ns.items

unfoldable pub prefix_step : Prefix-F Tree spec.Designator Initial spec.Piece spec.Enumerator spec.Field spec.Member Behind spec.Association spec.Bound spec.Deriving Grouping spec.Parameters Front Specifying spec.Braces spec.Assertion Specifying Front Declaring Specifyings Naming → Front
prefix_step (layer.Operator n) = Operator_of n
prefix_step (layer.Cast o t c) = Cast_of o t.value c

unfoldable pub specifier_step : Specifier-F Tree spec.Designator Initial spec.Piece spec.Enumerator spec.Field spec.Member Behind spec.Association spec.Bound spec.Deriving Grouping spec.Parameters Front Specifying spec.Braces spec.Assertion Specifying Front Declaring Specifyings Naming → Specifying
specifier_step (layer.Word n) = Word_of n
specifier_step (layer.TypedefName n) = Typedef_of n
specifier_step (layer.Tag k n) = Tag_of k n
specifier_step (layer.Atomic k o t c) = Atomic_of k o t.value c
specifier_step (layer.AlignedAs k o t c) = Aligned_as_of k o t.value c
specifier_step (layer.Aligned k o e c) = Aligned_of k o e.value c
specifier_step (layer.Members k g o ms c) = Members_of k g o (members ms.items No_members) c
specifier_step (layer.Enumerators e) = e.value

unfoldable pub member_step : Member-F Tree spec.Designator Initial spec.Piece spec.Enumerator spec.Field spec.Member Behind spec.Association spec.Bound spec.Deriving Grouping spec.Parameters Front Specifying spec.Braces spec.Assertion Specifying Front Declaring Specifyings Naming → spec.Member
member_step (layer.Bare ss e) = Bare_of ss e
member_step (layer.Fields ss f fs e) = Fields_of ss f (fields fs.items No_fields) e
member_step (layer.Asserted x) = Asserted_of x

unfoldable pub field_step : Field-F Tree spec.Designator Initial spec.Piece spec.Enumerator spec.Field spec.Member Behind spec.Association spec.Bound spec.Deriving Grouping spec.Parameters Front Specifying spec.Braces spec.Assertion Specifying Front Declaring Specifyings Naming → spec.Field
field_step (layer.Declared d) = Declared_of d
field_step (layer.Bits d c w) = Bits_of d c w
field_step (layer.Padding c w) = Padding_of c w

unfoldable pub enumerator_step : Enumerator-F Tree spec.Designator Initial spec.Piece spec.Enumerator spec.Field spec.Member Behind spec.Association spec.Bound spec.Deriving Grouping spec.Parameters Front Specifying spec.Braces spec.Assertion Specifying Front Declaring Specifyings Naming → spec.Enumerator
enumerator_step (layer.Counted n) = Counted_of n
enumerator_step (layer.Given n e t) = Given_of n e t

unfoldable pub enumeration_step : Enumeration-F Tree spec.Designator Initial spec.Piece spec.Enumerator spec.Field spec.Member Behind spec.Association spec.Bound spec.Deriving Grouping spec.Parameters Front Specifying spec.Braces spec.Assertion Specifying Front Declaring Specifyings Naming → Specifying
enumeration_step e = Enumerators_of e.keyword e.tag e.opening e.first (enumerators e.more.items No_enumerators) e.comma e.closing

unfoldable pub assertion_step : Assertion-F Tree spec.Designator Initial spec.Piece spec.Enumerator spec.Field spec.Member Behind spec.Association spec.Bound spec.Deriving Grouping spec.Parameters Front Specifying spec.Braces spec.Assertion Specifying Front Declaring Specifyings Naming → spec.Assertion
assertion_step a = Assertion_of a.keyword a.opening a.condition a.comma a.text.items a.closing a.end

unfoldable pub declarator_step : Declarator-F Tree spec.Designator Initial spec.Piece spec.Enumerator spec.Field spec.Member Behind spec.Association spec.Bound spec.Deriving Grouping spec.Parameters Front Specifying spec.Braces spec.Assertion Specifying Front Declaring Specifyings Naming → Declaring
declarator_step d = Declaring_of (map pointing d.pointers.items) d.group (derivings d.derivings.items No_derivings)

unfoldable pub specs_step : Specs-F Tree spec.Designator Initial spec.Piece spec.Enumerator spec.Field spec.Member Behind spec.Association spec.Bound spec.Deriving Grouping spec.Parameters Front Specifying spec.Braces spec.Assertion Specifying Front Declaring Specifyings Naming → Specifyings
specs_step s = specifyings s.specifiers.items No_specifiers

unfoldable pub type_step : TypeName-F Tree spec.Designator Initial spec.Piece spec.Enumerator spec.Field spec.Member Behind spec.Association spec.Bound spec.Deriving Grouping spec.Parameters Front Specifying spec.Braces spec.Assertion Specifying Front Declaring Specifyings Naming → Naming
type_step t = Type_of t.specs t.declarator

unfoldable pub tree_of : Expr → Tree
tree_of = fold-Expr Tree spec.Designator Initial spec.Piece spec.Enumerator spec.Field spec.Member Behind spec.Association spec.Bound spec.Deriving Grouping spec.Parameters Front Specifying spec.Braces spec.Assertion Specifying Front Declaring Specifyings Naming tree_step designator_step initial_step piece_step enumerator_step field_step member_step behind_step association_step bound_step deriving_step group_step parameters_step prefix_step specifier_step braces_step assertion_step enumeration_step front_step declarator_step specs_step type_step

unfoldable pub behind_of : Suffix → Behind
behind_of = fold-Suffix Tree spec.Designator Initial spec.Piece spec.Enumerator spec.Field spec.Member Behind spec.Association spec.Bound spec.Deriving Grouping spec.Parameters Front Specifying spec.Braces spec.Assertion Specifying Front Declaring Specifyings Naming tree_step designator_step initial_step piece_step enumerator_step field_step member_step behind_step association_step bound_step deriving_step group_step parameters_step prefix_step specifier_step braces_step assertion_step enumeration_step front_step declarator_step specs_step type_step

unfoldable pub association_of : Association → spec.Association
association_of = fold-Association Tree spec.Designator Initial spec.Piece spec.Enumerator spec.Field spec.Member Behind spec.Association spec.Bound spec.Deriving Grouping spec.Parameters Front Specifying spec.Braces spec.Assertion Specifying Front Declaring Specifyings Naming tree_step designator_step initial_step piece_step enumerator_step field_step member_step behind_step association_step bound_step deriving_step group_step parameters_step prefix_step specifier_step braces_step assertion_step enumeration_step front_step declarator_step specs_step type_step

unfoldable pub front_of : Choice → Front
front_of = fold-Choice Tree spec.Designator Initial spec.Piece spec.Enumerator spec.Field spec.Member Behind spec.Association spec.Bound spec.Deriving Grouping spec.Parameters Front Specifying spec.Braces spec.Assertion Specifying Front Declaring Specifyings Naming tree_step designator_step initial_step piece_step enumerator_step field_step member_step behind_step association_step bound_step deriving_step group_step parameters_step prefix_step specifier_step braces_step assertion_step enumeration_step front_step declarator_step specs_step type_step

unfoldable pub braces_of : Braces → spec.Braces
braces_of = fold-Braces Tree spec.Designator Initial spec.Piece spec.Enumerator spec.Field spec.Member Behind spec.Association spec.Bound spec.Deriving Grouping spec.Parameters Front Specifying spec.Braces spec.Assertion Specifying Front Declaring Specifyings Naming tree_step designator_step initial_step piece_step enumerator_step field_step member_step behind_step association_step bound_step deriving_step group_step parameters_step prefix_step specifier_step braces_step assertion_step enumeration_step front_step declarator_step specs_step type_step

unfoldable pub piece_of : Piece → spec.Piece
piece_of = fold-Piece Tree spec.Designator Initial spec.Piece spec.Enumerator spec.Field spec.Member Behind spec.Association spec.Bound spec.Deriving Grouping spec.Parameters Front Specifying spec.Braces spec.Assertion Specifying Front Declaring Specifyings Naming tree_step designator_step initial_step piece_step enumerator_step field_step member_step behind_step association_step bound_step deriving_step group_step parameters_step prefix_step specifier_step braces_step assertion_step enumeration_step front_step declarator_step specs_step type_step

unfoldable pub initial_of : Init → Initial
initial_of = fold-Init Tree spec.Designator Initial spec.Piece spec.Enumerator spec.Field spec.Member Behind spec.Association spec.Bound spec.Deriving Grouping spec.Parameters Front Specifying spec.Braces spec.Assertion Specifying Front Declaring Specifyings Naming tree_step designator_step initial_step piece_step enumerator_step field_step member_step behind_step association_step bound_step deriving_step group_step parameters_step prefix_step specifier_step braces_step assertion_step enumeration_step front_step declarator_step specs_step type_step

unfoldable pub designator_of : Designator → spec.Designator
designator_of = fold-Designator Tree spec.Designator Initial spec.Piece spec.Enumerator spec.Field spec.Member Behind spec.Association spec.Bound spec.Deriving Grouping spec.Parameters Front Specifying spec.Braces spec.Assertion Specifying Front Declaring Specifyings Naming tree_step designator_step initial_step piece_step enumerator_step field_step member_step behind_step association_step bound_step deriving_step group_step parameters_step prefix_step specifier_step braces_step assertion_step enumeration_step front_step declarator_step specs_step type_step

unfoldable pub bound_of : Bound → spec.Bound
bound_of = fold-Bound Tree spec.Designator Initial spec.Piece spec.Enumerator spec.Field spec.Member Behind spec.Association spec.Bound spec.Deriving Grouping spec.Parameters Front Specifying spec.Braces spec.Assertion Specifying Front Declaring Specifyings Naming tree_step designator_step initial_step piece_step enumerator_step field_step member_step behind_step association_step bound_step deriving_step group_step parameters_step prefix_step specifier_step braces_step assertion_step enumeration_step front_step declarator_step specs_step type_step

unfoldable pub deriving_of : Deriving → spec.Deriving
deriving_of = fold-Deriving Tree spec.Designator Initial spec.Piece spec.Enumerator spec.Field spec.Member Behind spec.Association spec.Bound spec.Deriving Grouping spec.Parameters Front Specifying spec.Braces spec.Assertion Specifying Front Declaring Specifyings Naming tree_step designator_step initial_step piece_step enumerator_step field_step member_step behind_step association_step bound_step deriving_step group_step parameters_step prefix_step specifier_step braces_step assertion_step enumeration_step front_step declarator_step specs_step type_step

unfoldable pub group_of : Group → Grouping
group_of = fold-Group Tree spec.Designator Initial spec.Piece spec.Enumerator spec.Field spec.Member Behind spec.Association spec.Bound spec.Deriving Grouping spec.Parameters Front Specifying spec.Braces spec.Assertion Specifying Front Declaring Specifyings Naming tree_step designator_step initial_step piece_step enumerator_step field_step member_step behind_step association_step bound_step deriving_step group_step parameters_step prefix_step specifier_step braces_step assertion_step enumeration_step front_step declarator_step specs_step type_step

unfoldable pub parameters_of : Parameters → spec.Parameters
parameters_of = fold-Parameters Tree spec.Designator Initial spec.Piece spec.Enumerator spec.Field spec.Member Behind spec.Association spec.Bound spec.Deriving Grouping spec.Parameters Front Specifying spec.Braces spec.Assertion Specifying Front Declaring Specifyings Naming tree_step designator_step initial_step piece_step enumerator_step field_step member_step behind_step association_step bound_step deriving_step group_step parameters_step prefix_step specifier_step braces_step assertion_step enumeration_step front_step declarator_step specs_step type_step

unfoldable pub prefix_of : Prefix → Front
prefix_of = fold-Prefix Tree spec.Designator Initial spec.Piece spec.Enumerator spec.Field spec.Member Behind spec.Association spec.Bound spec.Deriving Grouping spec.Parameters Front Specifying spec.Braces spec.Assertion Specifying Front Declaring Specifyings Naming tree_step designator_step initial_step piece_step enumerator_step field_step member_step behind_step association_step bound_step deriving_step group_step parameters_step prefix_step specifier_step braces_step assertion_step enumeration_step front_step declarator_step specs_step type_step

unfoldable pub specifier_of : Specifier → Specifying
specifier_of = fold-Specifier Tree spec.Designator Initial spec.Piece spec.Enumerator spec.Field spec.Member Behind spec.Association spec.Bound spec.Deriving Grouping spec.Parameters Front Specifying spec.Braces spec.Assertion Specifying Front Declaring Specifyings Naming tree_step designator_step initial_step piece_step enumerator_step field_step member_step behind_step association_step bound_step deriving_step group_step parameters_step prefix_step specifier_step braces_step assertion_step enumeration_step front_step declarator_step specs_step type_step

unfoldable pub declarator_of : Declarator → Declaring
declarator_of = fold-Declarator Tree spec.Designator Initial spec.Piece spec.Enumerator spec.Field spec.Member Behind spec.Association spec.Bound spec.Deriving Grouping spec.Parameters Front Specifying spec.Braces spec.Assertion Specifying Front Declaring Specifyings Naming tree_step designator_step initial_step piece_step enumerator_step field_step member_step behind_step association_step bound_step deriving_step group_step parameters_step prefix_step specifier_step braces_step assertion_step enumeration_step front_step declarator_step specs_step type_step

unfoldable pub specs_of : Specs → Specifyings
specs_of = fold-Specs Tree spec.Designator Initial spec.Piece spec.Enumerator spec.Field spec.Member Behind spec.Association spec.Bound spec.Deriving Grouping spec.Parameters Front Specifying spec.Braces spec.Assertion Specifying Front Declaring Specifyings Naming tree_step designator_step initial_step piece_step enumerator_step field_step member_step behind_step association_step bound_step deriving_step group_step parameters_step prefix_step specifier_step braces_step assertion_step enumeration_step front_step declarator_step specs_step type_step

unfoldable pub type_of : TypeName → Naming
type_of = fold-TypeName Tree spec.Designator Initial spec.Piece spec.Enumerator spec.Field spec.Member Behind spec.Association spec.Bound spec.Deriving Grouping spec.Parameters Front Specifying spec.Braces spec.Assertion Specifying Front Declaring Specifyings Naming tree_step designator_step initial_step piece_step enumerator_step field_step member_step behind_step association_step bound_step deriving_step group_step parameters_step prefix_step specifier_step braces_step assertion_step enumeration_step front_step declarator_step specs_step type_step

unfoldable pub member_of : Member → spec.Member
member_of = fold-Member Tree spec.Designator Initial spec.Piece spec.Enumerator spec.Field spec.Member Behind spec.Association spec.Bound spec.Deriving Grouping spec.Parameters Front Specifying spec.Braces spec.Assertion Specifying Front Declaring Specifyings Naming tree_step designator_step initial_step piece_step enumerator_step field_step member_step behind_step association_step bound_step deriving_step group_step parameters_step prefix_step specifier_step braces_step assertion_step enumeration_step front_step declarator_step specs_step type_step

unfoldable pub field_of : Field → spec.Field
field_of = fold-Field Tree spec.Designator Initial spec.Piece spec.Enumerator spec.Field spec.Member Behind spec.Association spec.Bound spec.Deriving Grouping spec.Parameters Front Specifying spec.Braces spec.Assertion Specifying Front Declaring Specifyings Naming tree_step designator_step initial_step piece_step enumerator_step field_step member_step behind_step association_step bound_step deriving_step group_step parameters_step prefix_step specifier_step braces_step assertion_step enumeration_step front_step declarator_step specs_step type_step

unfoldable pub enumerator_of : Enumerator → spec.Enumerator
enumerator_of = fold-Enumerator Tree spec.Designator Initial spec.Piece spec.Enumerator spec.Field spec.Member Behind spec.Association spec.Bound spec.Deriving Grouping spec.Parameters Front Specifying spec.Braces spec.Assertion Specifying Front Declaring Specifyings Naming tree_step designator_step initial_step piece_step enumerator_step field_step member_step behind_step association_step bound_step deriving_step group_step parameters_step prefix_step specifier_step braces_step assertion_step enumeration_step front_step declarator_step specs_step type_step

unfoldable pub enumeration_of : Enumeration → Specifying
enumeration_of = fold-Enumeration Tree spec.Designator Initial spec.Piece spec.Enumerator spec.Field spec.Member Behind spec.Association spec.Bound spec.Deriving Grouping spec.Parameters Front Specifying spec.Braces spec.Assertion Specifying Front Declaring Specifyings Naming tree_step designator_step initial_step piece_step enumerator_step field_step member_step behind_step association_step bound_step deriving_step group_step parameters_step prefix_step specifier_step braces_step assertion_step enumeration_step front_step declarator_step specs_step type_step

unfoldable pub assertion_of : Assertion → spec.Assertion
assertion_of = fold-Assertion Tree spec.Designator Initial spec.Piece spec.Enumerator spec.Field spec.Member Behind spec.Association spec.Bound spec.Deriving Grouping spec.Parameters Front Specifying spec.Braces spec.Assertion Specifying Front Declaring Specifyings Naming tree_step designator_step initial_step piece_step enumerator_step field_step member_step behind_step association_step bound_step deriving_step group_step parameters_step prefix_step specifier_step braces_step assertion_step enumeration_step front_step declarator_step specs_step type_step

-- the trees of lists
abbrev pub prefixes_of : List Prefix → List Front
prefixes_of ps = map prefix_of ps

abbrev pub operands_of : List (ℕ × Expr) → List Behind
operands_of ps = map operand (map (λ p. (p.0, tree_of p.1)) ps)

abbrev pub lefts_of : List (Expr × ℕ) → List Front
lefts_of ls = map left (map (λ p. (tree_of p.0, p.1)) ls)

abbrev pub suffixes_of : List Suffix → List Behind
suffixes_of ss = map behind_of ss

abbrev pub choices_of : List Choice → List Front
choices_of cs = map front_of cs

abbrev pub pieces_of : List (ℕ × Piece) → List (ℕ × spec.Piece)
pieces_of ps = map (λ p. (p.0, piece_of p.1)) ps

abbrev pub designators_of : List Designator → List spec.Designator
designators_of ds = map designator_of ds

abbrev pub associations_of : List (ℕ × Association) → List (ℕ × spec.Association)
associations_of xs = map (λ x. (x.0, association_of x.1)) xs

abbrev pub pointers_of : List Pointer → List (ℕ × List ℕ)
pointers_of ps = map pointing ps

abbrev pub specifiers_of : List Specifier → List Specifying
specifiers_of ss = map specifier_of ss

abbrev pub members_of : List Member → List spec.Member
members_of ms = map member_of ms

abbrev pub fields_of : List (ℕ × Field) → List (ℕ × spec.Field)
fields_of fs = map (λ f. (f.0, field_of f.1)) fs

abbrev pub enumerators_of : List (ℕ × Enumerator) → List (ℕ × spec.Enumerator)
enumerators_of es = map (λ e. (e.0, enumerator_of e.1)) es

abbrev pub derivings_of : List Deriving → List spec.Deriving
derivings_of ds = map deriving_of ds

abbrev pub parameter_row_of : List (ℕ × TypeName) → List (ℕ × Naming)
parameter_row_of ps = map (λ p. (p.0, type_of p.1)) ps

-- of specifiers and a declarator
abbrev pub naming : Specs → Declarator → Naming
naming specs declarator = Type_of (specs_of specs) (declarator_of declarator)
