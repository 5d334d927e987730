-- What an operator makes of its judged parts (ISO C11 6.5): one row a construct.
use Rattle.std.specs.Prelude.{ℕ, Bool, false, ◌||◌, List, [], ◌∷◌, Ok, if◌then◌else◌, Option, Some, None}
use Rattle.std.specs.List.{list_any}
use Rattle.type_data.specs.declared.judged.Judged.{Judged}
use Rattle.type_data.specs.Types.{Ty}
use Rattle.type_rel.specs.Kinds.{Tagging, is_bad}
use Rattle.expr_rules.specs.declared.parts.Association.{Association}
use Rattle.expr_rules.specs.declared.parts.Association.TheVariants as association
use Rattle.expr_rules.specs.declared.parts.Form.{Form}
use Rattle.expr_rules.specs.declared.parts.Form.TheVariants as form
use Rattle.expr_rules.specs.declared.parts.Operator.{Operator}
use Rattle.expr_rules.specs.Assignments.{assign, assign_by, comma, conditional}
use Rattle.expr_rules.specs.Binary.{binary}
use Rattle.expr_rules.specs.Casts.{cast}
use Rattle.expr_rules.specs.Operands.{Answer, bad, broken}
use Rattle.expr_rules.specs.Postfix.{arrow, call, compound, dot, index, stepped}
use Rattle.expr_rules.specs.Primary.{constant, identifier, text}
use Rattle.expr_rules.specs.Selection.{generic}
use Rattle.expr_rules.specs.Unary.{address, align_of, dereference, offset_of, size_of, size_of_expression, unary}

-- what has a faulty part has a fault, and shows none of its own
abbrev pub is_bad_association : Association → Bool
is_bad_association (association.Typed t q) = is_bad t
is_bad_association association.Default = false

abbrev pub state_bad : List Association → Bool
state_bad associations = list_any is_bad_association associations

abbrev pub is_bad_type : Option Ty → Bool
is_bad_type (Some t) = is_bad t
is_bad_type None = false

abbrev pub states_bad : Form → Bool
states_bad (form.Generic associations) = state_bad associations
states_bad (form.Compound t q s) = is_bad t
states_bad (form.SizeOf t) = is_bad_type t
states_bad (form.AlignOf t) = is_bad t
states_bad (form.OffsetOf t ds) = is_bad t
states_bad (form.Cast t q) = is_bad t
states_bad f = false

abbrev pub are_bad : List Judged → Bool
are_bad parts = list_any (λ j. is_bad j.ty) parts

abbrev pub has_bad : Form → List Judged → Bool
has_bad f parts = states_bad f || are_bad parts

-- `sizeof` of a type has no operand, and else it has one
abbrev pub size_of_stated : ℕ → Tagging → Option Ty → Answer
size_of_stated at tags (Some t) = size_of at tags t false
size_of_stated at tags None = Ok bad

abbrev pub size_of_part : ℕ → Tagging → Option Ty → Judged → Answer
size_of_part at tags None e = size_of_expression at tags e
size_of_part at tags (Some t) e = Ok bad

-- a construct without operands; with other parts than the construct has, nothing is shown
abbrev pub of_none : ℕ → Tagging → Form → Answer
of_none at tags (form.Ident name e) = identifier at name e
of_none at tags (form.Constant l) = constant at l
of_none at tags (form.Text s) = text s
of_none at tags (form.BadText rule) = broken at rule [] []
of_none at tags (form.Compound t q s) = compound at tags t q s
of_none at tags (form.SizeOf t) = size_of_stated at tags t
of_none at tags (form.AlignOf t) = align_of at tags t
of_none at tags (form.OffsetOf t ds) = offset_of at tags t ds
of_none at tags f = Ok bad

-- one with one operand
abbrev pub of_one : ℕ → Tagging → Form → Judged → Answer
of_one at tags form.Paren e = Ok e
of_one at tags (form.Dot name) e = dot at tags name e
of_one at tags (form.Arrow name) e = arrow at tags name e
of_one at tags form.PreInc e = stepped at tags e
of_one at tags form.PreDec e = stepped at tags e
of_one at tags form.PostInc e = stepped at tags e
of_one at tags form.PostDec e = stepped at tags e
of_one at tags form.AddressOf e = address at e
of_one at tags form.Deref e = dereference at e
of_one at tags (form.Unary o) e = unary at o e
of_one at tags (form.SizeOf t) e = size_of_part at tags t e
of_one at tags (form.Cast t q) e = cast at t e
of_one at tags f e = Ok bad

-- one with two
abbrev pub of_two : ℕ → Tagging → Form → Judged → Judged → Answer
of_two at tags form.Index a b = index at tags a b
of_two at tags (form.Binary o) a b = binary at tags o a b
of_two at tags form.Assign a b = assign at tags a b
of_two at tags (form.AssignOp o) a b = assign_by at tags o a b
of_two at tags form.Comma a b = comma b
of_two at tags f a b = Ok bad

-- one with three
abbrev pub of_three : ℕ → Form → Judged → Judged → Judged → Answer
of_three at form.Conditional b x y = conditional at b x y
of_three at f b x y = Ok bad

abbrev pub by_number : ℕ → Tagging → Form → List Judged → Answer
by_number at tags f [] = of_none at tags f
by_number at tags f (a ∷ []) = of_one at tags f a
by_number at tags f (a ∷ b ∷ []) = of_two at tags f a b
by_number at tags f (a ∷ b ∷ c ∷ []) = of_three at f a b c
by_number at tags f (a ∷ b ∷ c ∷ d ∷ more) = Ok bad

-- a call and a generic selection have a first part and any number of others
abbrev pub call_of : ℕ → Tagging → List Judged → Answer
call_of at tags [] = Ok bad
call_of at tags (f ∷ args) = call at tags f args

abbrev pub generic_of : ℕ → Tagging → List Association → List Judged → Answer
generic_of at tags associations [] = Ok bad
generic_of at tags associations (c ∷ es) = generic at tags associations c es

abbrev pub row : ℕ → Tagging → Form → List Judged → Answer
row at tags form.Call parts = call_of at tags parts
row at tags (form.Generic associations) parts = generic_of at tags associations parts
row at tags f parts = by_number at tags f parts

abbrev pub judged : Operator → List Judged → Tagging → Answer
judged o parts tags = if has_bad o.form parts then Ok bad else row o.at tags o.form parts
