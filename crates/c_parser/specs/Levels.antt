-- The nonterminals of expressions (ISO C11 6.5.1 to 6.5.17) as levels of precedence: a tree of one is a tree of each lower
-- one, as the productions `logical-AND-expression : inclusive-OR-expression` and their like say.
use Rattle.std.specs.Prelude.{◌≡◌, ℕ, ◌≤◌, List}
use Rattle.tree_data.specs.Trees.{Tree, Name_of, Constant_of, Text_of, Paren_of, Postfix_of, Unary_of, Binary_of, Conditional_of, Assign_of, Operand_of, Index_of, Call_of, Call_with_of, Member_of, Step_of, Behinds, None_behind, Behind_then, Fronts, None_before, Front_then, Operator_of, Cast_of, Choice_of, Left_of, Of_type, Compound_of, Generic_of, Offset_of}
use Rattle.c_parser.specs.declared.kinds.Kind.{Kind}
use Rattle.c_parser.specs.Kinds.{level_at}

abbrev pub expression : ℕ
expression = 1

abbrev pub assignment_expression : ℕ
assignment_expression = 2

abbrev pub conditional_expression : ℕ
conditional_expression = 3

-- 5 to 12 are those between `||` and `*`, in the order of 6.5.6 to 6.5.13 from the last to the first
abbrev pub logical_OR_expression : ℕ
logical_OR_expression = 4

abbrev pub multiplicative_expression : ℕ
multiplicative_expression = 13

abbrev pub cast_expression : ℕ
cast_expression = 14

abbrev pub unary_expression : ℕ
unary_expression = 15

abbrev pub postfix_expression : ℕ
postfix_expression = 16

-- `sizeof ( type-name )` counts here too; but for postfix operators behind it, it may stand where these may
abbrev pub primary_expression : ℕ
primary_expression = 17

-- a nonterminal whose production has a binary operator (6.5.5 to 6.5.14, 6.5.17)
abbrev pub IsBinary : ℕ → Type 0
IsBinary l =
    (expression ≤ l) × (l ≤ multiplicative_expression)
    × (l ≡ assignment_expression → ⊥) × (l ≡ conditional_expression → ⊥)

-- of the operator that an expression goes on with
abbrev pub behinds_level : List Kind → Behinds → ℕ
behinds_level kinds None_behind = 0
behinds_level kinds (Behind_then (Operand_of o t) bs) = level_at kinds o
behinds_level kinds (Behind_then (Index_of o t c) bs) = postfix_expression
behinds_level kinds (Behind_then (Call_of o c) bs) = postfix_expression
behinds_level kinds (Behind_then (Call_with_of o t more c) bs) = postfix_expression
behinds_level kinds (Behind_then (Member_of o n) bs) = postfix_expression
behinds_level kinds (Behind_then (Step_of o) bs) = postfix_expression

-- with a cast in front an expression is a cast-expression (6.5.4), with an operator a unary-expression
abbrev pub fronts_level : Fronts → ℕ
fronts_level None_before = unary_expression
fronts_level (Front_then (Operator_of o) fs) = unary_expression
fronts_level (Front_then (Cast_of o t c) fs) = cast_expression
fronts_level (Front_then (Choice_of t q e c) fs) = unary_expression
fronts_level (Front_then (Left_of t o) fs) = unary_expression

-- of the nonterminal whose production has the tree
abbrev pub rank : List Kind → Tree → ℕ
rank kinds (Name_of n) = primary_expression
rank kinds (Constant_of n) = primary_expression
rank kinds (Text_of ns) = primary_expression
rank kinds (Paren_of o t c) = primary_expression
rank kinds (Postfix_of f bs) = postfix_expression
rank kinds (Unary_of fs t) = fronts_level fs
rank kinds (Binary_of f bs) = behinds_level kinds bs
rank kinds (Conditional_of fs t) = conditional_expression
rank kinds (Assign_of fs t) = assignment_expression
rank kinds (Of_type k o t c) = primary_expression
-- a compound literal is a postfix-expression with which nothing else begins; operators may stand behind it as behind these
rank kinds (Compound_of o t c i) = primary_expression
rank kinds (Generic_of k o t gs c) = primary_expression
rank kinds (Offset_of k o t m n bs c) = primary_expression
