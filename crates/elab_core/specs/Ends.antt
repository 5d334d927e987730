-- The first and the last token of a part of a tree.
use Rattle.std.specs.Prelude.{ℕ, Bool, true, false, List, [], ◌∷◌, Option, Some, None}
use Rattle.elab_state.specs.Tokens.{first_number}
use Rattle.tree_data.specs.Trees.{Tree, Name_of, Constant_of, Text_of, Paren_of, Postfix_of, Unary_of, Binary_of, Conditional_of, Assign_of, Of_type, Compound_of, Generic_of, Offset_of, Behind, Operand_of, Index_of, Call_of, Call_with_of, Member_of, Step_of, Behinds, None_behind, Behind_then, Front, Operator_of, Cast_of, Choice_of, Left_of, Fronts, None_before, Front_then, Braces, Braces_of, Specifying, Word_of, Typedef_of, Tag_of, Atomic_of, Aligned_as_of, Aligned_of, Members_of, Enumerators_of, Specifyings, No_specifiers, Specifier_then, Declaring, Declaring_of, Grouping, No_group, Named_of, Group_of, Row, No_more, Parameter_then}

abbrev pub last_number : List ℕ → ℕ
last_number [] = 0
last_number (n ∷ []) = n
last_number (n ∷ k ∷ ns) = last_number (k ∷ ns)

abbrev mutual
  pub first_of : Tree → ℕ
  first_of (Name_of n) = n
  first_of (Constant_of n) = n
  first_of (Text_of ns) = first_number ns
  first_of (Paren_of o t c) = o
  first_of (Postfix_of f bs) = first_of f
  first_of (Unary_of fs t) = first_front fs
  first_of (Binary_of f bs) = first_of f
  first_of (Conditional_of fs t) = first_front fs
  first_of (Assign_of fs t) = first_front fs
  first_of (Of_type k o t c) = k
  first_of (Compound_of o t c i) = o
  first_of (Generic_of k o t gs c) = k
  first_of (Offset_of k o t m n bs c) = k

  -- of what stands in front: there is something
  pub first_front : Fronts → ℕ
  first_front None_before = 0
  first_front (Front_then f fs) = front_begins f

  pub front_begins : Front → ℕ
  front_begins (Operator_of o) = o
  front_begins (Cast_of o t c) = o
  front_begins (Choice_of t q e c) = first_of t
  front_begins (Left_of t o) = first_of t

abbrev mutual
  pub last_of : Tree → ℕ
  last_of (Name_of n) = n
  last_of (Constant_of n) = n
  last_of (Text_of ns) = last_number ns
  last_of (Paren_of o t c) = c
  last_of (Postfix_of f bs) = last_behind bs
  last_of (Unary_of fs t) = last_of t
  last_of (Binary_of f bs) = last_behind bs
  last_of (Conditional_of fs t) = last_of t
  last_of (Assign_of fs t) = last_of t
  last_of (Of_type k o t c) = c
  last_of (Compound_of o t c i) = braces_end i
  last_of (Generic_of k o t gs c) = c
  last_of (Offset_of k o t m n bs c) = c

  pub last_behind : Behinds → ℕ
  last_behind None_behind = 0
  last_behind (Behind_then b None_behind) = behind_ends b
  last_behind (Behind_then b (Behind_then d bs)) = last_behind (Behind_then d bs)

  pub behind_ends : Behind → ℕ
  behind_ends (Operand_of o t) = last_of t
  behind_ends (Index_of o t c) = c
  behind_ends (Call_of o c) = c
  behind_ends (Call_with_of o t bs c) = c
  behind_ends (Member_of o n) = n
  behind_ends (Step_of o) = o

  pub braces_end : Braces → ℕ
  braces_end (Braces_of o p ps t c) = c

abbrev pub specifying_begins : Specifying → ℕ
specifying_begins (Word_of n) = n
specifying_begins (Typedef_of n) = n
specifying_begins (Tag_of k n) = k
specifying_begins (Atomic_of k o t c) = k
specifying_begins (Aligned_as_of k o t c) = k
specifying_begins (Aligned_of k o t c) = k
specifying_begins (Members_of k n o ms c) = k
specifying_begins (Enumerators_of k n o x xs t c) = k

abbrev pub specifiers_begin : Specifyings → ℕ
specifiers_begin No_specifiers = 0
specifiers_begin (Specifier_then s ss) = specifying_begins s

-- the name that a declarator declares
abbrev mutual
  pub name_of : Declaring → Option ℕ
  name_of (Declaring_of ps g ds) = group_name g

  pub group_name : Grouping → Option ℕ
  group_name No_group = None
  group_name (Named_of n) = Some n
  group_name (Group_of o d c) = name_of d

-- the token on which a fault of a declarator falls: its name, or the first token of the specifiers in front of it
abbrev pub own_or : ℕ → Option ℕ → ℕ
own_or first None = first
own_or first (Some n) = n

-- where its specifiers begin at the token `at`
abbrev pub place_behind : ℕ → Declaring → ℕ
place_behind at d = own_or at (name_of d)

abbrev pub place_of : Specifyings → Declaring → ℕ
place_of ss d = place_behind (specifiers_begin ss) d

-- a string literal that stands alone (6.7.9p14)
abbrev pub is_text : Tree → Bool
is_text (Text_of ns) = true
is_text t = false

-- no other parameter stands behind the first
abbrev pub is_alone : Row → Bool
is_alone No_more = true
is_alone (Parameter_then o p ps) = false
