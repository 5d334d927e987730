-- Trees without addresses (ISO C11 6.5, 6.7, 6.9).
use Rattle.std.specs.Prelude.{ℕ, Bool, true, false, List, [], ◌∷◌, Option, Some, None}

mutual
  pub data Tree : Type 0 where
    Name_of : ℕ → Tree
    Constant_of : ℕ → Tree
    Text_of : List ℕ → Tree
    Paren_of : ℕ → Tree → ℕ → Tree
    Postfix_of : Tree → Behinds → Tree
    Unary_of : Fronts → Tree → Tree
    Binary_of : Tree → Behinds → Tree
    Conditional_of : Fronts → Tree → Tree
    Assign_of : Fronts → Tree → Tree
    Of_type : ℕ → ℕ → Naming → ℕ → Tree
    Compound_of : ℕ → Naming → ℕ → Braces → Tree
    Generic_of : ℕ → ℕ → Tree → Associations → ℕ → Tree
    Offset_of : ℕ → ℕ → Naming → ℕ → ℕ → Behinds → ℕ → Tree

  -- what an expression goes on with: a binary operator and its right operand, or a postfix operator
  pub data Behind : Type 0 where
    Operand_of : ℕ → Tree → Behind
    Index_of : ℕ → Tree → ℕ → Behind
    Call_of : ℕ → ℕ → Behind
    Call_with_of : ℕ → Tree → Behinds → ℕ → Behind
    Member_of : ℕ → ℕ → Behind
    Step_of : ℕ → Behind

  pub data Behinds : Type 0 where
    None_behind : Behinds
    Behind_then : Behind → Behinds → Behinds

  -- what an expression begins with: a unary operator, a cast, a test with the expression behind its `?`, or the left of
  -- an assignment with the operator
  pub data Front : Type 0 where
    Operator_of : ℕ → Front
    Cast_of : ℕ → Naming → ℕ → Front
    Choice_of : Tree → ℕ → Tree → ℕ → Front
    Left_of : Tree → ℕ → Front

  pub data Fronts : Type 0 where
    None_before : Fronts
    Front_then : Front → Fronts → Fronts

  -- an initializer list in braces: the first piece, each further one with the comma in front of it, a comma at the end
  pub data Braces : Type 0 where
    Braces_of : ℕ → Piece → Pieces → Option ℕ → ℕ → Braces

  pub data Initial : Type 0 where
    Value_of : Tree → Initial
    List_of : Braces → Initial

  -- an initializer, with a designation and its `=` or without
  pub data Piece : Type 0 where
    Plain_of : Initial → Piece
    Designated_of : Designator → Designators → ℕ → Initial → Piece

  pub data Pieces : Type 0 where
    No_pieces : Pieces
    Piece_then : ℕ → Piece → Pieces → Pieces

  pub data Designator : Type 0 where
    Element_of : ℕ → Tree → ℕ → Designator
    Field_of : ℕ → ℕ → Designator

  pub data Designators : Type 0 where
    No_designators : Designators
    Designator_then : Designator → Designators → Designators

  -- what a generic selection chooses among: an expression for a type, or for all others
  pub data Association : Type 0 where
    Typed_of : Naming → ℕ → Tree → Association
    Default_of : ℕ → ℕ → Tree → Association

  -- each with the comma in front of it
  pub data Associations : Type 0 where
    No_associations : Associations
    Association_then : ℕ → Association → Associations → Associations

  -- a specifier of a declaration: a keyword for itself, a typedef name, a tag behind its keyword, `_Atomic ( type-name )`, `_Alignas` with
  -- a type or a size, `struct` or `union` with members in braces behind the tag, if there is one, and `enum` with enumerators, behind
  -- which a comma may stand
  pub data Specifying : Type 0 where
    Word_of : ℕ → Specifying
    Typedef_of : ℕ → Specifying
    Tag_of : ℕ → ℕ → Specifying
    Atomic_of : ℕ → ℕ → Naming → ℕ → Specifying
    Aligned_as_of : ℕ → ℕ → Naming → ℕ → Specifying
    Aligned_of : ℕ → ℕ → Tree → ℕ → Specifying
    Members_of : ℕ → Option ℕ → ℕ → Members → ℕ → Specifying
    Enumerators_of : ℕ → Option ℕ → ℕ → Enumerator → Enumerators → Option ℕ → ℕ → Specifying

  -- a member declaration: specifiers and `;`; specifiers, the first declarator, each other one with the comma in front of it, and `;`;
  -- or a static assertion
  pub data Member : Type 0 where
    Bare_of : Specifyings → ℕ → Member
    Fields_of : Specifyings → Field → Fields → ℕ → Member
    Asserted_of : Assertion → Member

  pub data Members : Type 0 where
    No_members : Members
    Member_then : Member → Members → Members

  -- a member's declarator: without a width, with `:` and one, or these alone
  pub data Field : Type 0 where
    Declared_of : Declaring → Field
    Bits_of : Declaring → ℕ → Tree → Field
    Padding_of : ℕ → Tree → Field

  pub data Fields : Type 0 where
    No_fields : Fields
    Field_then : ℕ → Field → Fields → Fields

  -- an enumerator, without a value or with `=` and one
  pub data Enumerator : Type 0 where
    Counted_of : ℕ → Enumerator
    Given_of : ℕ → ℕ → Tree → Enumerator

  -- each with the comma in front of it
  pub data Enumerators : Type 0 where
    No_enumerators : Enumerators
    Enumerator_then : ℕ → Enumerator → Enumerators → Enumerators

  -- `_Static_assert ( condition , text ) ;`
  pub data Assertion : Type 0 where
    Assertion_of : ℕ → ℕ → Tree → ℕ → List ℕ → ℕ → ℕ → Assertion

  pub data Specifyings : Type 0 where
    No_specifiers : Specifyings
    Specifier_then : Specifying → Specifyings → Specifyings

  -- the name of a type: specifiers, and what is derived from their type
  pub data Naming : Type 0 where
    Type_of : Specifyings → Declaring → Naming

  -- each `*` with the qualifiers behind it, a name or a declarator in parentheses, and the arrays and functions behind these
  pub data Declaring : Type 0 where
    Declaring_of : List (ℕ × List ℕ) → Grouping → Derivings → Declaring

  pub data Grouping : Type 0 where
    No_group : Grouping
    Named_of : ℕ → Grouping
    Group_of : ℕ → Declaring → ℕ → Grouping

  -- an array, or a function
  pub data Deriving : Type 0 where
    Array_of : ℕ → Bound → ℕ → Deriving
    Function_of : ℕ → Parameters → ℕ → Deriving

  pub data Derivings : Type 0 where
    No_derivings : Derivings
    Deriving_then : Deriving → Derivings → Derivings

  -- none, or the first and each other one with the comma in front of it, and with `, ...` behind them or without; a parameter is
  -- written as the name of a type is, with a name or without; or the names of parameters alone
  pub data Parameters : Type 0 where
    No_parameters : Parameters
    Fixed_of : Naming → Row → Parameters
    Variadic_of : Naming → Row → ℕ → ℕ → Parameters
    Names_of : ℕ → List (ℕ × ℕ) → Parameters

  pub data Row : Type 0 where
    No_more : Row
    Parameter_then : ℕ → Naming → Row → Row

  -- what stands in the brackets of an array: qualifiers; `*` with qualifiers in front of it; a size with qualifiers in front of it; one with `static` and
  -- qualifiers in front of it, or with qualifiers and `static`
  pub data Bound : Type 0 where
    Unsized_of : List ℕ → Bound
    Any_size_of : List ℕ → ℕ → Bound
    Sized_of : List ℕ → Tree → Bound
    Static_sized_of : ℕ → List ℕ → Tree → Bound
    Sized_static_of : List ℕ → ℕ → Tree → Bound

-- an external declaration up to and with its `;`, or up to and with the `{` of its body: specifiers, and declarators with their
-- initializers or without; or a static assertion. The tokens `,`, `=`, `;` and `{` have no number here: they stand between and behind
-- these parts.
pub data Heading : Type 0 where
  Declares_of : Specifyings → List (Declaring × Option Initial) → Bool → Heading
  Asserts_of : Assertion → Heading

-- some in front of others
abbrev pub behinds : List Behind → Behinds → Behinds
behinds [] more = more
behinds (x ∷ xs) more = Behind_then x (behinds xs more)

abbrev pub fronts : List Front → Fronts → Fronts
fronts [] more = more
fronts (x ∷ xs) more = Front_then x (fronts xs more)

abbrev pub pieces : List (ℕ × Piece) → Pieces
pieces [] = No_pieces
pieces (p ∷ ps) = Piece_then p.0 p.1 (pieces ps)

abbrev pub designators : List Designator → Designators
designators [] = No_designators
designators (d ∷ ds) = Designator_then d (designators ds)

abbrev pub associations : List (ℕ × Association) → Associations
associations [] = No_associations
associations (x ∷ xs) = Association_then x.0 x.1 (associations xs)

abbrev pub specifyings : List Specifying → Specifyings → Specifyings
specifyings [] more = more
specifyings (s ∷ ss) more = Specifier_then s (specifyings ss more)

abbrev pub derivings : List Deriving → Derivings → Derivings
derivings [] more = more
derivings (d ∷ ds) more = Deriving_then d (derivings ds more)

abbrev pub members : List Member → Members → Members
members [] more = more
members (m ∷ ms) more = Member_then m (members ms more)

abbrev pub fields : List (ℕ × Field) → Fields → Fields
fields [] more = more
fields (f ∷ fs) more = Field_then f.0 f.1 (fields fs more)

abbrev pub enumerators : List (ℕ × Enumerator) → Enumerators → Enumerators
enumerators [] more = more
enumerators (e ∷ es) more = Enumerator_then e.0 e.1 (enumerators es more)

abbrev pub row : List (ℕ × Naming) → Row → Row
row [] more = more
row (p ∷ ps) more = Parameter_then p.0 p.1 (row ps more)

abbrev pub operand : ℕ × Tree → Behind
operand p = Operand_of p.0 p.1

abbrev pub left : Tree × ℕ → Front
left p = Left_of p.0 p.1

-- the number of a keyword
abbrev pub word_in : Specifying → Option ℕ
word_in (Word_of n) = Some n
word_in (Typedef_of n) = None
word_in (Tag_of k n) = None
word_in (Atomic_of k o t c) = None
word_in (Aligned_as_of k o t c) = None
word_in (Aligned_of k o e c) = None
word_in (Members_of k g o ms c) = None
word_in (Enumerators_of k g o e es t c) = None

abbrev pub are_some : List ℕ → Bool
are_some [] = false
are_some (n ∷ ns) = true

-- `*` with qualifiers in front of it
abbrev pub is_starred : Bound → Bool
is_starred (Unsized_of ns) = false
is_starred (Any_size_of ns n) = are_some ns
is_starred (Sized_of ns t) = false
is_starred (Static_sized_of n ns t) = false
is_starred (Sized_static_of ns n t) = false

-- names of parameters, and no parameters
abbrev pub are_names : Parameters → Bool
are_names No_parameters = false
are_names (Fixed_of p ps) = false
are_names (Variadic_of p ps m d) = false
are_names (Names_of n ns) = true

-- it stands behind a name alone (6.7.6.2, 6.7.6.3, 6.7.7)
abbrev pub needs_name : Deriving → Bool
needs_name (Array_of o x c) = is_starred x
needs_name (Function_of o ps c) = are_names ps

-- the first is an operator
abbrev pub operates : Front → Bool
operates (Operator_of o) = true
operates (Cast_of o t c) = false
operates (Choice_of t q e c) = false
operates (Left_of t o) = false

abbrev pub is_operator : Fronts → Bool
is_operator None_before = false
is_operator (Front_then f fs) = operates f

-- the tree's production is one of unary-expression (6.5.3)
abbrev pub is_unary : Tree → Bool
is_unary (Name_of n) = true
is_unary (Constant_of n) = true
is_unary (Text_of ns) = true
is_unary (Paren_of o t c) = true
is_unary (Postfix_of f bs) = true
is_unary (Unary_of fs t) = is_operator fs
is_unary (Binary_of f bs) = false
is_unary (Conditional_of fs t) = false
is_unary (Assign_of fs t) = false
is_unary (Of_type k o t c) = true
is_unary (Compound_of o t c i) = true
is_unary (Generic_of k o t gs c) = true
is_unary (Offset_of k o t m n bs c) = true
