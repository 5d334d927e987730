-- The grammar of expressions (ISO C11 6.5), initializers (6.7.9), specifiers (6.7.1 to 6.7.5), declarators (6.7.6, 6.7.7) and static
-- assertions (6.7.10): what a tree spells, and which trees are proper. A case a production; productions that go on to the left or to the right by themselves are lists, of one part at least.
use Rattle.std.specs.Prelude.{◌≡◌, Bool, false, ℕ, zero, suc, ◌+◌, ◌≤◌, ◌||◌, ◌&&◌, not, List, [], ◌∷◌, ◌++◌, length, Option, Some, None, true}
use Rattle.tree_data.specs.Trees.{Tree, Name_of, Constant_of, Text_of, Paren_of, Postfix_of, Unary_of, Binary_of, Conditional_of, Assign_of, Of_type, Compound_of, Behind, Operand_of, Index_of, Call_of, Call_with_of, Member_of, Step_of, Behinds, None_behind, Behind_then, Front, Operator_of, Cast_of, Choice_of, Left_of, Fronts, None_before, Front_then, Braces, Braces_of, Initial, Value_of, List_of, Piece, Plain_of, Designated_of, Pieces, No_pieces, Piece_then, Designator, Element_of, Field_of, Designators, No_designators, Designator_then, Generic_of, Offset_of, Association, Typed_of, Default_of, Associations, No_associations, Association_then, Specifying, Word_of, Typedef_of, Tag_of, Atomic_of, Specifyings, No_specifiers, Specifier_then, Naming, Type_of, Declaring, Declaring_of, No_parameters, Fixed_of, Variadic_of, Names_of, Parameters, Row, No_more, Parameter_then, Named_of, Grouping, No_group, Group_of, Deriving, Array_of, Function_of, Derivings, No_derivings, Deriving_then, Bound, Unsized_of, Any_size_of, Sized_of, Static_sized_of, Sized_static_of, Aligned_as_of, Aligned_of, Members_of, Enumerators_of, Member, Bare_of, Fields_of, Asserted_of, Members, No_members, Member_then, Field, Declared_of, Bits_of, Padding_of, Fields, No_fields, Field_then, Enumerator, Counted_of, Given_of, Enumerators, No_enumerators, Enumerator_then, Assertion, Assertion_of}
use Rattle.c_parser.specs.declared.answers.ParseError.{ParseError}
use Rattle.c_parser.specs.declared.answers.ParseError.TheVariants.{Syntax, TooDeep, NoMemory}
use Rattle.c_parser.specs.declared.kinds.Kind.{Kind}
use Rattle.c_parser.specs.declared.kinds.Named.{Named}
use Rattle.c_parser.specs.declared.kinds.Site.{Site}
use Rattle.c_parser.specs.declared.kinds.Site.TheVariants.{OfMember}
use Rattle.c_parser.specs.declared.kinds.Kind.TheVariants.{Identifier, Constant, Text, OpenParen, CloseParen, OpenBracket, CloseBracket, OpenBrace, CloseBrace, Step, Question, Colon, Comma, Generic, OffsetOf, Default, Ellipsis, Tag, Star, Atomic, Static, Align, Assert, Semicolon, Enum}
use Rattle.c_parser.specs.Brackets.{too_deep}
use Rattle.c_parser.specs.Enumerations.{bars}
use Rattle.c_parser.specs.Kinds.{kind_at, level_at, is_prefix, casts_at, is_size, is_word, is_equals, is_dot, is_member, is_type_word, specifies_at, may_name, named_by, grouped, behind_pointers, is_typedef, hide, is_tagging, admits, site_of, names_it, plain_behind}
use Rattle.c_parser.specs.Declarators.{spell_pointers, spell_names, AreQualifiers, AreThere, ArePointers, AreNames, IsWritten, MayDerive, name_of}
use Rattle.c_parser.specs.Levels.{expression, assignment_expression, conditional_expression, logical_OR_expression, unary_expression, postfix_expression, primary_expression, IsBinary, behinds_level, rank}

-- of a comma that may be left out
abbrev pub spell_comma : Option ℕ → List ℕ
spell_comma None = []
spell_comma (Some o) = o ∷ []

-- of a tag that may be left out
abbrev pub spell_tag : Option ℕ → List ℕ
spell_tag None = []
spell_tag (Some n) = n ∷ []

-- the numbers of a tree's tokens, in order
abbrev mutual
  pub spell : Tree → List ℕ
  spell (Name_of n) = n ∷ []
  spell (Constant_of n) = n ∷ []
  spell (Text_of ns) = ns
  spell (Paren_of o t c) = o ∷ (spell t ++ c ∷ [])
  spell (Postfix_of f bs) = spell f ++ spell_behinds bs
  spell (Unary_of fs t) = spell_fronts fs ++ spell t
  spell (Binary_of f bs) = spell f ++ spell_behinds bs
  spell (Conditional_of fs t) = spell_fronts fs ++ spell t
  spell (Assign_of fs t) = spell_fronts fs ++ spell t
  spell (Of_type k o t c) = k ∷ o ∷ (spell_type t ++ c ∷ [])
  spell (Compound_of o t c i) = o ∷ (spell_type t ++ (c ∷ spell_braces i))
  spell (Generic_of k o t gs c) = k ∷ o ∷ (spell t ++ (spell_associations gs ++ c ∷ []))
  spell (Offset_of k o t m n bs c) = k ∷ o ∷ (spell_type t ++ (m ∷ n ∷ (spell_behinds bs ++ c ∷ [])))

  pub spell_behind : Behind → List ℕ
  spell_behind (Operand_of o t) = o ∷ spell t
  spell_behind (Index_of o t c) = o ∷ (spell t ++ c ∷ [])
  spell_behind (Call_of o c) = o ∷ c ∷ []
  spell_behind (Call_with_of o t bs c) = o ∷ (spell t ++ (spell_behinds bs ++ c ∷ []))
  spell_behind (Member_of o n) = o ∷ n ∷ []
  spell_behind (Step_of o) = o ∷ []

  pub spell_behinds : Behinds → List ℕ
  spell_behinds None_behind = []
  spell_behinds (Behind_then b bs) = spell_behind b ++ spell_behinds bs

  pub spell_front : Front → List ℕ
  spell_front (Operator_of o) = o ∷ []
  spell_front (Cast_of o t c) = o ∷ (spell_type t ++ c ∷ [])
  spell_front (Choice_of t q e c) = spell t ++ (q ∷ (spell e ++ c ∷ []))
  spell_front (Left_of t o) = spell t ++ o ∷ []

  pub spell_fronts : Fronts → List ℕ
  spell_fronts None_before = []
  spell_fronts (Front_then f fs) = spell_front f ++ spell_fronts fs

  pub spell_braces : Braces → List ℕ
  spell_braces (Braces_of o p ps t c) = o ∷ (spell_piece p ++ (spell_pieces ps ++ (spell_comma t ++ c ∷ [])))

  pub spell_initial : Initial → List ℕ
  spell_initial (Value_of t) = spell t
  spell_initial (List_of i) = spell_braces i

  pub spell_piece : Piece → List ℕ
  spell_piece (Plain_of i) = spell_initial i
  spell_piece (Designated_of d ds e i) = spell_designator d ++ (spell_designators ds ++ (e ∷ spell_initial i))

  pub spell_pieces : Pieces → List ℕ
  spell_pieces No_pieces = []
  spell_pieces (Piece_then o p ps) = o ∷ (spell_piece p ++ spell_pieces ps)

  pub spell_designator : Designator → List ℕ
  spell_designator (Element_of o t c) = o ∷ (spell t ++ c ∷ [])
  spell_designator (Field_of o n) = o ∷ n ∷ []

  pub spell_designators : Designators → List ℕ
  spell_designators No_designators = []
  spell_designators (Designator_then d ds) = spell_designator d ++ spell_designators ds

  pub spell_association : Association → List ℕ
  spell_association (Typed_of t c e) = spell_type t ++ (c ∷ spell e)
  spell_association (Default_of d c e) = d ∷ c ∷ spell e

  pub spell_associations : Associations → List ℕ
  spell_associations No_associations = []
  spell_associations (Association_then o x xs) = o ∷ (spell_association x ++ spell_associations xs)

  pub spell_specifying : Specifying → List ℕ
  spell_specifying (Word_of n) = n ∷ []
  spell_specifying (Typedef_of n) = n ∷ []
  spell_specifying (Tag_of k n) = k ∷ n ∷ []
  spell_specifying (Atomic_of k o t c) = k ∷ o ∷ (spell_type t ++ c ∷ [])
  spell_specifying (Aligned_as_of k o t c) = k ∷ o ∷ (spell_type t ++ c ∷ [])
  spell_specifying (Aligned_of k o t c) = k ∷ o ∷ (spell t ++ c ∷ [])
  spell_specifying (Members_of k g o ms c) = k ∷ (spell_tag g ++ (o ∷ (spell_members ms ++ c ∷ [])))
  spell_specifying (Enumerators_of k g o e es t c) =
      k ∷ (spell_tag g ++ (o ∷ (spell_enumerator e ++ (spell_enumerators es ++ (spell_comma t ++ c ∷ [])))))

  pub spell_member : Member → List ℕ
  spell_member (Bare_of ss e) = spell_specifyings ss ++ e ∷ []
  spell_member (Fields_of ss f fs e) = spell_specifyings ss ++ (spell_field f ++ (spell_fields fs ++ e ∷ []))
  spell_member (Asserted_of x) = spell_assertion x

  pub spell_members : Members → List ℕ
  spell_members No_members = []
  spell_members (Member_then m ms) = spell_member m ++ spell_members ms

  pub spell_field : Field → List ℕ
  spell_field (Declared_of d) = spell_declaring d
  spell_field (Bits_of d c w) = spell_declaring d ++ (c ∷ spell w)
  spell_field (Padding_of c w) = c ∷ spell w

  pub spell_fields : Fields → List ℕ
  spell_fields No_fields = []
  spell_fields (Field_then o f fs) = o ∷ (spell_field f ++ spell_fields fs)

  pub spell_enumerator : Enumerator → List ℕ
  spell_enumerator (Counted_of n) = n ∷ []
  spell_enumerator (Given_of n q t) = n ∷ q ∷ spell t

  pub spell_enumerators : Enumerators → List ℕ
  spell_enumerators No_enumerators = []
  spell_enumerators (Enumerator_then o e es) = o ∷ (spell_enumerator e ++ spell_enumerators es)

  pub spell_assertion : Assertion → List ℕ
  spell_assertion (Assertion_of k o t m ns c e) = k ∷ o ∷ (spell t ++ (m ∷ (ns ++ (c ∷ e ∷ []))))

  pub spell_specifyings : Specifyings → List ℕ
  spell_specifyings No_specifiers = []
  spell_specifyings (Specifier_then s ss) = spell_specifying s ++ spell_specifyings ss

  pub spell_type : Naming → List ℕ
  spell_type (Type_of ss d) = spell_specifyings ss ++ spell_declaring d

  pub spell_declaring : Declaring → List ℕ
  spell_declaring (Declaring_of ps g ds) = spell_pointers ps ++ (spell_grouping g ++ spell_derivings ds)

  pub spell_grouping : Grouping → List ℕ
  spell_grouping No_group = []
  spell_grouping (Named_of n) = n ∷ []
  spell_grouping (Group_of o d c) = o ∷ (spell_declaring d ++ c ∷ [])

  pub spell_deriving : Deriving → List ℕ
  spell_deriving (Array_of o b c) = o ∷ (spell_bound b ++ c ∷ [])
  spell_deriving (Function_of o ps c) = o ∷ (spell_parameters ps ++ c ∷ [])

  pub spell_parameters : Parameters → List ℕ
  spell_parameters No_parameters = []
  spell_parameters (Fixed_of p ps) = spell_type p ++ spell_row ps
  spell_parameters (Variadic_of p ps m d) = spell_type p ++ (spell_row ps ++ (m ∷ d ∷ []))
  spell_parameters (Names_of n ns) = n ∷ spell_names ns

  pub spell_row : Row → List ℕ
  spell_row No_more = []
  spell_row (Parameter_then o p ps) = o ∷ (spell_type p ++ spell_row ps)

  pub spell_derivings : Derivings → List ℕ
  spell_derivings No_derivings = []
  spell_derivings (Deriving_then d ds) = spell_deriving d ++ spell_derivings ds

  pub spell_bound : Bound → List ℕ
  spell_bound (Unsized_of ns) = ns
  spell_bound (Any_size_of ns n) = ns ++ n ∷ []
  spell_bound (Sized_of ns t) = ns ++ spell t
  spell_bound (Static_sized_of n ns t) = n ∷ (ns ++ spell t)
  spell_bound (Sized_static_of ns n t) = ns ++ (n ∷ spell t)

abbrev pub IsMore : Behinds → Type 0
IsMore None_behind = ⊥
IsMore (Behind_then b bs) = Unit {0}

abbrev pub IsAny : Associations → Type 0
IsAny No_associations = ⊥
IsAny (Association_then o x xs) = Unit {0}

-- what selects within a member: . identifier, or [ expression ]
abbrev pub IsStep : List Kind → Behind → Type 0
IsStep kinds (Operand_of o t) = ⊥
IsStep kinds (Index_of o t c) = Unit {0}
IsStep kinds (Call_of o c) = ⊥
IsStep kinds (Call_with_of o t bs c) = ⊥
IsStep kinds (Member_of o n) = is_dot (kind_at kinds o) ≡ true
IsStep kinds (Step_of o) = ⊥

abbrev pub AreSteps : List Kind → Behinds → Type 0
AreSteps kinds None_behind = Unit {0}
AreSteps kinds (Behind_then b bs) = IsStep kinds b × AreSteps kinds bs

abbrev pub IsBefore : Fronts → Type 0
IsBefore None_before = ⊥
IsBefore (Front_then f fs) = Unit {0}

-- all string literals side by side behind this one, which are one with it (5.1.1.2p1, phase 6)
abbrev pub GoOn : List Kind → ℕ → List ℕ → Type 0
GoOn kinds n [] = kind_at kinds (n + 1) ≡ Text → ⊥
GoOn kinds n (m ∷ ms) = (kind_at kinds m ≡ Text) × GoOn kinds m ms

abbrev pub AreTexts : List Kind → List ℕ → Type 0
AreTexts kinds [] = ⊥
AreTexts kinds (n ∷ ns) = (kind_at kinds n ≡ Text) × GoOn kinds n ns

-- postfix operators may stand behind the tree
abbrev pub goes_on : Tree → Bool
goes_on (Of_type k o t c) = false
goes_on _ = true

abbrev pub IsComma : List Kind → Option ℕ → Type 0
IsComma kinds None = Unit {0}
IsComma kinds (Some o) = kind_at kinds o ≡ Comma

-- a type specifier is among these
abbrev pub has_type : List Kind → Specifying → Bool
has_type kinds (Word_of n) = is_type_word (kind_at kinds n)
has_type kinds (Typedef_of n) = true
has_type kinds (Tag_of k n) = true
has_type kinds (Atomic_of k o t c) = true
has_type kinds (Aligned_as_of k o t c) = false
has_type kinds (Aligned_of k o t c) = false
has_type kinds (Members_of k g o ms c) = true
has_type kinds (Enumerators_of k g o e es t c) = true

-- the token with which a specifier begins
abbrev pub first_in : Specifying → ℕ
first_in (Word_of n) = n
first_in (Typedef_of n) = n
first_in (Tag_of k n) = k
first_in (Atomic_of k o t c) = k
first_in (Aligned_as_of k o t c) = k
first_in (Aligned_of k o t c) = k
first_in (Members_of k g o ms c) = k
first_in (Enumerators_of k g o e es t c) = k

-- each of these may stand here: storage classes, function specifiers and alignments stand where a declaration has them, as a parameter does
-- (6.7.6.3), alignments among a member's too, and none of them in a type's name (6.7.7)
abbrev pub all_admitted : List Kind → Site → Specifyings → Bool
all_admitted kinds site No_specifiers = true
all_admitted kinds site (Specifier_then s ss) = admits site (kind_at kinds (first_in s)) && all_admitted kinds site ss

abbrev pub MayStand : List Kind → Site → Specifyings → Type 0
MayStand kinds site ss = all_admitted kinds site ss ≡ true

-- a type specifier stood before, or is among these
abbrev pub typed_by : List Kind → Bool → Specifyings → Bool
typed_by kinds typed No_specifiers = typed
typed_by kinds typed (Specifier_then s ss) = typed_by kinds (has_type kinds s || typed) ss

-- the name that stands in specifiers and a declarator
abbrev pub name_by : Naming → Option ℕ
name_by (Type_of ss d) = name_of d

-- what the tokens behind a parameter are, up to the end of the list: its name hides a typedef name
abbrev pub past : List Kind → Naming → List Kind
past kinds t = hide kinds (name_by t)

abbrev pub AreSome : Specifyings → Type 0
AreSome No_specifiers = ⊥
AreSome (Specifier_then s ss) = Unit {0}

abbrev pub HasMembers : Members → Type 0
HasMembers No_members = ⊥
HasMembers (Member_then m ms) = Unit {0}

-- a tag may be any identifier (6.2.3)
abbrev pub IsTag : List Kind → Option ℕ → Type 0
IsTag kinds None = Unit {0}
IsTag kinds (Some n) = is_word (kind_at kinds n) ≡ true

-- each part of the tree is what the tree's production has there; `l ≤ rank kinds t` says that t is of the nonterminal l
abbrev mutual
  pub IsFormed : List Kind → Tree → Type 0
  -- 6.5.1 primary-expression : identifier | constant | string-literal | ( expression )
  IsFormed kinds (Name_of n) = kind_at kinds n ≡ Identifier
  IsFormed kinds (Constant_of n) = kind_at kinds n ≡ Constant
  IsFormed kinds (Text_of ns) = AreTexts kinds ns
  IsFormed kinds (Paren_of o t c) =
      (kind_at kinds o ≡ OpenParen)
      × (expression ≤ rank kinds t) × IsFormed kinds t
      × (kind_at kinds c ≡ CloseParen)
  -- 6.5.2 postfix-expression : primary-expression with postfix operators behind it
  IsFormed kinds (Postfix_of f bs) =
      IsMore bs
      × (goes_on f ≡ true)
      × (primary_expression ≤ rank kinds f) × IsFormed kinds f
      × AreBehind kinds postfix_expression bs
  -- 6.5.3 unary-expression, 6.5.4 cast-expression : unary operators and casts in front of a postfix-expression
  IsFormed kinds (Unary_of fs t) =
      IsBefore fs
      × AreInFront kinds unary_expression fs
      × (postfix_expression ≤ rank kinds t) × IsFormed kinds t
  -- 6.5.5 to 6.5.14, 6.5.17 operands of the next nonterminal with operators between them
  IsFormed kinds (Binary_of f bs) =
      IsMore bs
      × IsBinary (behinds_level kinds bs)
      × (behinds_level kinds bs + 1 ≤ rank kinds f) × IsFormed kinds f
      × AreBehind kinds (behinds_level kinds bs) bs
  -- 6.5.15 conditional-expression : logical-OR-expression ? expression : conditional-expression
  IsFormed kinds (Conditional_of fs t) =
      IsBefore fs
      × AreInFront kinds conditional_expression fs
      × (logical_OR_expression ≤ rank kinds t) × IsFormed kinds t
  -- 6.5.16 assignment-expression : unary-expression assignment-operator assignment-expression
  IsFormed kinds (Assign_of fs t) =
      IsBefore fs
      × AreInFront kinds assignment_expression fs
      × (conditional_expression ≤ rank kinds t) × IsFormed kinds t
  -- 6.5.3 sizeof ( type-name ) | _Alignof ( type-name ), where no `{` makes the front of a compound literal of it
  IsFormed kinds (Of_type k o t c) =
      (is_size (kind_at kinds k) ≡ true)
      × (kind_at kinds o ≡ OpenParen)
      × IsNaming kinds false t
      × (kind_at kinds c ≡ CloseParen)
      × (kind_at kinds (c + 1) ≡ OpenBrace → ⊥)
  -- 6.5.2 postfix-expression : ( type-name ) { initializer-list } | ( type-name ) { initializer-list , }
  IsFormed kinds (Compound_of o t c i) =
      (kind_at kinds o ≡ OpenParen)
      × IsNaming kinds false t
      × (kind_at kinds c ≡ CloseParen)
      × AreBraced kinds i
  -- 6.5.1.1 generic-selection : _Generic ( assignment-expression , generic-assoc-list )
  IsFormed kinds (Generic_of k o t gs c) =
      (kind_at kinds k ≡ Generic)
      × (kind_at kinds o ≡ OpenParen)
      × (assignment_expression ≤ rank kinds t) × IsFormed kinds t
      × IsAny gs
      × AreAssociated kinds gs
      × (kind_at kinds c ≡ CloseParen)
  -- __offsetof ( type-name , member-designator ), which `offsetof` stands for (7.19): its member-designator is an identifier,
  -- and . identifier and [ expression ] behind it
  IsFormed kinds (Offset_of k o t m n bs c) =
      (kind_at kinds k ≡ OffsetOf)
      × (kind_at kinds o ≡ OpenParen)
      × IsNaming kinds false t
      × (kind_at kinds m ≡ Comma)
      × (is_word (kind_at kinds n) ≡ true)
      × AreSteps kinds bs
      × AreBehind kinds postfix_expression bs
      × (kind_at kinds c ≡ CloseParen)

  -- what an expression of the nonterminal l goes on with
  pub IsBehind : List Kind → ℕ → Behind → Type 0
  IsBehind kinds l (Operand_of o t) =
      IsBinary l
      × (level_at kinds o ≡ l)
      × (l + 1 ≤ rank kinds t) × IsFormed kinds t
  -- 6.5.2 [ expression ]
  IsBehind kinds l (Index_of o t c) =
      (l ≡ postfix_expression)
      × (kind_at kinds o ≡ OpenBracket)
      × (expression ≤ rank kinds t) × IsFormed kinds t
      × (kind_at kinds c ≡ CloseBracket)
  -- ( argument-expression-list opt ), whose arguments are assignment-expressions with commas between them
  IsBehind kinds l (Call_of o c) =
      (l ≡ postfix_expression)
      × (kind_at kinds o ≡ OpenParen)
      × (kind_at kinds c ≡ CloseParen)
  IsBehind kinds l (Call_with_of o t bs c) =
      (l ≡ postfix_expression)
      × (kind_at kinds o ≡ OpenParen)
      × (assignment_expression ≤ rank kinds t) × IsFormed kinds t
      × AreBehind kinds expression bs
      × (kind_at kinds c ≡ CloseParen)
  -- . identifier | -> identifier
  IsBehind kinds l (Member_of o n) =
      (l ≡ postfix_expression)
      × (is_member (kind_at kinds o) ≡ true)
      × (is_word (kind_at kinds n) ≡ true)
  -- ++ | --
  IsBehind kinds l (Step_of o) =
      (l ≡ postfix_expression)
      × (kind_at kinds o ≡ Step)

  pub AreBehind : List Kind → ℕ → Behinds → Type 0
  AreBehind kinds l None_behind = Unit {0}
  AreBehind kinds l (Behind_then b bs) = IsBehind kinds l b × AreBehind kinds l bs

  -- what an expression of the nonterminal l begins with
  pub IsInFront : List Kind → ℕ → Front → Type 0
  -- 6.5.3 ++ | -- | unary-operator | sizeof
  IsInFront kinds l (Operator_of o) =
      (l ≡ unary_expression)
      × (is_prefix (kind_at kinds o) ≡ true)
  -- 6.5.4 ( type-name ), but not behind ++, -- and sizeof, whose operands are unary-expressions (6.5.3), and not in front
  -- of a `{`, with which no operand begins
  IsInFront kinds l (Cast_of o t c) =
      (l ≡ unary_expression)
      × (kind_at kinds o ≡ OpenParen)
      × (casts_at kinds o ≡ true)
      × IsNaming kinds false t
      × (kind_at kinds c ≡ CloseParen)
      × (kind_at kinds (c + 1) ≡ OpenBrace → ⊥)
  -- 6.5.15 logical-OR-expression ? expression :
  IsInFront kinds l (Choice_of t q e c) =
      (l ≡ conditional_expression)
      × (logical_OR_expression ≤ rank kinds t) × IsFormed kinds t
      × (kind_at kinds q ≡ Question)
      × (expression ≤ rank kinds e) × IsFormed kinds e
      × (kind_at kinds c ≡ Colon)
  -- 6.5.16 unary-expression assignment-operator
  IsInFront kinds l (Left_of t o) =
      (l ≡ assignment_expression)
      × (unary_expression ≤ rank kinds t) × IsFormed kinds t
      × (level_at kinds o ≡ assignment_expression)

  pub AreInFront : List Kind → ℕ → Fronts → Type 0
  AreInFront kinds l None_before = Unit {0}
  AreInFront kinds l (Front_then f fs) = IsInFront kinds l f × AreInFront kinds l fs

  -- 6.7.9 { initializer-list } | { initializer-list , }
  pub AreBraced : List Kind → Braces → Type 0
  AreBraced kinds (Braces_of o p ps t c) =
      (kind_at kinds o ≡ OpenBrace)
      × IsPiece kinds p
      × ArePieces kinds ps
      × IsComma kinds t
      × (kind_at kinds c ≡ CloseBrace)

  -- 6.7.9 initializer : assignment-expression | { initializer-list } | { initializer-list , }
  pub IsInitial : List Kind → Initial → Type 0
  IsInitial kinds (Value_of t) = (assignment_expression ≤ rank kinds t) × IsFormed kinds t
  IsInitial kinds (List_of i) = AreBraced kinds i

  -- 6.7.9 designation opt initializer, where designation : designator-list =
  pub IsPiece : List Kind → Piece → Type 0
  IsPiece kinds (Plain_of i) = IsInitial kinds i
  IsPiece kinds (Designated_of d ds e i) =
      IsDesignator kinds d
      × AreDesignators kinds ds
      × (is_equals (kind_at kinds e) ≡ true)
      × IsInitial kinds i

  -- 6.7.9 initializer-list : initializer-list , designation opt initializer
  pub ArePieces : List Kind → Pieces → Type 0
  ArePieces kinds No_pieces = Unit {0}
  ArePieces kinds (Piece_then o p ps) = (kind_at kinds o ≡ Comma) × IsPiece kinds p × ArePieces kinds ps

  -- 6.7.9 designator : [ constant-expression ] | . identifier
  pub IsDesignator : List Kind → Designator → Type 0
  IsDesignator kinds (Element_of o t c) =
      (kind_at kinds o ≡ OpenBracket)
      × (conditional_expression ≤ rank kinds t) × IsFormed kinds t
      × (kind_at kinds c ≡ CloseBracket)
  IsDesignator kinds (Field_of o n) =
      (is_dot (kind_at kinds o) ≡ true)
      × (is_word (kind_at kinds n) ≡ true)

  pub AreDesignators : List Kind → Designators → Type 0
  AreDesignators kinds No_designators = Unit {0}
  AreDesignators kinds (Designator_then d ds) = IsDesignator kinds d × AreDesignators kinds ds

  -- 6.5.1.1 generic-association : type-name : assignment-expression | default : assignment-expression
  pub IsAssociated : List Kind → Association → Type 0
  IsAssociated kinds (Typed_of t c e) =
      IsNaming kinds false t
      × (kind_at kinds c ≡ Colon)
      × (assignment_expression ≤ rank kinds e) × IsFormed kinds e
  IsAssociated kinds (Default_of d c e) =
      (kind_at kinds d ≡ Default)
      × (kind_at kinds c ≡ Colon)
      × (assignment_expression ≤ rank kinds e) × IsFormed kinds e

  -- 6.5.1.1 generic-assoc-list : generic-association | generic-assoc-list , generic-association
  pub AreAssociated : List Kind → Associations → Type 0
  AreAssociated kinds No_associations = Unit {0}
  AreAssociated kinds (Association_then o x xs) =
      (kind_at kinds o ≡ Comma) × IsAssociated kinds x × AreAssociated kinds xs

  -- 6.7 storage-class-specifier | type-specifier | type-qualifier | function-specifier | alignment-specifier; an identifier is a typedef name
  -- where no type specifier stands before it
  pub IsSpecifying : List Kind → Bool → Specifying → Type 0
  IsSpecifying kinds typed (Word_of n) = specifies_at kinds n ≡ true
  IsSpecifying kinds typed (Typedef_of n) = (typed ≡ false) × (is_typedef (kind_at kinds n) ≡ true)
  -- 6.7.2.1 struct-or-union identifier, 6.7.2.2 enum identifier, where no `{` makes the front of a list in braces of it
  IsSpecifying kinds typed (Tag_of k n) =
      (is_tagging (kind_at kinds k) ≡ true) × (is_word (kind_at kinds n) ≡ true) × (kind_at kinds (n + 1) ≡ OpenBrace → ⊥)
  -- 6.7.2.4 atomic-type-specifier : _Atomic ( type-name )
  IsSpecifying kinds typed (Atomic_of k o t c) =
      (kind_at kinds k ≡ Atomic) × (kind_at kinds o ≡ OpenParen) × IsNaming kinds false t × (kind_at kinds c ≡ CloseParen)
  -- 6.7.5 alignment-specifier : _Alignas ( type-name ) | _Alignas ( constant-expression )
  IsSpecifying kinds typed (Aligned_as_of k o t c) =
      (kind_at kinds k ≡ Align) × (kind_at kinds o ≡ OpenParen) × IsNaming kinds false t × (kind_at kinds c ≡ CloseParen)
  IsSpecifying kinds typed (Aligned_of k o t c) =
      (kind_at kinds k ≡ Align)
      × (kind_at kinds o ≡ OpenParen)
      × (conditional_expression ≤ rank kinds t) × IsFormed kinds t
      × (kind_at kinds c ≡ CloseParen)
  -- 6.7.2.1 struct-or-union-specifier : struct-or-union identifier opt { struct-declaration-list }
  IsSpecifying kinds typed (Members_of k g o ms c) =
      (kind_at kinds k ≡ Tag)
      × IsTag kinds g
      × (kind_at kinds o ≡ OpenBrace)
      × HasMembers ms × AreMembers kinds ms
      × (kind_at kinds c ≡ CloseBrace)
  -- 6.7.2.2 enum-specifier : enum identifier opt { enumerator-list } | enum identifier opt { enumerator-list , }
  IsSpecifying kinds typed (Enumerators_of k g o e es t c) =
      (kind_at kinds k ≡ Enum)
      × IsTag kinds g
      × (kind_at kinds o ≡ OpenBrace)
      × IsEnumerator kinds e
      × AreEnumerators kinds es
      × IsComma kinds t
      × (kind_at kinds c ≡ CloseBrace)

  -- 6.7.2.2 enumerator : enumeration-constant | enumeration-constant = constant-expression; the kinds are those in force where each token stands
  pub IsEnumerator : List Kind → Enumerator → Type 0
  IsEnumerator kinds (Counted_of n) = is_word (kind_at kinds n) ≡ true
  IsEnumerator kinds (Given_of n q t) =
      (is_word (kind_at kinds n) ≡ true)
      × (is_equals (kind_at kinds q) ≡ true)
      × (conditional_expression ≤ rank kinds t) × IsFormed kinds t

  -- enumerator-list : enumerator | enumerator-list , enumerator
  pub AreEnumerators : List Kind → Enumerators → Type 0
  AreEnumerators kinds No_enumerators = Unit {0}
  AreEnumerators kinds (Enumerator_then o e es) = (kind_at kinds o ≡ Comma) × IsEnumerator kinds e × AreEnumerators kinds es

  -- 6.7.2.1 struct-declaration : specifier-qualifier-list struct-declarator-list opt ; | static_assert-declaration; alignments may stand
  -- among its specifiers
  pub IsMember : List Kind → Member → Type 0
  IsMember kinds (Bare_of ss e) =
      AreSome ss × AreSpecifying kinds false ss × MayStand kinds OfMember ss × (kind_at kinds e ≡ Semicolon)
  IsMember kinds (Fields_of ss f fs e) =
      AreSome ss
      × AreSpecifying kinds false ss
      × MayStand kinds OfMember ss
      × IsField kinds (not (typed_by kinds false ss)) f
      × AreFields kinds fs
      × (kind_at kinds e ≡ Semicolon)
  IsMember kinds (Asserted_of x) = IsAsserted kinds x

  -- struct-declaration-list : struct-declaration | struct-declaration-list struct-declaration
  pub AreMembers : List Kind → Members → Type 0
  AreMembers kinds No_members = Unit {0}
  AreMembers kinds (Member_then m ms) = IsMember kinds m × AreMembers kinds ms

  -- struct-declarator : declarator | declarator opt : constant-expression; a member's name hides no typedef name (6.2.3)
  pub IsField : List Kind → Bool → Field → Type 0
  IsField kinds plain (Declared_of d) = IsDeclarator kinds plain d
  IsField kinds plain (Bits_of d c w) =
      IsDeclarator kinds plain d
      × (kind_at kinds c ≡ Colon)
      × (conditional_expression ≤ rank kinds w) × IsFormed kinds w
  IsField kinds plain (Padding_of c w) =
      (kind_at kinds c ≡ Colon) × (conditional_expression ≤ rank kinds w) × IsFormed kinds w

  -- struct-declarator-list : struct-declarator | struct-declarator-list , struct-declarator
  pub AreFields : List Kind → Fields → Type 0
  AreFields kinds No_fields = Unit {0}
  AreFields kinds (Field_then o f fs) = (kind_at kinds o ≡ Comma) × IsField kinds false f × AreFields kinds fs

  -- 6.7.10 static_assert-declaration : _Static_assert ( constant-expression , string-literal ) ;
  pub IsAsserted : List Kind → Assertion → Type 0
  IsAsserted kinds (Assertion_of k o t m ns c e) =
      (kind_at kinds k ≡ Assert)
      × (kind_at kinds o ≡ OpenParen)
      × (conditional_expression ≤ rank kinds t) × IsFormed kinds t
      × (kind_at kinds m ≡ Comma)
      × AreTexts kinds ns
      × (kind_at kinds c ≡ CloseParen)
      × (kind_at kinds e ≡ Semicolon)

  -- 6.7.6 declarator : pointer opt direct-declarator, in which a name stands; `plain` says that a typedef name isn't the name here
  pub IsDeclarator : List Kind → Bool → Declaring → Type 0
  IsDeclarator kinds plain (Declaring_of ps g ds) =
      ArePointers kinds ps × IsDirect kinds (plain_behind plain ps) g × AreDerived kinds ds

  -- direct-declarator : identifier | ( declarator )
  pub IsDirect : List Kind → Bool → Grouping → Type 0
  IsDirect kinds plain No_group = ⊥
  IsDirect kinds plain (Named_of n) = names_it plain (kind_at kinds n) ≡ true
  IsDirect kinds plain (Group_of o d c) =
      (kind_at kinds o ≡ OpenParen) × IsDeclarator kinds false d × (kind_at kinds c ≡ CloseParen)

  pub AreSpecifying : List Kind → Bool → Specifyings → Type 0
  AreSpecifying kinds typed No_specifiers = Unit {0}
  AreSpecifying kinds typed (Specifier_then s ss) =
      IsSpecifying kinds typed s × AreSpecifying kinds (has_type kinds s || typed) ss

  -- 6.7.7 type-name : specifier-qualifier-list abstract-declarator opt
  -- 6.7.6 parameter-declaration : declaration-specifiers declarator | declaration-specifiers abstract-declarator opt; `named` says
  -- whether a name may be declared
  pub IsNaming : List Kind → Bool → Naming → Type 0
  IsNaming kinds named (Type_of ss d) =
      AreSome ss
      × AreSpecifying kinds false ss
      × IsDeclaring kinds (named_by named (typed_by kinds false ss)) d
      × MayStand kinds (site_of named) ss

  -- 6.7.7 abstract-declarator : pointer | pointer opt direct-abstract-declarator, each part left out or there
  pub IsDeclaring : List Kind → Named → Declaring → Type 0
  IsDeclaring kinds named (Declaring_of ps g ds) =
      ArePointers kinds ps × IsGrouping kinds (behind_pointers named ps) g × AreDerived kinds ds × MayDerive g ds

  -- 6.7.7 direct-abstract-declarator : ( abstract-declarator ), in which something stands
  pub IsGrouping : List Kind → Named → Grouping → Type 0
  IsGrouping kinds named No_group = Unit {0}
  -- 6.7.6 direct-declarator : identifier | ( declarator )
  IsGrouping kinds named (Named_of n) = may_name named (kind_at kinds n) ≡ true
  IsGrouping kinds named (Group_of o d c) =
      (kind_at kinds o ≡ OpenParen) × IsWritten d × IsDeclaring kinds (grouped named) d × (kind_at kinds c ≡ CloseParen)

  pub IsDerived : List Kind → Deriving → Type 0
  -- 6.7.7 direct-abstract-declarator opt [ .. ]
  IsDerived kinds (Array_of o b c) =
      (kind_at kinds o ≡ OpenBracket) × IsBound kinds b × (kind_at kinds c ≡ CloseBracket)
  -- direct-abstract-declarator opt ( parameter-type-list opt ), 6.7.6 direct-declarator ( identifier-list ); so far no enumerator in it hides
  -- a typedef name, which it would do up to its end alone (6.2.1p4)
  IsDerived kinds (Function_of o ps c) =
      (kind_at kinds o ≡ OpenParen) × AreParameters kinds ps × (kind_at kinds c ≡ CloseParen) × (bars kinds o c ≡ false)

  -- 6.7.6 parameter-type-list : parameter-list | parameter-list , ...
  pub AreParameters : List Kind → Parameters → Type 0
  AreParameters kinds No_parameters = Unit {0}
  AreParameters kinds (Fixed_of p ps) = IsNaming kinds true p × AreMore (past kinds p) ps
  AreParameters kinds (Variadic_of p ps m d) =
      IsNaming kinds true p × AreMore (past kinds p) ps × (kind_at kinds m ≡ Comma) × (kind_at kinds d ≡ Ellipsis)
  -- 6.7.6 direct-declarator ( identifier-list ), whose identifiers are no typedef names; `MayDerive` has it behind a name alone
  AreParameters kinds (Names_of n ns) = (kind_at kinds n ≡ Identifier) × AreNames kinds ns

  -- 6.7.6 parameter-list : parameter-declaration | parameter-list , parameter-declaration
  pub AreMore : List Kind → Row → Type 0
  AreMore kinds No_more = Unit {0}
  AreMore kinds (Parameter_then o p ps) = (kind_at kinds o ≡ Comma) × IsNaming kinds true p × AreMore (past kinds p) ps

  pub AreDerived : List Kind → Derivings → Type 0
  AreDerived kinds No_derivings = Unit {0}
  AreDerived kinds (Deriving_then d ds) = IsDerived kinds d × AreDerived kinds ds

  pub IsBound : List Kind → Bound → Type 0
  -- 6.7.7 [ type-qualifier-list opt assignment-expression opt ]
  IsBound kinds (Unsized_of ns) = AreQualifiers kinds ns
  IsBound kinds (Sized_of ns t) = AreQualifiers kinds ns × (assignment_expression ≤ rank kinds t) × IsFormed kinds t
  -- [ static type-qualifier-list opt assignment-expression ]
  IsBound kinds (Static_sized_of n ns t) =
      (kind_at kinds n ≡ Static)
      × AreQualifiers kinds ns
      × (assignment_expression ≤ rank kinds t) × IsFormed kinds t
  -- [ type-qualifier-list static assignment-expression ]
  IsBound kinds (Sized_static_of ns n t) =
      AreThere ns
      × AreQualifiers kinds ns
      × (kind_at kinds n ≡ Static)
      × (assignment_expression ≤ rank kinds t) × IsFormed kinds t
  -- [ * ], and behind a name 6.7.6 [ type-qualifier-list opt * ]: `MayDerive` has the qualifiers there alone
  IsBound kinds (Any_size_of ns n) = AreQualifiers kinds ns × (kind_at kinds n ≡ Star)

-- 6.7.7 type-name
abbrev pub IsType : List Kind → Naming → Type 0
IsType kinds t = IsNaming kinds false t

-- the tree is of the nonterminal n
abbrev pub Proper : List Kind → ℕ → Tree → Type 0
Proper kinds n t = (n ≤ rank kinds t) × IsFormed kinds t

-- so many numbers from this one on
abbrev pub numbers : ℕ → ℕ → List ℕ
numbers from zero = []
numbers from (suc n) = from ∷ numbers (from + 1) n

-- a proper tree that spells tokens of these kinds, all of them
pub record IsExpression (kinds : List Kind) (t : Tree) : Type 0 where
  pub proper : Proper kinds expression t
  pub spells : spell t ≡ numbers 0 (length kinds)

-- the tokens mean this tree and no other
pub record IsMeaning (kinds : List Kind) (t : Tree) : Type 0 where
  pub shallow : too_deep kinds ≡ None
  pub proper : IsExpression kinds t
  pub only : (u : Tree) → IsExpression kinds u → t ≡ u

-- why there is no tree: brackets nest too deep, which is looked for first, or no proper tree spells the tokens
abbrev pub IsCause : List Kind → ParseError → Type 0
IsCause kinds (Syntax at) = (at ≡ 0) × (too_deep kinds ≡ None) × ((u : Tree) → IsExpression kinds u → ⊥)
IsCause kinds (TooDeep at) = too_deep kinds ≡ Some at
IsCause kinds NoMemory = Unit {0}

-- unique reading: no two trees of the grammar spell the same tokens
abbrev pub ReadingIsUnique : Type 0
ReadingIsUnique = (kinds : List Kind) → (t u : Tree) → IsExpression kinds t → IsExpression kinds u → t ≡ u
