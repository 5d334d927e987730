-- A proper tree by the place at which its tokens begin and the place behind them, which is what the parser reads.
use Rattle.std.specs.Prelude.{◌≡◌, ℕ, ◌+◌, ◌<◌, ◌≤◌, ◌||◌, Bool, not, List, [], ◌∷◌, length, Option, None, Result, Ok, Err, Some, true, false}
use Rattle.tree_data.specs.Trees.{Tree, Name_of, Constant_of, Text_of, Paren_of, Postfix_of, Unary_of, Binary_of, Conditional_of, Assign_of, Of_type, Compound_of, Behind, Operand_of, Index_of, Call_of, Call_with_of, Member_of, Step_of, Behinds, None_behind, Behind_then, Front, Operator_of, Cast_of, Choice_of, Left_of, Fronts, None_before, Front_then, Braces, Braces_of, Initial, Value_of, List_of, Piece, Plain_of, Designated_of, Pieces, No_pieces, Piece_then, Designator, Element_of, Field_of, Designators, No_designators, Designator_then, Generic_of, Offset_of, Association, Typed_of, Default_of, Associations, No_associations, Association_then, Specifying, Word_of, Typedef_of, Tag_of, Atomic_of, Specifyings, No_specifiers, Specifier_then, Naming, Type_of, Declaring, Declaring_of, No_parameters, Fixed_of, Variadic_of, Names_of, Parameters, Row, No_more, Parameter_then, Named_of, Grouping, No_group, Group_of, Deriving, Array_of, Function_of, Derivings, No_derivings, Deriving_then, Bound, Unsized_of, Any_size_of, Sized_of, Static_sized_of, Sized_static_of, Aligned_as_of, Aligned_of, Members_of, Enumerators_of, Member, Bare_of, Fields_of, Asserted_of, Members, No_members, Member_then, Field, Declared_of, Bits_of, Padding_of, Fields, No_fields, Field_then, Enumerator, Counted_of, Given_of, Enumerators, No_enumerators, Enumerator_then, Assertion, Assertion_of}
use Rattle.c_parser.specs.declared.answers.ParseError.{ParseError}
use Rattle.c_parser.specs.declared.answers.ParseError.TheVariants as told
use Rattle.c_parser.specs.declared.answers.Stop.{Stop}
use Rattle.c_parser.specs.declared.answers.Stop.TheVariants.{Syntax, NoMemory}
use Rattle.c_parser.specs.declared.kinds.Kind.{Kind}
use Rattle.c_parser.specs.declared.kinds.Kind.TheVariants.{Identifier, Constant, Text, OpenParen, CloseParen, OpenBracket, CloseBracket, OpenBrace, CloseBrace, Step, Question, Colon, Comma, Generic, OffsetOf, Default, Ellipsis, Tag, Star, Atomic, Static, Align, Assert, Semicolon, Enum}
use Rattle.c_parser.specs.Brackets.{too_deep}
use Rattle.c_parser.specs.Enumerations.{bars}
use Rattle.c_parser.specs.Grammar.{IsMore, IsAny, IsBefore, AreSteps, goes_on, has_type, AreSome, MayStand, typed_by, past, HasMembers}
use Rattle.c_parser.specs.Kinds.{kind_at, level_at, is_prefix, casts_at, is_size, is_word, is_equals, is_dot, is_member, specifies_at, qualifies_at, may_name, named_by, grouped, behind_pointers, is_typedef, is_tagging, site_of, names_it, plain_behind}
use Rattle.c_parser.specs.Declarators.{AreThere, IsWritten, MayDerive}
use Rattle.c_parser.specs.Levels.{IsBinary, behinds_level, rank}
use Rattle.c_parser.specs.declared.kinds.Named.{Named}
use Rattle.c_parser.specs.declared.kinds.Site.TheVariants.{OfMember}

abbrev pub HoldTexts : List Kind → List ℕ → ℕ → ℕ → Type 0
HoldTexts ks [] a b = (b ≡ a) × (kind_at ks a ≡ Text → ⊥)
HoldTexts ks (n ∷ ns) a b = (n ≡ a) × (kind_at ks a ≡ Text) × HoldTexts ks ns (a + 1) b

-- a comma that may be left out
abbrev pub HoldsComma : List Kind → Option ℕ → ℕ → ℕ → Type 0
HoldsComma ks None a b = b ≡ a
HoldsComma ks (Some o) a b = (o ≡ a) × (kind_at ks a ≡ Comma) × (b ≡ a + 1)

abbrev pub HoldQualifiers : List Kind → List ℕ → ℕ → ℕ → Type 0
HoldQualifiers ks [] a b = b ≡ a
HoldQualifiers ks (n ∷ ns) a b = (n ≡ a) × (qualifies_at ks a ≡ true) × HoldQualifiers ks ns (a + 1) b

abbrev pub HoldNames : List Kind → List (ℕ × ℕ) → ℕ → ℕ → Type 0
HoldNames ks [] a b = b ≡ a
HoldNames ks (p ∷ ps) a b =
    (p.0 ≡ a) × (kind_at ks a ≡ Comma) × (p.1 ≡ a + 1) × (kind_at ks (a + 1) ≡ Identifier) × HoldNames ks ps ((a + 1) + 1) b

abbrev pub HoldPointers : List Kind → List (ℕ × List ℕ) → ℕ → ℕ → Type 0
HoldPointers ks [] a b = b ≡ a
HoldPointers ks (p ∷ ps) a b =
    (m : ℕ) × (p.0 ≡ a) × (kind_at ks a ≡ Star) × HoldQualifiers ks p.1 (a + 1) m × HoldPointers ks ps m b

-- a tag that may be left out
abbrev pub HoldsTag : List Kind → Option ℕ → ℕ → ℕ → Type 0
HoldsTag ks None a b = b ≡ a
HoldsTag ks (Some n) a b = (n ≡ a) × (is_word (kind_at ks a) ≡ true) × (b ≡ a + 1)

abbrev mutual
  pub Holds : List Kind → Tree → ℕ → ℕ → Type 0
  Holds ks (Name_of n) a b = (n ≡ a) × (kind_at ks a ≡ Identifier) × (b ≡ a + 1)
  Holds ks (Constant_of n) a b = (n ≡ a) × (kind_at ks a ≡ Constant) × (b ≡ a + 1)
  Holds ks (Text_of ns) a b = (kind_at ks a ≡ Text) × HoldTexts ks ns a b
  Holds ks (Paren_of o t c) a b =
      (o ≡ a) × (kind_at ks a ≡ OpenParen)
      × (1 ≤ rank ks t) × Holds ks t (a + 1) c
      × (kind_at ks c ≡ CloseParen) × (b ≡ c + 1)
  Holds ks (Postfix_of f bs) a b =
      (m : ℕ) × IsMore bs × (17 ≤ rank ks f) × Holds ks f a m × HoldBehinds ks 16 bs m b × (goes_on f ≡ true)
  Holds ks (Unary_of fs t) a b =
      (m : ℕ) × IsBefore fs × HoldFronts ks 15 fs a m × (16 ≤ rank ks t) × Holds ks t m b
  Holds ks (Binary_of f bs) a b =
      (m : ℕ) × IsMore bs × IsBinary (behinds_level ks bs)
      × (behinds_level ks bs + 1 ≤ rank ks f) × Holds ks f a m
      × HoldBehinds ks (behinds_level ks bs) bs m b
  Holds ks (Conditional_of fs t) a b =
      (m : ℕ) × IsBefore fs × HoldFronts ks 3 fs a m × (4 ≤ rank ks t) × Holds ks t m b
  Holds ks (Assign_of fs t) a b =
      (m : ℕ) × IsBefore fs × HoldFronts ks 2 fs a m × (3 ≤ rank ks t) × Holds ks t m b
  Holds ks (Of_type k o t c) a b =
      (k ≡ a) × (is_size (kind_at ks a) ≡ true)
      × (o ≡ a + 1) × (kind_at ks o ≡ OpenParen)
      × HoldsNaming ks false t (o + 1) c
      × (kind_at ks c ≡ CloseParen) × (b ≡ c + 1)
      × (kind_at ks b ≡ OpenBrace → ⊥)
  Holds ks (Compound_of o t c i) a b =
      (o ≡ a) × (kind_at ks a ≡ OpenParen)
      × HoldsNaming ks false t (a + 1) c
      × (kind_at ks c ≡ CloseParen)
      × HoldBraces ks i (c + 1) b
  Holds ks (Generic_of k o t gs c) a b =
      (m : ℕ) × (k ≡ a) × (kind_at ks a ≡ Generic) × (o ≡ a + 1) × (kind_at ks o ≡ OpenParen)
      × (2 ≤ rank ks t) × Holds ks t (o + 1) m
      × IsAny gs × HoldAssociations ks gs m c
      × (kind_at ks c ≡ CloseParen) × (b ≡ c + 1)
  Holds ks (Offset_of k o t m n bs c) a b =
      (k ≡ a) × (kind_at ks a ≡ OffsetOf) × (o ≡ a + 1) × (kind_at ks o ≡ OpenParen)
      × HoldsNaming ks false t (o + 1) m
      × (kind_at ks m ≡ Comma) × (n ≡ m + 1) × (is_word (kind_at ks n) ≡ true)
      × AreSteps ks bs × HoldBehinds ks 16 bs (n + 1) c
      × (kind_at ks c ≡ CloseParen) × (b ≡ c + 1)

  pub HoldsBehind : List Kind → ℕ → Behind → ℕ → ℕ → Type 0
  HoldsBehind ks l (Operand_of o t) a b =
      IsBinary l × (o ≡ a) × (level_at ks a ≡ l) × (l + 1 ≤ rank ks t) × Holds ks t (a + 1) b
  HoldsBehind ks l (Index_of o t c) a b =
      (l ≡ 16) × (o ≡ a) × (kind_at ks a ≡ OpenBracket)
      × (1 ≤ rank ks t) × Holds ks t (a + 1) c
      × (kind_at ks c ≡ CloseBracket) × (b ≡ c + 1)
  HoldsBehind ks l (Call_of o c) a b =
      (l ≡ 16) × (o ≡ a) × (kind_at ks a ≡ OpenParen) × (c ≡ a + 1) × (kind_at ks c ≡ CloseParen) × (b ≡ c + 1)
  HoldsBehind ks l (Call_with_of o t bs c) a b =
      (m : ℕ) × (l ≡ 16) × (o ≡ a) × (kind_at ks a ≡ OpenParen)
      × (2 ≤ rank ks t) × Holds ks t (a + 1) m
      × HoldBehinds ks 1 bs m c
      × (kind_at ks c ≡ CloseParen) × (b ≡ c + 1)
  HoldsBehind ks l (Member_of o n) a b =
      (l ≡ 16) × (o ≡ a) × (is_member (kind_at ks a) ≡ true) × (n ≡ a + 1) × (is_word (kind_at ks n) ≡ true) × (b ≡ n + 1)
  HoldsBehind ks l (Step_of o) a b = (l ≡ 16) × (o ≡ a) × (kind_at ks a ≡ Step) × (b ≡ a + 1)

  pub HoldBehinds : List Kind → ℕ → Behinds → ℕ → ℕ → Type 0
  HoldBehinds ks l None_behind a b = b ≡ a
  HoldBehinds ks l (Behind_then x xs) a b = (m : ℕ) × HoldsBehind ks l x a m × HoldBehinds ks l xs m b

  pub HoldsFront : List Kind → ℕ → Front → ℕ → ℕ → Type 0
  HoldsFront ks l (Operator_of o) a b =
      (l ≡ 15) × (o ≡ a) × (is_prefix (kind_at ks a) ≡ true) × (b ≡ a + 1)
  HoldsFront ks l (Cast_of o t c) a b =
      (l ≡ 15) × (o ≡ a) × (kind_at ks a ≡ OpenParen) × (casts_at ks a ≡ true)
      × HoldsNaming ks false t (a + 1) c
      × (kind_at ks c ≡ CloseParen) × (b ≡ c + 1)
      × (kind_at ks b ≡ OpenBrace → ⊥)
  HoldsFront ks l (Choice_of t q e c) a b =
      (l ≡ 3) × (4 ≤ rank ks t) × Holds ks t a q × (kind_at ks q ≡ Question)
      × (1 ≤ rank ks e) × Holds ks e (q + 1) c
      × (kind_at ks c ≡ Colon) × (b ≡ c + 1)
  HoldsFront ks l (Left_of t o) a b =
      (l ≡ 2) × (15 ≤ rank ks t) × Holds ks t a o × (level_at ks o ≡ 2) × (b ≡ o + 1)

  pub HoldFronts : List Kind → ℕ → Fronts → ℕ → ℕ → Type 0
  HoldFronts ks l None_before a b = b ≡ a
  HoldFronts ks l (Front_then x xs) a b = (m : ℕ) × HoldsFront ks l x a m × HoldFronts ks l xs m b

  pub HoldBraces : List Kind → Braces → ℕ → ℕ → Type 0
  HoldBraces ks (Braces_of o p ps t c) a b =
      (m : ℕ) × (k : ℕ) × (o ≡ a) × (kind_at ks a ≡ OpenBrace)
      × HoldsPiece ks p (a + 1) m
      × HoldPieces ks ps m k
      × HoldsComma ks t k c
      × (kind_at ks c ≡ CloseBrace) × (b ≡ c + 1)

  pub HoldsInitial : List Kind → Initial → ℕ → ℕ → Type 0
  HoldsInitial ks (Value_of t) a b = (2 ≤ rank ks t) × Holds ks t a b
  HoldsInitial ks (List_of i) a b = HoldBraces ks i a b

  pub HoldsPiece : List Kind → Piece → ℕ → ℕ → Type 0
  HoldsPiece ks (Plain_of i) a b = HoldsInitial ks i a b
  HoldsPiece ks (Designated_of d ds e i) a b =
      (m : ℕ) × HoldsDesignator ks d a m × HoldDesignators ks ds m e
      × (is_equals (kind_at ks e) ≡ true)
      × HoldsInitial ks i (e + 1) b

  pub HoldPieces : List Kind → Pieces → ℕ → ℕ → Type 0
  HoldPieces ks No_pieces a b = b ≡ a
  HoldPieces ks (Piece_then o p ps) a b =
      (m : ℕ) × (o ≡ a) × (kind_at ks a ≡ Comma) × HoldsPiece ks p (a + 1) m × HoldPieces ks ps m b

  pub HoldsDesignator : List Kind → Designator → ℕ → ℕ → Type 0
  HoldsDesignator ks (Element_of o t c) a b =
      (o ≡ a) × (kind_at ks a ≡ OpenBracket)
      × (3 ≤ rank ks t) × Holds ks t (a + 1) c
      × (kind_at ks c ≡ CloseBracket) × (b ≡ c + 1)
  HoldsDesignator ks (Field_of o n) a b =
      (o ≡ a) × (is_dot (kind_at ks a) ≡ true) × (n ≡ a + 1) × (is_word (kind_at ks n) ≡ true) × (b ≡ n + 1)

  pub HoldDesignators : List Kind → Designators → ℕ → ℕ → Type 0
  HoldDesignators ks No_designators a b = b ≡ a
  HoldDesignators ks (Designator_then d ds) a b = (m : ℕ) × HoldsDesignator ks d a m × HoldDesignators ks ds m b

  pub HoldsAssociation : List Kind → Association → ℕ → ℕ → Type 0
  HoldsAssociation ks (Typed_of t c e) a b =
      HoldsNaming ks false t a c × (kind_at ks c ≡ Colon) × (2 ≤ rank ks e) × Holds ks e (c + 1) b
  HoldsAssociation ks (Default_of d c e) a b =
      (d ≡ a) × (kind_at ks a ≡ Default) × (c ≡ a + 1) × (kind_at ks c ≡ Colon)
      × (2 ≤ rank ks e) × Holds ks e (c + 1) b

  pub HoldAssociations : List Kind → Associations → ℕ → ℕ → Type 0
  HoldAssociations ks No_associations a b = b ≡ a
  HoldAssociations ks (Association_then o x xs) a b =
      (m : ℕ) × (o ≡ a) × (kind_at ks a ≡ Comma) × HoldsAssociation ks x (a + 1) m × HoldAssociations ks xs m b

  pub HoldSpecifying : List Kind → Bool → Specifying → ℕ → ℕ → Type 0
  HoldSpecifying ks typed (Word_of n) a b = (n ≡ a) × (specifies_at ks a ≡ true) × (b ≡ a + 1)
  HoldSpecifying ks typed (Typedef_of n) a b = (n ≡ a) × (typed ≡ false) × (is_typedef (kind_at ks a) ≡ true) × (b ≡ a + 1)
  HoldSpecifying ks typed (Tag_of k n) a b =
      (k ≡ a) × (is_tagging (kind_at ks a) ≡ true) × (n ≡ a + 1) × (is_word (kind_at ks n) ≡ true) × (b ≡ n + 1)
      × (kind_at ks b ≡ OpenBrace → ⊥)
  HoldSpecifying ks typed (Atomic_of k o t c) a b =
      (k ≡ a) × (kind_at ks a ≡ Atomic) × (o ≡ a + 1) × (kind_at ks o ≡ OpenParen)
      × HoldsNaming ks false t (o + 1) c × (kind_at ks c ≡ CloseParen) × (b ≡ c + 1)
  HoldSpecifying ks typed (Aligned_as_of k o t c) a b =
      (k ≡ a) × (kind_at ks a ≡ Align) × (o ≡ a + 1) × (kind_at ks o ≡ OpenParen)
      × HoldsNaming ks false t (o + 1) c × (kind_at ks c ≡ CloseParen) × (b ≡ c + 1)
  HoldSpecifying ks typed (Aligned_of k o t c) a b =
      (k ≡ a) × (kind_at ks a ≡ Align) × (o ≡ a + 1) × (kind_at ks o ≡ OpenParen)
      × (3 ≤ rank ks t) × Holds ks t (o + 1) c × (kind_at ks c ≡ CloseParen) × (b ≡ c + 1)
  HoldSpecifying ks typed (Members_of k g o ms c) a b =
      (k ≡ a) × (kind_at ks a ≡ Tag) × HoldsTag ks g (a + 1) o × (kind_at ks o ≡ OpenBrace)
      × HasMembers ms × HoldMembers ks ms (o + 1) c × (kind_at ks c ≡ CloseBrace) × (b ≡ c + 1)
  HoldSpecifying ks typed (Enumerators_of k g o e es t c) a b =
      (m : ℕ) × (n : ℕ) × (k ≡ a) × (kind_at ks a ≡ Enum) × HoldsTag ks g (a + 1) o × (kind_at ks o ≡ OpenBrace)
      × HoldsEnumerator ks e (o + 1) m × HoldEnumerators ks es m n × HoldsComma ks t n c × (kind_at ks c ≡ CloseBrace) × (b ≡ c + 1)

  pub HoldsEnumerator : List Kind → Enumerator → ℕ → ℕ → Type 0
  HoldsEnumerator ks (Counted_of n) a b = (n ≡ a) × (is_word (kind_at ks a) ≡ true) × (b ≡ a + 1)
  HoldsEnumerator ks (Given_of n q t) a b =
      (n ≡ a) × (is_word (kind_at ks a) ≡ true) × (q ≡ a + 1) × (is_equals (kind_at ks q) ≡ true) × (3 ≤ rank ks t) × Holds ks t (q + 1) b

  pub HoldEnumerators : List Kind → Enumerators → ℕ → ℕ → Type 0
  HoldEnumerators ks No_enumerators a b = b ≡ a
  HoldEnumerators ks (Enumerator_then o e es) a b =
      (m : ℕ) × (o ≡ a) × (kind_at ks a ≡ Comma) × HoldsEnumerator ks e (a + 1) m × HoldEnumerators ks es m b

  pub HoldsMember : List Kind → Member → ℕ → ℕ → Type 0
  HoldsMember ks (Bare_of ss e) a b =
      AreSome ss × HoldSpecifyings ks false ss a e × MayStand ks OfMember ss × (kind_at ks e ≡ Semicolon) × (b ≡ e + 1)
  HoldsMember ks (Fields_of ss f fs e) a b =
      (m : ℕ) × (n : ℕ) × AreSome ss × HoldSpecifyings ks false ss a m × MayStand ks OfMember ss
      × HoldsField ks (not (typed_by ks false ss)) f m n × HoldFields ks fs n e
      × (kind_at ks e ≡ Semicolon) × (b ≡ e + 1)
  HoldsMember ks (Asserted_of x) a b = HoldsAssertion ks x a b

  pub HoldMembers : List Kind → Members → ℕ → ℕ → Type 0
  HoldMembers ks No_members a b = b ≡ a
  HoldMembers ks (Member_then x xs) a b = (m : ℕ) × HoldsMember ks x a m × HoldMembers ks xs m b

  pub HoldsField : List Kind → Bool → Field → ℕ → ℕ → Type 0
  HoldsField ks plain (Declared_of d) a b = HoldsDeclarator ks plain d a b
  HoldsField ks plain (Bits_of d c w) a b =
      HoldsDeclarator ks plain d a c × (kind_at ks c ≡ Colon) × (3 ≤ rank ks w) × Holds ks w (c + 1) b
  HoldsField ks plain (Padding_of c w) a b = (c ≡ a) × (kind_at ks a ≡ Colon) × (3 ≤ rank ks w) × Holds ks w (a + 1) b

  pub HoldFields : List Kind → Fields → ℕ → ℕ → Type 0
  HoldFields ks No_fields a b = b ≡ a
  HoldFields ks (Field_then o f fs) a b =
      (m : ℕ) × (o ≡ a) × (kind_at ks a ≡ Comma) × HoldsField ks false f (a + 1) m × HoldFields ks fs m b

  pub HoldsAssertion : List Kind → Assertion → ℕ → ℕ → Type 0
  HoldsAssertion ks (Assertion_of k o t c ns p e) a b =
      (k ≡ a) × (kind_at ks a ≡ Assert) × (o ≡ a + 1) × (kind_at ks o ≡ OpenParen)
      × (3 ≤ rank ks t) × Holds ks t (o + 1) c × (kind_at ks c ≡ Comma)
      × (c + 1 < p) × HoldTexts ks ns (c + 1) p × (kind_at ks p ≡ CloseParen)
      × (e ≡ p + 1) × (kind_at ks e ≡ Semicolon) × (b ≡ e + 1)

  pub HoldsDeclarator : List Kind → Bool → Declaring → ℕ → ℕ → Type 0
  HoldsDeclarator ks plain (Declaring_of ps g ds) a b =
      (m : ℕ) × (n : ℕ) × HoldPointers ks ps a m × HoldsDirect ks (plain_behind plain ps) g m n × HoldDerivings ks ds n b

  pub HoldsDirect : List Kind → Bool → Grouping → ℕ → ℕ → Type 0
  HoldsDirect ks plain No_group a b = ⊥
  HoldsDirect ks plain (Named_of n) a b = (n ≡ a) × (names_it plain (kind_at ks a) ≡ true) × (b ≡ a + 1)
  HoldsDirect ks plain (Group_of o d c) a b =
      (o ≡ a) × (kind_at ks a ≡ OpenParen) × HoldsDeclarator ks false d (a + 1) c × (kind_at ks c ≡ CloseParen) × (b ≡ c + 1)

  pub HoldSpecifyings : List Kind → Bool → Specifyings → ℕ → ℕ → Type 0
  HoldSpecifyings ks typed No_specifiers a b = b ≡ a
  HoldSpecifyings ks typed (Specifier_then s ss) a b =
      (m : ℕ) × HoldSpecifying ks typed s a m × HoldSpecifyings ks (has_type ks s || typed) ss m b

  pub HoldsNaming : List Kind → Bool → Naming → ℕ → ℕ → Type 0
  HoldsNaming ks named (Type_of ss d) a b =
      (m : ℕ) × AreSome ss × HoldSpecifyings ks false ss a m × HoldsDeclaring ks (named_by named (typed_by ks false ss)) d m b
      × MayStand ks (site_of named) ss

  pub HoldsDeclaring : List Kind → Named → Declaring → ℕ → ℕ → Type 0
  HoldsDeclaring ks named (Declaring_of ps g ds) a b =
      (m : ℕ) × (n : ℕ) × HoldPointers ks ps a m × HoldsGrouping ks (behind_pointers named ps) g m n × HoldDerivings ks ds n b × MayDerive g ds

  pub HoldsGrouping : List Kind → Named → Grouping → ℕ → ℕ → Type 0
  HoldsGrouping ks named No_group a b = b ≡ a
  HoldsGrouping ks named (Named_of n) a b = (n ≡ a) × (may_name named (kind_at ks a) ≡ true) × (b ≡ a + 1)
  HoldsGrouping ks named (Group_of o d c) a b =
      (o ≡ a) × (kind_at ks a ≡ OpenParen) × IsWritten d × HoldsDeclaring ks (grouped named) d (a + 1) c
      × (kind_at ks c ≡ CloseParen) × (b ≡ c + 1)

  pub HoldsDeriving : List Kind → Deriving → ℕ → ℕ → Type 0
  HoldsDeriving ks (Array_of o x c) a b =
      (o ≡ a) × (kind_at ks a ≡ OpenBracket) × HoldsBound ks x (a + 1) c × (kind_at ks c ≡ CloseBracket) × (b ≡ c + 1)
  HoldsDeriving ks (Function_of o ps c) a b =
      (o ≡ a) × (kind_at ks a ≡ OpenParen) × HoldParameters ks ps (a + 1) c × (kind_at ks c ≡ CloseParen) × (b ≡ c + 1)
      × (bars ks o c ≡ false)

  pub HoldParameters : List Kind → Parameters → ℕ → ℕ → Type 0
  HoldParameters ks No_parameters a b = b ≡ a
  HoldParameters ks (Fixed_of p ps) a b = (m : ℕ) × HoldsNaming ks true p a m × HoldRow (past ks p) ps m b
  HoldParameters ks (Variadic_of p ps o d) a b =
      (m : ℕ) × HoldsNaming ks true p a m × HoldRow (past ks p) ps m o
      × (kind_at ks o ≡ Comma) × (d ≡ o + 1) × (kind_at ks d ≡ Ellipsis) × (b ≡ d + 1)
  HoldParameters ks (Names_of n ns) a b = (n ≡ a) × (kind_at ks a ≡ Identifier) × HoldNames ks ns (a + 1) b

  pub HoldRow : List Kind → Row → ℕ → ℕ → Type 0
  HoldRow ks No_more a b = b ≡ a
  HoldRow ks (Parameter_then o p ps) a b =
      (m : ℕ) × (o ≡ a) × (kind_at ks a ≡ Comma) × HoldsNaming ks true p (a + 1) m × HoldRow (past ks p) ps m b

  pub HoldDerivings : List Kind → Derivings → ℕ → ℕ → Type 0
  HoldDerivings ks No_derivings a b = b ≡ a
  HoldDerivings ks (Deriving_then d ds) a b = (m : ℕ) × HoldsDeriving ks d a m × HoldDerivings ks ds m b

  pub HoldsBound : List Kind → Bound → ℕ → ℕ → Type 0
  HoldsBound ks (Unsized_of ns) a b = HoldQualifiers ks ns a b
  HoldsBound ks (Sized_of ns t) a b = (m : ℕ) × HoldQualifiers ks ns a m × (2 ≤ rank ks t) × Holds ks t m b
  HoldsBound ks (Static_sized_of n ns t) a b =
      (m : ℕ) × (n ≡ a) × (kind_at ks a ≡ Static) × HoldQualifiers ks ns (a + 1) m × (2 ≤ rank ks t) × Holds ks t m b
  HoldsBound ks (Sized_static_of ns n t) a b =
      AreThere ns × HoldQualifiers ks ns a n × (kind_at ks n ≡ Static) × (2 ≤ rank ks t) × Holds ks t (n + 1) b
  HoldsBound ks (Any_size_of ns n) a b = HoldQualifiers ks ns a n × (kind_at ks n ≡ Star) × (b ≡ n + 1)

-- the name of a type stands from a to b
abbrev pub HoldsType : List Kind → Naming → ℕ → ℕ → Type 0
HoldsType ks t a b = HoldsNaming ks false t a b

-- a tree of the nonterminal n stands from a to b
abbrev pub Reads : List Kind → ℕ → Tree → ℕ → ℕ → Type 0
Reads ks n t a b = (n ≤ rank ks t) × Holds ks t a b

-- an expression of the nonterminal n doesn't go on here
abbrev pub Stops : List Kind → ℕ → ℕ → Type 0
Stops ks n at = level_at ks at < n

-- what a call found that reads a tree at `a`
pub record Found (ks : List Kind) (n a : ℕ) (t : Tree) (b : ℕ) : Type 0 where
  pub reads : Reads ks n t a b
  pub stops : Stops ks n b
  pub forth : a < b
  pub inside : b ≤ length ks

pub record FoundTexts (ks : List Kind) (a : ℕ) (ns : List ℕ) (b : ℕ) : Type 0 where
  pub reads : HoldTexts ks ns a b
  pub forth : a ≤ b
  pub inside : b ≤ length ks

pub record FoundBehind (ks : List Kind) (l a : ℕ) (x : Behind) (b : ℕ) : Type 0 where
  pub reads : HoldsBehind ks l x a b
  pub stops : Stops ks (l + 1) b
  pub forth : a < b
  pub inside : b ≤ length ks

pub record FoundBehinds (ks : List Kind) (l a : ℕ) (xs : Behinds) (b : ℕ) : Type 0 where
  pub reads : HoldBehinds ks l xs a b
  pub stops : Stops ks l b
  pub forth : a ≤ b
  pub inside : b ≤ length ks

-- what stands in front of an operand, where no operand stands
pub record FoundFront (ks : List Kind) (l a : ℕ) (x : Front) (b : ℕ) : Type 0 where
  pub reads : HoldsFront ks l x a b
  pub bare : (t : Tree) → (c : ℕ) → Reads ks (l + 1) t a c → ⊥
  pub forth : a < b
  pub inside : b ≤ length ks

-- all unary operators and casts that stand here
pub record FoundPrefixes (ks : List Kind) (a : ℕ) (xs : Fronts) (b : ℕ) : Type 0 where
  pub reads : HoldFronts ks 15 xs a b
  pub forth : a ≤ b
  pub inside : b ≤ length ks

pub record FoundBraces (ks : List Kind) (a : ℕ) (x : Braces) (b : ℕ) : Type 0 where
  pub reads : HoldBraces ks x a b
  pub forth : a < b
  pub inside : b ≤ length ks

pub record FoundInitial (ks : List Kind) (a : ℕ) (x : Initial) (b : ℕ) : Type 0 where
  pub reads : HoldsInitial ks x a b
  pub forth : a < b
  pub inside : b ≤ length ks

pub record FoundPiece (ks : List Kind) (a : ℕ) (x : Piece) (b : ℕ) : Type 0 where
  pub reads : HoldsPiece ks x a b
  pub forth : a < b
  pub inside : b ≤ length ks

-- all pieces behind the first one, and the last comma
pub record FoundPieces (ks : List Kind) (a : ℕ) (xs : Pieces) (t : Option ℕ) (b : ℕ) : Type 0 where
  pub behind : ℕ
  pub reads : HoldPieces ks xs a behind
  pub comma : HoldsComma ks t behind b
  pub forth : a ≤ b
  pub inside : b ≤ length ks

pub record FoundDesignator (ks : List Kind) (a : ℕ) (x : Designator) (b : ℕ) : Type 0 where
  pub reads : HoldsDesignator ks x a b
  pub forth : a < b
  pub inside : b ≤ length ks

pub record FoundDesignators (ks : List Kind) (a : ℕ) (xs : Designators) (b : ℕ) : Type 0 where
  pub reads : HoldDesignators ks xs a b
  pub forth : a ≤ b
  pub inside : b ≤ length ks

pub record FoundAssociation (ks : List Kind) (a : ℕ) (x : Association) (b : ℕ) : Type 0 where
  pub reads : HoldsAssociation ks x a b
  pub forth : a < b
  pub inside : b ≤ length ks

pub record FoundAssociations (ks : List Kind) (a : ℕ) (xs : Associations) (b : ℕ) : Type 0 where
  pub reads : HoldAssociations ks xs a b
  pub forth : a ≤ b
  pub inside : b ≤ length ks

-- what selects within a member
pub record FoundSteps (ks : List Kind) (a : ℕ) (xs : Behinds) (b : ℕ) : Type 0 where
  pub reads : HoldBehinds ks 16 xs a b
  pub are : AreSteps ks xs
  pub forth : a ≤ b
  pub inside : b ≤ length ks

-- specifiers and a declarator, of which nothing more stands here
pub record FoundNaming (ks : List Kind) (named : Bool) (a : ℕ) (t : Naming) (b : ℕ) : Type 0 where
  pub reads : HoldsNaming ks named t a b
  pub forth : a < b
  pub inside : b ≤ length ks

abbrev pub FoundType : List Kind → ℕ → Naming → ℕ → Type 0
FoundType ks a t b = FoundNaming ks false a t b

-- the result is what it has to be, or memory is wanting
abbrev pub IsWant : Stop → Type 0
IsWant (Syntax at) = ⊥
IsWant NoMemory = Unit {0}

abbrev pub MustGive : {A : Type 0} → Result A Stop → (A → Type 0) → Type 0
MustGive (Ok x) P = P x
MustGive (Err e) P = IsWant e

-- where the parser stopped is kept inside: a fault of syntax is told at the first token
abbrev pub at_front : Stop → ParseError
at_front (Syntax at) = told.Syntax 0
at_front NoMemory = told.NoMemory

abbrev pub IsAtFront : ParseError → Type 0
IsAtFront (told.Syntax at) = at ≡ 0
IsAtFront (told.TooDeep at) = ⊥
IsAtFront told.NoMemory = Unit {0}

-- this error is for want of memory
abbrev pub IsRefused : ParseError → Type 0
IsRefused (told.Syntax at) = ⊥
IsRefused (told.TooDeep at) = ⊥
IsRefused told.NoMemory = Unit {0}

-- this error is for brackets that nest too deep, or for want of memory
abbrev pub IsDeep : List Kind → ParseError → Type 0
IsDeep ks (told.Syntax at) = ⊥
IsDeep ks (told.TooDeep at) = too_deep ks ≡ Some at
IsDeep ks told.NoMemory = Unit {0}
