-- What holds is formed.
use Rattle.std.proofs.Common.{◌≡◌, ap, sym, ◌∙◌, subst, ℕ, ◌+◌, ◌<◌, arith, not, List, [], ◌∷◌, ◌||◌, Bool, true, false, Option, Some, None}
use Rattle.tree_data.specs.Trees.{Tree, Name_of, Constant_of, Text_of, Paren_of, Postfix_of, Unary_of, Binary_of, Conditional_of, Assign_of, Of_type, Compound_of, Behind, Operand_of, Index_of, Call_of, Call_with_of, Member_of, Step_of, Behinds, None_behind, Behind_then, Front, Operator_of, Cast_of, Choice_of, Left_of, Fronts, None_before, Front_then, Braces, Braces_of, Initial, Value_of, List_of, Piece, Plain_of, Designated_of, Pieces, No_pieces, Piece_then, Designator, Element_of, Field_of, Designators, No_designators, Designator_then, Generic_of, Offset_of, Association, Typed_of, Default_of, Associations, No_associations, Association_then, Specifying, Word_of, Typedef_of, Tag_of, Atomic_of, Specifyings, No_specifiers, Specifier_then, Naming, Type_of, Declaring, Declaring_of, No_parameters, Fixed_of, Variadic_of, Names_of, Parameters, Row, No_more, Parameter_then, Named_of, Grouping, No_group, Group_of, Deriving, Array_of, Function_of, Derivings, No_derivings, Deriving_then, Bound, Unsized_of, Any_size_of, Sized_of, Static_sized_of, Sized_static_of, Aligned_as_of, Aligned_of, Members_of, Enumerators_of, Member, Bare_of, Fields_of, Asserted_of, Members, No_members, Member_then, Field, Declared_of, Bits_of, Padding_of, Fields, No_fields, Field_then, Assertion, Assertion_of, Enumerator, Counted_of, Given_of, Enumerators, No_enumerators, Enumerator_then}
use Rattle.c_parser.specs.declared.kinds.Kind.{Kind}
use Rattle.c_parser.specs.declared.kinds.Kind.TheVariants.{OpenBrace}
use Rattle.c_parser.specs.Grammar.{IsFormed, IsBehind, AreBehind, IsInFront, AreInFront, GoOn, IsComma, AreBraced, IsInitial, IsPiece, ArePieces, IsDesignator, AreDesignators, IsAssociated, AreAssociated, has_type, IsSpecifying, AreSpecifying, IsNaming, AreParameters, AreMore, IsDeclaring, IsGrouping, IsDerived, AreDerived, IsBound, typed_by, past, IsTag, IsMember, AreMembers, IsField, AreFields, IsAsserted, IsDeclarator, IsDirect, AreTexts, IsEnumerator, AreEnumerators}
use Rattle.c_parser.specs.Kinds.{kind_at, level_at, is_prefix, is_size, casts_at, is_dot, is_member, specifies_at, named_by, grouped, behind_pointers, may_name, is_typedef, is_word, is_tagging, names_it, plain_behind}
use Rattle.c_parser.specs.Levels.{behinds_level}
use Rattle.c_parser.proofs.NameLists.{names_formed}
use Rattle.c_parser.proofs.Types.{qualifiers_formed, pointers_formed}
use Rattle.c_parser.specs.Reading.{HoldTexts, Holds, HoldsBehind, HoldBehinds, HoldsFront, HoldFronts, HoldsComma, HoldBraces, HoldsInitial, HoldsPiece, HoldPieces, HoldsDesignator, HoldDesignators, HoldsAssociation, HoldAssociations, HoldSpecifying, HoldSpecifyings, HoldsNaming, HoldParameters, HoldRow, HoldsDeclaring, HoldsGrouping, HoldsDeriving, HoldDerivings, HoldsBound, HoldsTag, HoldsMember, HoldMembers, HoldsField, HoldFields, HoldsAssertion, HoldsDeclarator, HoldsDirect, HoldsEnumerator, HoldEnumerators}
use Rattle.c_parser.specs.declared.kinds.Named.{Named}

pub comma_formed : (ks : List Kind) → (t : Option ℕ) → (a b : ℕ) → HoldsComma ks t a b → IsComma ks t
comma_formed ks None a b h = tt
comma_formed ks (Some o) a b h = ap (λ x. kind_at ks x) h.0 ∙ h.1

pub texts_go : (ks : List Kind) → (n : ℕ) → (ns : List ℕ) → (b : ℕ) → HoldTexts ks ns (n + 1) b → GoOn ks n ns
texts_go ks n [] b h = h.1
texts_go ks n (m ∷ ms) b h =
    (ap (λ x. kind_at ks x) h.0 ∙ h.1, texts_go ks m ms b (subst (λ x. HoldTexts ks ms (x + 1) b) (sym h.0) h.2))

-- some, as a string literal has them
pub texts_formed : (ks : List Kind) → (ns : List ℕ) → (a b : ℕ) → a < b → HoldTexts ks ns a b → AreTexts ks ns
texts_formed ks [] a b l h = absurd (omega (arith, l, h.0))
texts_formed ks (n ∷ ns) a b l h =
    (ap (λ x. kind_at ks x) h.0 ∙ h.1, texts_go ks n ns b (subst (λ x. HoldTexts ks ns (x + 1) b) (sym h.0) h.2))

pub tag_formed : (ks : List Kind) → (g : Option ℕ) → (a b : ℕ) → HoldsTag ks g a b → IsTag ks g
tag_formed ks None a b h = tt
tag_formed ks (Some n) a b h = ap (λ x. is_word (kind_at ks x)) h.0 ∙ h.1

mutual
  pub formed : (ks : List Kind) → (t : Tree) → (a b : ℕ) → Holds ks t a b → IsFormed ks t
  formed ks (Name_of n) a b h = ap (λ x. kind_at ks x) h.0 ∙ h.1
  formed ks (Constant_of n) a b h = ap (λ x. kind_at ks x) h.0 ∙ h.1
  formed ks (Text_of []) a b h = h.1.1 h.0
  formed ks (Text_of (n ∷ ns)) a b h = (
    ap (λ x. kind_at ks x) h.1.0 ∙ h.0,
    texts_go ks n ns b (subst (λ x. HoldTexts ks ns (x + 1) b) (sym h.1.0) h.1.2),
  )
  formed ks (Paren_of o t c) a b h = (ap (λ x. kind_at ks x) h.0 ∙ h.1, h.2, formed ks t (a + 1) c h.3, h.4)
  formed ks (Postfix_of f bs) a b h = (h.1, h.5, h.2, formed ks f a h.0 h.3, formed_behinds ks 16 bs h.0 b h.4)
  formed ks (Of_type k o t c) a b h =
      (ap (λ x. is_size (kind_at ks x)) h.0 ∙ h.1, h.3, formed_naming ks false t (o + 1) c h.4, h.5, subst (λ x. kind_at ks x ≡ OpenBrace → ⊥) h.6 h.7)
  formed ks (Compound_of o t c i) a b h =
      (ap (λ x. kind_at ks x) h.0 ∙ h.1, formed_naming ks false t (a + 1) c h.2, h.3, formed_braces ks i (c + 1) b h.4)
  formed ks (Generic_of k o t gs c) a b h = (
    ap (λ x. kind_at ks x) h.1 ∙ h.2,
    h.4,
    h.5,
    formed ks t (o + 1) h.0 h.6,
    h.7,
    formed_associations ks gs h.0 c h.8,
    h.9,
  )
  formed ks (Offset_of k o t m n bs c) a b h = (
    ap (λ x. kind_at ks x) h.0 ∙ h.1,
    h.3,
    formed_naming ks false t (o + 1) m h.4,
    h.5,
    h.7,
    h.8,
    formed_behinds ks 16 bs (n + 1) c h.9,
    h.10,
  )
  formed ks (Unary_of fs t) a b h = (h.1, formed_fronts ks 15 fs a h.0 h.2, h.3, formed ks t h.0 b h.4)
  formed ks (Binary_of f bs) a b h =
      (h.1, h.2, h.3, formed ks f a h.0 h.4, formed_behinds ks (behinds_level ks bs) bs h.0 b h.5)
  formed ks (Conditional_of fs t) a b h = (h.1, formed_fronts ks 3 fs a h.0 h.2, h.3, formed ks t h.0 b h.4)
  formed ks (Assign_of fs t) a b h = (h.1, formed_fronts ks 2 fs a h.0 h.2, h.3, formed ks t h.0 b h.4)

  pub formed_behind : (ks : List Kind) → (l : ℕ) → (x : Behind) → (a b : ℕ) → HoldsBehind ks l x a b → IsBehind ks l x
  formed_behind ks l (Operand_of o t) a b h =
      (h.0, ap (λ x. level_at ks x) h.1 ∙ h.2, h.3, formed ks t (a + 1) b h.4)
  formed_behind ks l (Index_of o t c) a b h =
      (h.0, ap (λ x. kind_at ks x) h.1 ∙ h.2, h.3, formed ks t (a + 1) c h.4, h.5)
  formed_behind ks l (Call_of o c) a b h = (h.0, ap (λ x. kind_at ks x) h.1 ∙ h.2, h.4)
  formed_behind ks l (Call_with_of o t bs c) a b h = (
    h.1,
    ap (λ x. kind_at ks x) h.2 ∙ h.3,
    h.4,
    formed ks t (a + 1) h.0 h.5,
    formed_behinds ks 1 bs h.0 c h.6,
    h.7,
  )
  formed_behind ks l (Member_of o n) a b h = (h.0, ap (λ x. is_member (kind_at ks x)) h.1 ∙ h.2, h.4)
  formed_behind ks l (Step_of o) a b h = (h.0, ap (λ x. kind_at ks x) h.1 ∙ h.2)

  pub formed_behinds : (ks : List Kind) → (l : ℕ) → (xs : Behinds) → (a b : ℕ) → HoldBehinds ks l xs a b → AreBehind ks l xs
  formed_behinds ks l None_behind a b h = tt
  formed_behinds ks l (Behind_then x xs) a b h = (formed_behind ks l x a h.0 h.1, formed_behinds ks l xs h.0 b h.2)

  pub formed_front : (ks : List Kind) → (l : ℕ) → (x : Front) → (a b : ℕ) → HoldsFront ks l x a b → IsInFront ks l x
  formed_front ks l (Operator_of o) a b h =
      (h.0, ap (λ x. is_prefix (kind_at ks x)) h.1 ∙ h.2)
  formed_front ks l (Cast_of o t c) a b h = (
    h.0,
    ap (λ x. kind_at ks x) h.1 ∙ h.2,
    ap (λ x. casts_at ks x) h.1 ∙ h.3,
    formed_naming ks false t (a + 1) c h.4,
    h.5,
    subst (λ x. kind_at ks x ≡ OpenBrace → ⊥) h.6 h.7,
  )
  formed_front ks l (Choice_of t q e c) a b h =
      (h.0, h.1, formed ks t a q h.2, h.3, h.4, formed ks e (q + 1) c h.5, h.6)
  formed_front ks l (Left_of t o) a b h = (h.0, h.1, formed ks t a o h.2, h.3)

  pub formed_fronts : (ks : List Kind) → (l : ℕ) → (xs : Fronts) → (a b : ℕ) → HoldFronts ks l xs a b → AreInFront ks l xs
  formed_fronts ks l None_before a b h = tt
  formed_fronts ks l (Front_then x xs) a b h = (formed_front ks l x a h.0 h.1, formed_fronts ks l xs h.0 b h.2)

  pub formed_braces : (ks : List Kind) → (x : Braces) → (a b : ℕ) → HoldBraces ks x a b → AreBraced ks x
  formed_braces ks (Braces_of o p ps t c) a b h = (
    ap (λ x. kind_at ks x) h.2 ∙ h.3,
    formed_piece ks p (a + 1) h.0 h.4,
    formed_pieces ks ps h.0 h.1 h.5,
    comma_formed ks t h.1 c h.6,
    h.7,
  )

  pub formed_initial : (ks : List Kind) → (x : Initial) → (a b : ℕ) → HoldsInitial ks x a b → IsInitial ks x
  formed_initial ks (Value_of t) a b h = (h.0, formed ks t a b h.1)
  formed_initial ks (List_of i) a b h = formed_braces ks i a b h

  pub formed_piece : (ks : List Kind) → (x : Piece) → (a b : ℕ) → HoldsPiece ks x a b → IsPiece ks x
  formed_piece ks (Plain_of i) a b h = formed_initial ks i a b h
  formed_piece ks (Designated_of d ds e i) a b h =
      (formed_designator ks d a h.0 h.1, formed_designators ks ds h.0 e h.2, h.3, formed_initial ks i (e + 1) b h.4)

  pub formed_pieces : (ks : List Kind) → (xs : Pieces) → (a b : ℕ) → HoldPieces ks xs a b → ArePieces ks xs
  formed_pieces ks No_pieces a b h = tt
  formed_pieces ks (Piece_then o p ps) a b h =
      (ap (λ x. kind_at ks x) h.1 ∙ h.2, formed_piece ks p (a + 1) h.0 h.3, formed_pieces ks ps h.0 b h.4)

  pub formed_designator : (ks : List Kind) → (x : Designator) → (a b : ℕ) → HoldsDesignator ks x a b → IsDesignator ks x
  formed_designator ks (Element_of o t c) a b h =
      (ap (λ x. kind_at ks x) h.0 ∙ h.1, h.2, formed ks t (a + 1) c h.3, h.4)
  formed_designator ks (Field_of o n) a b h = (ap (λ x. is_dot (kind_at ks x)) h.0 ∙ h.1, h.3)

  pub formed_designators : (ks : List Kind) → (xs : Designators) → (a b : ℕ) → HoldDesignators ks xs a b → AreDesignators ks xs
  formed_designators ks No_designators a b h = tt
  formed_designators ks (Designator_then d ds) a b h =
      (formed_designator ks d a h.0 h.1, formed_designators ks ds h.0 b h.2)

  pub formed_association : (ks : List Kind) → (x : Association) → (a b : ℕ) → HoldsAssociation ks x a b → IsAssociated ks x
  formed_association ks (Typed_of t c e) a b h = (formed_naming ks false t a c h.0, h.1, h.2, formed ks e (c + 1) b h.3)
  formed_association ks (Default_of d c e) a b h =
      (ap (λ x. kind_at ks x) h.0 ∙ h.1, h.3, h.4, formed ks e (c + 1) b h.5)

  pub formed_associations : (ks : List Kind) → (xs : Associations) → (a b : ℕ) → HoldAssociations ks xs a b → AreAssociated ks xs
  formed_associations ks No_associations a b h = tt
  formed_associations ks (Association_then o x xs) a b h =
      (ap (λ x. kind_at ks x) h.1 ∙ h.2, formed_association ks x (a + 1) h.0 h.3, formed_associations ks xs h.0 b h.4)

  pub formed_specifying : (ks : List Kind) → (y : Bool) → (s : Specifying) → (a b : ℕ) → HoldSpecifying ks y s a b → IsSpecifying ks y s
  formed_specifying ks y (Word_of n) a b h = ap (λ x. specifies_at ks x) h.0 ∙ h.1
  formed_specifying ks y (Typedef_of n) a b h = (h.1, ap (λ x. is_typedef (kind_at ks x)) h.0 ∙ h.2)
  formed_specifying ks y (Tag_of k n) a b h =
      (ap (λ x. is_tagging (kind_at ks x)) h.0 ∙ h.1, h.3, subst (λ x. kind_at ks x ≡ OpenBrace → ⊥) h.4 h.5)
  formed_specifying ks y (Atomic_of k o t c) a b h =
      (ap (λ x. kind_at ks x) h.0 ∙ h.1, h.3, formed_naming ks false t (o + 1) c h.4, h.5)
  formed_specifying ks y (Aligned_as_of k o t c) a b h =
      (ap (λ x. kind_at ks x) h.0 ∙ h.1, h.3, formed_naming ks false t (o + 1) c h.4, h.5)
  formed_specifying ks y (Aligned_of k o t c) a b h =
      (ap (λ x. kind_at ks x) h.0 ∙ h.1, h.3, h.4, formed ks t (o + 1) c h.5, h.6)
  formed_specifying ks y (Members_of k g o ms c) a b h =
      (ap (λ x. kind_at ks x) h.0 ∙ h.1, tag_formed ks g (a + 1) o h.2, h.3, h.4, formed_members ks ms (o + 1) c h.5, h.6)
  formed_specifying ks y (Enumerators_of k g o e es t c) a b h = (
    ap (λ x. kind_at ks x) h.2 ∙ h.3,
    tag_formed ks g (a + 1) o h.4,
    h.5,
    formed_enumerator ks e (o + 1) h.0 h.6,
    formed_enumerators ks es h.0 h.1 h.7,
    comma_formed ks t h.1 c h.8,
    h.9,
  )

  pub formed_enumerator : (ks : List Kind) → (e : Enumerator) → (a b : ℕ) → HoldsEnumerator ks e a b → IsEnumerator ks e
  formed_enumerator ks (Counted_of n) a b h = ap (λ x. is_word (kind_at ks x)) h.0 ∙ h.1
  formed_enumerator ks (Given_of n q t) a b h = (ap (λ x. is_word (kind_at ks x)) h.0 ∙ h.1, h.3, h.4, formed ks t (q + 1) b h.5)

  pub formed_enumerators : (ks : List Kind) → (es : Enumerators) → (a b : ℕ) → HoldEnumerators ks es a b → AreEnumerators ks es
  formed_enumerators ks No_enumerators a b h = tt
  formed_enumerators ks (Enumerator_then o e es) a b h =
      (ap (λ x. kind_at ks x) h.1 ∙ h.2, formed_enumerator ks e (a + 1) h.0 h.3, formed_enumerators ks es h.0 b h.4)

  pub formed_member : (ks : List Kind) → (x : Member) → (a b : ℕ) → HoldsMember ks x a b → IsMember ks x
  formed_member ks (Bare_of ss e) a b h = (h.0, formed_specifyings ks false ss a e h.1, h.2, h.3)
  formed_member ks (Fields_of ss f fs e) a b h = (
    h.2,
    formed_specifyings ks false ss a h.0 h.3,
    h.4,
    formed_field ks (not (typed_by ks false ss)) f h.0 h.1 h.5,
    formed_fields ks fs h.1 e h.6,
    h.7,
  )
  formed_member ks (Asserted_of x) a b h = formed_assertion ks x a b h

  pub formed_members : (ks : List Kind) → (xs : Members) → (a b : ℕ) → HoldMembers ks xs a b → AreMembers ks xs
  formed_members ks No_members a b h = tt
  formed_members ks (Member_then x xs) a b h = (formed_member ks x a h.0 h.1, formed_members ks xs h.0 b h.2)

  pub formed_field : (ks : List Kind) → (y : Bool) → (f : Field) → (a b : ℕ) → HoldsField ks y f a b → IsField ks y f
  formed_field ks y (Declared_of d) a b h = formed_declarator ks y d a b h
  formed_field ks y (Bits_of d c w) a b h = (formed_declarator ks y d a c h.0, h.1, h.2, formed ks w (c + 1) b h.3)
  formed_field ks y (Padding_of c w) a b h = (ap (λ x. kind_at ks x) h.0 ∙ h.1, h.2, formed ks w (a + 1) b h.3)

  pub formed_fields : (ks : List Kind) → (fs : Fields) → (a b : ℕ) → HoldFields ks fs a b → AreFields ks fs
  formed_fields ks No_fields a b h = tt
  formed_fields ks (Field_then o f fs) a b h =
      (ap (λ x. kind_at ks x) h.1 ∙ h.2, formed_field ks false f (a + 1) h.0 h.3, formed_fields ks fs h.0 b h.4)

  pub formed_assertion : (ks : List Kind) → (x : Assertion) → (a b : ℕ) → HoldsAssertion ks x a b → IsAsserted ks x
  formed_assertion ks (Assertion_of k o t c ns p e) a b h = (
    ap (λ x. kind_at ks x) h.0 ∙ h.1,
    h.3,
    h.4,
    formed ks t (o + 1) c h.5,
    h.6,
    texts_formed ks ns (c + 1) p h.7 h.8,
    h.9,
    h.11,
  )

  pub formed_declarator : (ks : List Kind) → (y : Bool) → (d : Declaring) → (a b : ℕ) → HoldsDeclarator ks y d a b → IsDeclarator ks y d
  formed_declarator ks y (Declaring_of ps g ds) a b h =
      (pointers_formed ks ps a h.0 h.2, formed_direct ks (plain_behind y ps) g h.0 h.1 h.3, formed_derivings ks ds h.1 b h.4)

  pub formed_direct : (ks : List Kind) → (y : Bool) → (g : Grouping) → (a b : ℕ) → HoldsDirect ks y g a b → IsDirect ks y g
  formed_direct ks y No_group a b h = h
  formed_direct ks y (Named_of n) a b h = ap (λ x. names_it y (kind_at ks x)) h.0 ∙ h.1
  formed_direct ks y (Group_of o d c) a b h =
      (ap (λ x. kind_at ks x) h.0 ∙ h.1, formed_declarator ks false d (a + 1) c h.2, h.3)

  pub formed_specifyings : (ks : List Kind) → (y : Bool) → (ss : Specifyings) → (a b : ℕ) → HoldSpecifyings ks y ss a b → AreSpecifying ks y ss
  formed_specifyings ks y No_specifiers a b h = tt
  formed_specifyings ks y (Specifier_then s ss) a b h =
      (formed_specifying ks y s a h.0 h.1, formed_specifyings ks (has_type ks s || y) ss h.0 b h.2)

  pub formed_naming : (ks : List Kind) → (y : Bool) → (t : Naming) → (a b : ℕ) → HoldsNaming ks y t a b → IsNaming ks y t
  formed_naming ks y (Type_of ss d) a b h =
      (h.1, formed_specifyings ks false ss a h.0 h.2, formed_declaring ks (named_by y (typed_by ks false ss)) d h.0 b h.3, h.4)

  pub formed_declaring : (ks : List Kind) → (y : Named) → (d : Declaring) → (a b : ℕ) → HoldsDeclaring ks y d a b → IsDeclaring ks y d
  formed_declaring ks y (Declaring_of ps g ds) a b h =
      (pointers_formed ks ps a h.0 h.2, formed_grouping ks (behind_pointers y ps) g h.0 h.1 h.3, formed_derivings ks ds h.1 b h.4, h.5)

  pub formed_grouping : (ks : List Kind) → (y : Named) → (g : Grouping) → (a b : ℕ) → HoldsGrouping ks y g a b → IsGrouping ks y g
  formed_grouping ks y No_group a b h = tt
  formed_grouping ks y (Named_of n) a b h = ap (λ x. may_name y (kind_at ks x)) h.0 ∙ h.1
  formed_grouping ks y (Group_of o d c) a b h =
      (ap (λ x. kind_at ks x) h.0 ∙ h.1, h.2, formed_declaring ks (grouped y) d (a + 1) c h.3, h.4)

  pub formed_deriving : (ks : List Kind) → (d : Deriving) → (a b : ℕ) → HoldsDeriving ks d a b → IsDerived ks d
  formed_deriving ks (Array_of o x c) a b h =
      (ap (λ y. kind_at ks y) h.0 ∙ h.1, formed_bound ks x (a + 1) c h.2, h.3)
  formed_deriving ks (Function_of o ps c) a b h =
      (ap (λ x. kind_at ks x) h.0 ∙ h.1, formed_parameters ks ps (a + 1) c h.2, h.3, h.5)

  pub formed_parameters : (ks : List Kind) → (ps : Parameters) → (a b : ℕ) → HoldParameters ks ps a b → AreParameters ks ps
  formed_parameters ks No_parameters a b h = tt
  formed_parameters ks (Fixed_of p ps) a b h = (formed_naming ks true p a h.0 h.1, formed_row (past ks p) ps h.0 b h.2)
  formed_parameters ks (Names_of n ns) a b h = (ap (λ x. kind_at ks x) h.0 ∙ h.1, names_formed ks ns (a + 1) b h.2)
  formed_parameters ks (Variadic_of p ps o d) a b h =
      (formed_naming ks true p a h.0 h.1, formed_row (past ks p) ps h.0 o h.2, h.3, h.5)

  pub formed_row : (ks : List Kind) → (ps : Row) → (a b : ℕ) → HoldRow ks ps a b → AreMore ks ps
  formed_row ks No_more a b h = tt
  formed_row ks (Parameter_then o p ps) a b h =
      (ap (λ x. kind_at ks x) h.1 ∙ h.2, formed_naming ks true p (a + 1) h.0 h.3, formed_row (past ks p) ps h.0 b h.4)

  pub formed_derivings : (ks : List Kind) → (ds : Derivings) → (a b : ℕ) → HoldDerivings ks ds a b → AreDerived ks ds
  formed_derivings ks No_derivings a b h = tt
  formed_derivings ks (Deriving_then d ds) a b h = (formed_deriving ks d a h.0 h.1, formed_derivings ks ds h.0 b h.2)

  pub formed_bound : (ks : List Kind) → (x : Bound) → (a b : ℕ) → HoldsBound ks x a b → IsBound ks x
  formed_bound ks (Unsized_of ns) a b h = qualifiers_formed ks ns a b h
  formed_bound ks (Sized_of ns t) a b h = (qualifiers_formed ks ns a h.0 h.1, h.2, formed ks t h.0 b h.3)
  formed_bound ks (Static_sized_of n ns t) a b h =
      (ap (λ x. kind_at ks x) h.1 ∙ h.2, qualifiers_formed ks ns (a + 1) h.0 h.3, h.4, formed ks t h.0 b h.5)
  formed_bound ks (Sized_static_of ns n t) a b h = (h.0, qualifiers_formed ks ns a n h.1, h.2, h.3, formed ks t (n + 1) b h.4)
  formed_bound ks (Any_size_of ns n) a b h = (qualifiers_formed ks ns a n h.0, h.1)
