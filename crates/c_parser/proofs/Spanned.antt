-- What holds spells the numbers between.
use Rattle.std.proofs.Common.{refl, ap, ◌∙◌, subst, ℕ, ◌+◌, List, [], ◌∷◌, ◌++◌, ◌||◌, not, Bool, true, false, Option, Some, None}
use Rattle.tree_data.specs.Trees.{Tree, Name_of, Constant_of, Text_of, Paren_of, Postfix_of, Unary_of, Binary_of, Conditional_of, Assign_of, Of_type, Compound_of, Behind, Operand_of, Index_of, Call_of, Call_with_of, Member_of, Step_of, Behinds, None_behind, Behind_then, Front, Operator_of, Cast_of, Choice_of, Left_of, Fronts, None_before, Front_then, Braces, Braces_of, Initial, Value_of, List_of, Piece, Plain_of, Designated_of, Pieces, No_pieces, Piece_then, Designator, Element_of, Field_of, Designators, No_designators, Designator_then, Generic_of, Offset_of, Association, Typed_of, Default_of, Associations, No_associations, Association_then, Specifying, Word_of, Typedef_of, Tag_of, Atomic_of, Specifyings, No_specifiers, Specifier_then, Naming, Type_of, Declaring, Declaring_of, No_parameters, Fixed_of, Variadic_of, Names_of, Parameters, Row, No_more, Parameter_then, Named_of, Grouping, No_group, Group_of, Deriving, Array_of, Function_of, Derivings, No_derivings, Deriving_then, Bound, Unsized_of, Any_size_of, Sized_of, Static_sized_of, Sized_static_of, Aligned_as_of, Aligned_of, Members_of, Enumerators_of, Member, Bare_of, Fields_of, Asserted_of, Members, No_members, Member_then, Field, Declared_of, Bits_of, Padding_of, Fields, No_fields, Field_then, Assertion, Assertion_of, Enumerator, Counted_of, Given_of, Enumerators, No_enumerators, Enumerator_then}
use Rattle.c_parser.specs.declared.kinds.Kind.{Kind}
use Rattle.c_parser.specs.Grammar.{spell, spell_behind, spell_behinds, spell_front, spell_fronts, spell_comma, spell_braces, spell_initial, spell_piece, spell_pieces, spell_designator, spell_designators, spell_association, spell_associations, spell_specifying, spell_specifyings, spell_type, spell_declaring, spell_grouping, spell_deriving, spell_derivings, spell_bound, has_type, spell_parameters, spell_row, typed_by, past, spell_tag, spell_member, spell_members, spell_field, spell_fields, spell_assertion, spell_enumerator, spell_enumerators}
use Rattle.c_parser.specs.Levels.{behinds_level}
use Rattle.c_parser.specs.Declarators.{spell_pointers}
use Rattle.c_parser.specs.Numbers.{Spans}
use Rattle.c_parser.proofs.Numbers.{spans_join}
use Rattle.c_parser.proofs.NameLists.{names_spanned}
use Rattle.c_parser.proofs.Types.{qualifiers_spanned, pointers_spanned}
use Rattle.c_parser.specs.Reading.{HoldTexts, Holds, HoldsBehind, HoldBehinds, HoldsFront, HoldFronts, HoldsComma, HoldBraces, HoldsInitial, HoldsPiece, HoldPieces, HoldsDesignator, HoldDesignators, HoldsAssociation, HoldAssociations, HoldSpecifying, HoldSpecifyings, HoldsNaming, HoldParameters, HoldRow, HoldsDeclaring, HoldsGrouping, HoldsDeriving, HoldDerivings, HoldsBound, HoldsTag, HoldsMember, HoldMembers, HoldsField, HoldFields, HoldsAssertion, HoldsDeclarator, HoldsDirect, HoldsEnumerator, HoldEnumerators}
use Rattle.c_parser.specs.declared.kinds.Named.{Named}
use Rattle.c_parser.specs.Kinds.{named_by, grouped, behind_pointers, plain_behind}

pub comma_spanned : (ks : List Kind) → (t : Option ℕ) → (a b : ℕ) → HoldsComma ks t a b → Spans (spell_comma t) a b
comma_spanned ks None a b h = h
comma_spanned ks (Some o) a b h = (h.0, h.2)

pub texts_span : (ks : List Kind) → (ns : List ℕ) → (a b : ℕ) → HoldTexts ks ns a b → Spans ns a b
texts_span ks [] a b h = h.0
texts_span ks (n ∷ ns) a b h = (h.0, texts_span ks ns (a + 1) b h.2)

pub tag_spanned : (ks : List Kind) → (g : Option ℕ) → (a b : ℕ) → HoldsTag ks g a b → Spans (spell_tag g) a b
tag_spanned ks None a b h = h
tag_spanned ks (Some n) a b h = (h.0, h.2)

mutual
  pub spanned : (ks : List Kind) → (t : Tree) → (a b : ℕ) → Holds ks t a b → Spans (spell t) a b
  spanned ks (Name_of n) a b h = (h.0, h.2)
  spanned ks (Constant_of n) a b h = (h.0, h.2)
  spanned ks (Text_of ns) a b h = texts_span ks ns a b h.1
  spanned ks (Paren_of o t c) a b h = (h.0, spans_join (spell t) (c ∷ []) (a + 1) c b (spanned ks t (a + 1) c h.3) (refl, h.5))
  spanned ks (Of_type k o t c) a b h = (
    h.0,
    (
      h.2,
      subst
          (λ x. Spans (spell_type t ++ c ∷ []) x b)
          (ap (λ x. x + 1) h.2)
          (spans_join (spell_type t) (c ∷ []) (o + 1) c b (spanned_naming ks false t (o + 1) c h.4) (refl, h.6)),
    ),
  )
  spanned ks (Compound_of o t c i) a b h = (
    h.0,
    spans_join
        (spell_type t)
        (c ∷ spell_braces i)
        (a + 1)
        c
        b
        (spanned_naming ks false t (a + 1) c h.2)
        (refl, spanned_braces ks i (c + 1) b h.4),
  )
  spanned ks (Generic_of k o t gs c) a b h = (
    h.1,
    (
      h.3,
      subst
          (λ x. Spans (spell t ++ (spell_associations gs ++ c ∷ [])) x b)
          (ap (λ x. x + 1) h.3)
          (spans_join
          (spell t)
          (spell_associations gs ++ c ∷ [])
          (o + 1)
          h.0
          b
          (spanned ks t (o + 1) h.0 h.6)
          (spans_join (spell_associations gs) (c ∷ []) h.0 c b (spanned_associations ks gs h.0 c h.8) (refl, h.10))),
    ),
  )
  spanned ks (Offset_of k o t m n bs c) a b h = (
    h.0,
    (
      h.2,
      subst
          (λ x. Spans (spell_type t ++ (m ∷ n ∷ (spell_behinds bs ++ c ∷ []))) x b)
          (ap (λ x. x + 1) h.2)
          (spans_join
          (spell_type t)
          (m ∷ n ∷ (spell_behinds bs ++ c ∷ []))
          (o + 1)
          m
          b
          (spanned_naming ks false t (o + 1) m h.4) (
            refl,
            (
              h.6,
              subst
                  (λ x. Spans (spell_behinds bs ++ c ∷ []) x b)
                  (ap (λ x. x + 1) h.6)
                  (spans_join (spell_behinds bs) (c ∷ []) (n + 1) c b (spanned_behinds ks 16 bs (n + 1) c h.9) (refl, h.11)),
            ),
          )),
    ),
  )
  spanned ks (Postfix_of f bs) a b h =
      spans_join (spell f) (spell_behinds bs) a h.0 b (spanned ks f a h.0 h.3) (spanned_behinds ks 16 bs h.0 b h.4)
  spanned ks (Unary_of fs t) a b h =
      spans_join (spell_fronts fs) (spell t) a h.0 b (spanned_fronts ks 15 fs a h.0 h.2) (spanned ks t h.0 b h.4)
  spanned ks (Binary_of f bs) a b h =
      spans_join
      (spell f)
      (spell_behinds bs)
      a
      h.0
      b
      (spanned ks f a h.0 h.4)
      (spanned_behinds ks (behinds_level ks bs) bs h.0 b h.5)
  spanned ks (Conditional_of fs t) a b h =
      spans_join (spell_fronts fs) (spell t) a h.0 b (spanned_fronts ks 3 fs a h.0 h.2) (spanned ks t h.0 b h.4)
  spanned ks (Assign_of fs t) a b h =
      spans_join (spell_fronts fs) (spell t) a h.0 b (spanned_fronts ks 2 fs a h.0 h.2) (spanned ks t h.0 b h.4)

  pub spanned_behind : (ks : List Kind) → (l : ℕ) → (x : Behind) → (a b : ℕ) → HoldsBehind ks l x a b → Spans (spell_behind x) a b
  spanned_behind ks l (Operand_of o t) a b h = (h.1, spanned ks t (a + 1) b h.4)
  spanned_behind ks l (Index_of o t c) a b h =
      (h.1, spans_join (spell t) (c ∷ []) (a + 1) c b (spanned ks t (a + 1) c h.4) (refl, h.6))
  spanned_behind ks l (Call_of o c) a b h = (h.1, (h.3, h.5 ∙ ap (λ x. x + 1) h.3))
  spanned_behind ks l (Call_with_of o t bs c) a b h = (
    h.2,
    spans_join
        (spell t)
        (spell_behinds bs ++ c ∷ [])
        (a + 1)
        h.0
        b
        (spanned ks t (a + 1) h.0 h.5)
        (spans_join (spell_behinds bs) (c ∷ []) h.0 c b (spanned_behinds ks 1 bs h.0 c h.6) (refl, h.8)),
  )
  spanned_behind ks l (Member_of o n) a b h = (h.1, (h.3, h.5 ∙ ap (λ x. x + 1) h.3))
  spanned_behind ks l (Step_of o) a b h = (h.1, h.3)

  pub spanned_behinds : (ks : List Kind) → (l : ℕ) → (xs : Behinds) → (a b : ℕ) → HoldBehinds ks l xs a b → Spans (spell_behinds xs) a b
  spanned_behinds ks l None_behind a b h = h
  spanned_behinds ks l (Behind_then x xs) a b h =
      spans_join
      (spell_behind x)
      (spell_behinds xs)
      a
      h.0
      b
      (spanned_behind ks l x a h.0 h.1)
      (spanned_behinds ks l xs h.0 b h.2)

  pub spanned_front : (ks : List Kind) → (l : ℕ) → (x : Front) → (a b : ℕ) → HoldsFront ks l x a b → Spans (spell_front x) a b
  spanned_front ks l (Operator_of o) a b h = (h.1, h.3)
  spanned_front ks l (Cast_of o t c) a b h =
      (h.1, spans_join (spell_type t) (c ∷ []) (a + 1) c b (spanned_naming ks false t (a + 1) c h.4) (refl, h.6))
  spanned_front ks l (Choice_of t q e c) a b h =
      spans_join
      (spell t)
      (q ∷ (spell e ++ c ∷ []))
      a
      q
      b
      (spanned ks t a q h.2)
      (refl, spans_join (spell e) (c ∷ []) (q + 1) c b (spanned ks e (q + 1) c h.5) (refl, h.7))
  spanned_front ks l (Left_of t o) a b h =
      spans_join (spell t) (o ∷ []) a o b (spanned ks t a o h.2) (refl, h.4)

  pub spanned_fronts : (ks : List Kind) → (l : ℕ) → (xs : Fronts) → (a b : ℕ) → HoldFronts ks l xs a b → Spans (spell_fronts xs) a b
  spanned_fronts ks l None_before a b h = h
  spanned_fronts ks l (Front_then x xs) a b h =
      spans_join
      (spell_front x)
      (spell_fronts xs)
      a
      h.0
      b
      (spanned_front ks l x a h.0 h.1)
      (spanned_fronts ks l xs h.0 b h.2)

  pub spanned_braces : (ks : List Kind) → (x : Braces) → (a b : ℕ) → HoldBraces ks x a b → Spans (spell_braces x) a b
  spanned_braces ks (Braces_of o p ps t c) a b h = (
    h.2,
    spans_join
        (spell_piece p)
        (spell_pieces ps ++ (spell_comma t ++ c ∷ []))
        (a + 1)
        h.0
        b
        (spanned_piece ks p (a + 1) h.0 h.4)
        (spans_join
        (spell_pieces ps)
        (spell_comma t ++ c ∷ [])
        h.0
        h.1
        b
        (spanned_pieces ks ps h.0 h.1 h.5)
        (spans_join (spell_comma t) (c ∷ []) h.1 c b (comma_spanned ks t h.1 c h.6) (refl, h.8))),
  )

  pub spanned_initial : (ks : List Kind) → (x : Initial) → (a b : ℕ) → HoldsInitial ks x a b → Spans (spell_initial x) a b
  spanned_initial ks (Value_of t) a b h = spanned ks t a b h.1
  spanned_initial ks (List_of i) a b h = spanned_braces ks i a b h

  pub spanned_piece : (ks : List Kind) → (x : Piece) → (a b : ℕ) → HoldsPiece ks x a b → Spans (spell_piece x) a b
  spanned_piece ks (Plain_of i) a b h = spanned_initial ks i a b h
  spanned_piece ks (Designated_of d ds e i) a b h =
      spans_join
      (spell_designator d)
      (spell_designators ds ++ (e ∷ spell_initial i))
      a
      h.0
      b
      (spanned_designator ks d a h.0 h.1)
      (spans_join
      (spell_designators ds)
      (e ∷ spell_initial i)
      h.0
      e
      b
      (spanned_designators ks ds h.0 e h.2)
      (refl, spanned_initial ks i (e + 1) b h.4))

  pub spanned_pieces : (ks : List Kind) → (xs : Pieces) → (a b : ℕ) → HoldPieces ks xs a b → Spans (spell_pieces xs) a b
  spanned_pieces ks No_pieces a b h = h
  spanned_pieces ks (Piece_then o p ps) a b h = (
    h.1,
    spans_join
        (spell_piece p)
        (spell_pieces ps)
        (a + 1)
        h.0
        b
        (spanned_piece ks p (a + 1) h.0 h.3)
        (spanned_pieces ks ps h.0 b h.4),
  )

  pub spanned_designator : (ks : List Kind) → (x : Designator) → (a b : ℕ) → HoldsDesignator ks x a b → Spans (spell_designator x) a b
  spanned_designator ks (Element_of o t c) a b h =
      (h.0, spans_join (spell t) (c ∷ []) (a + 1) c b (spanned ks t (a + 1) c h.3) (refl, h.5))
  spanned_designator ks (Field_of o n) a b h = (h.0, (h.2, h.4 ∙ ap (λ x. x + 1) h.2))

  pub spanned_designators : (ks : List Kind) → (xs : Designators) → (a b : ℕ) → HoldDesignators ks xs a b → Spans (spell_designators xs) a b
  spanned_designators ks No_designators a b h = h
  spanned_designators ks (Designator_then d ds) a b h =
      spans_join
      (spell_designator d)
      (spell_designators ds)
      a
      h.0
      b
      (spanned_designator ks d a h.0 h.1)
      (spanned_designators ks ds h.0 b h.2)

  pub spanned_association : (ks : List Kind) → (x : Association) → (a b : ℕ) → HoldsAssociation ks x a b → Spans (spell_association x) a b
  spanned_association ks (Typed_of t c e) a b h =
      spans_join (spell_type t) (c ∷ spell e) a c b (spanned_naming ks false t a c h.0) (refl, spanned ks e (c + 1) b h.3)
  spanned_association ks (Default_of d c e) a b h =
      (h.0, (h.2, subst (λ x. Spans (spell e) x b) (ap (λ x. x + 1) h.2) (spanned ks e (c + 1) b h.5)))

  pub spanned_associations : (ks : List Kind) → (xs : Associations) → (a b : ℕ) → HoldAssociations ks xs a b → Spans (spell_associations xs) a b
  spanned_associations ks No_associations a b h = h
  spanned_associations ks (Association_then o x xs) a b h = (
    h.1,
    spans_join
        (spell_association x)
        (spell_associations xs)
        (a + 1)
        h.0
        b
        (spanned_association ks x (a + 1) h.0 h.3)
        (spanned_associations ks xs h.0 b h.4),
  )

  pub spanned_specifying : (ks : List Kind) → (y : Bool) → (s : Specifying) → (a b : ℕ) → HoldSpecifying ks y s a b → Spans (spell_specifying s) a b
  spanned_specifying ks y (Word_of n) a b h = (h.0, h.2)
  spanned_specifying ks y (Typedef_of n) a b h = (h.0, h.3)
  spanned_specifying ks y (Tag_of k n) a b h = (h.0, (h.2, h.4 ∙ ap (λ x. x + 1) h.2))
  spanned_specifying ks y (Atomic_of k o t c) a b h = (
    h.0,
    (
      h.2,
      subst
          (λ x. Spans (spell_type t ++ c ∷ []) x b)
          (ap (λ x. x + 1) h.2)
          (spans_join (spell_type t) (c ∷ []) (o + 1) c b (spanned_naming ks false t (o + 1) c h.4) (refl, h.6)),
    ),
  )
  spanned_specifying ks y (Aligned_as_of k o t c) a b h = (
    h.0,
    (
      h.2,
      subst
          (λ x. Spans (spell_type t ++ c ∷ []) x b)
          (ap (λ x. x + 1) h.2)
          (spans_join (spell_type t) (c ∷ []) (o + 1) c b (spanned_naming ks false t (o + 1) c h.4) (refl, h.6)),
    ),
  )
  spanned_specifying ks y (Aligned_of k o t c) a b h = (
    h.0,
    (
      h.2,
      subst
          (λ x. Spans (spell t ++ c ∷ []) x b)
          (ap (λ x. x + 1) h.2)
          (spans_join (spell t) (c ∷ []) (o + 1) c b (spanned ks t (o + 1) c h.5) (refl, h.7)),
    ),
  )
  spanned_specifying ks y (Members_of k g o ms c) a b h = (
    h.0,
    spans_join
        (spell_tag g)
        (o ∷ (spell_members ms ++ c ∷ []))
        (a + 1)
        o
        b
        (tag_spanned ks g (a + 1) o h.2)
        (refl, spans_join (spell_members ms) (c ∷ []) (o + 1) c b (spanned_members ks ms (o + 1) c h.5) (refl, h.7)),
  )
  spanned_specifying ks y (Enumerators_of k g o e es t c) a b h = (
    h.2,
    spans_join
        (spell_tag g)
        (o ∷ (spell_enumerator e ++ (spell_enumerators es ++ (spell_comma t ++ c ∷ []))))
        (a + 1)
        o
        b
        (tag_spanned ks g (a + 1) o h.4) (
          refl,
          spans_join
              (spell_enumerator e)
              (spell_enumerators es ++ (spell_comma t ++ c ∷ []))
              (o + 1)
              h.0
              b
              (spanned_enumerator ks e (o + 1) h.0 h.6)
              (spans_join
              (spell_enumerators es)
              (spell_comma t ++ c ∷ [])
              h.0
              h.1
              b
              (spanned_enumerators ks es h.0 h.1 h.7)
              (spans_join (spell_comma t) (c ∷ []) h.1 c b (comma_spanned ks t h.1 c h.8) (refl, h.10))),
        ),
  )

  pub spanned_enumerator : (ks : List Kind) → (e : Enumerator) → (a b : ℕ) → HoldsEnumerator ks e a b → Spans (spell_enumerator e) a b
  spanned_enumerator ks (Counted_of n) a b h = (h.0, h.2)
  spanned_enumerator ks (Given_of n q t) a b h =
      (h.0, (h.2, subst (λ x. Spans (spell t) x b) (ap (λ x. x + 1) h.2) (spanned ks t (q + 1) b h.5)))

  pub spanned_enumerators : (ks : List Kind) → (es : Enumerators) → (a b : ℕ) → HoldEnumerators ks es a b → Spans (spell_enumerators es) a b
  spanned_enumerators ks No_enumerators a b h = h
  spanned_enumerators ks (Enumerator_then o e es) a b h = (
    h.1,
    spans_join
        (spell_enumerator e)
        (spell_enumerators es)
        (a + 1)
        h.0
        b
        (spanned_enumerator ks e (a + 1) h.0 h.3)
        (spanned_enumerators ks es h.0 b h.4),
  )

  pub spanned_member : (ks : List Kind) → (x : Member) → (a b : ℕ) → HoldsMember ks x a b → Spans (spell_member x) a b
  spanned_member ks (Bare_of ss e) a b h =
      spans_join (spell_specifyings ss) (e ∷ []) a e b (spanned_specifyings ks false ss a e h.1) (refl, h.4)
  spanned_member ks (Fields_of ss f fs e) a b h =
      spans_join
      (spell_specifyings ss)
      (spell_field f ++ (spell_fields fs ++ e ∷ []))
      a
      h.0
      b
      (spanned_specifyings ks false ss a h.0 h.3)
      (spans_join
      (spell_field f)
      (spell_fields fs ++ e ∷ [])
      h.0
      h.1
      b
      (spanned_field ks (not (typed_by ks false ss)) f h.0 h.1 h.5)
      (spans_join (spell_fields fs) (e ∷ []) h.1 e b (spanned_fields ks fs h.1 e h.6) (refl, h.8)))
  spanned_member ks (Asserted_of x) a b h = spanned_assertion ks x a b h

  pub spanned_members : (ks : List Kind) → (xs : Members) → (a b : ℕ) → HoldMembers ks xs a b → Spans (spell_members xs) a b
  spanned_members ks No_members a b h = h
  spanned_members ks (Member_then x xs) a b h =
      spans_join (spell_member x) (spell_members xs) a h.0 b (spanned_member ks x a h.0 h.1) (spanned_members ks xs h.0 b h.2)

  pub spanned_field : (ks : List Kind) → (y : Bool) → (f : Field) → (a b : ℕ) → HoldsField ks y f a b → Spans (spell_field f) a b
  spanned_field ks y (Declared_of d) a b h = spanned_declarator ks y d a b h
  spanned_field ks y (Bits_of d c w) a b h =
      spans_join (spell_declaring d) (c ∷ spell w) a c b (spanned_declarator ks y d a c h.0) (refl, spanned ks w (c + 1) b h.3)
  spanned_field ks y (Padding_of c w) a b h = (h.0, spanned ks w (a + 1) b h.3)

  pub spanned_fields : (ks : List Kind) → (fs : Fields) → (a b : ℕ) → HoldFields ks fs a b → Spans (spell_fields fs) a b
  spanned_fields ks No_fields a b h = h
  spanned_fields ks (Field_then o f fs) a b h = (
    h.1,
    spans_join (spell_field f) (spell_fields fs) (a + 1) h.0 b (spanned_field ks false f (a + 1) h.0 h.3) (spanned_fields ks fs h.0 b h.4),
  )

  pub spanned_assertion : (ks : List Kind) → (x : Assertion) → (a b : ℕ) → HoldsAssertion ks x a b → Spans (spell_assertion x) a b
  spanned_assertion ks (Assertion_of k o t c ns p e) a b h = (
    h.0,
    (
      h.2,
      subst
          (λ x. Spans (spell t ++ (c ∷ (ns ++ (p ∷ e ∷ [])))) x b)
          (ap (λ x. x + 1) h.2)
          (spans_join
          (spell t)
          (c ∷ (ns ++ (p ∷ e ∷ [])))
          (o + 1)
          c
          b
          (spanned ks t (o + 1) c h.5)
          (refl, spans_join ns (p ∷ e ∷ []) (c + 1) p b (texts_span ks ns (c + 1) p h.8) (refl, (h.10, h.12 ∙ ap (λ x. x + 1) h.10)))),
    ),
  )

  pub spanned_declarator : (ks : List Kind) → (y : Bool) → (d : Declaring) → (a b : ℕ) → HoldsDeclarator ks y d a b → Spans (spell_declaring d) a b
  spanned_declarator ks y (Declaring_of ps g ds) a b h =
      spans_join
      (spell_pointers ps)
      (spell_grouping g ++ spell_derivings ds)
      a
      h.0
      b
      (pointers_spanned ks ps a h.0 h.2)
      (spans_join
      (spell_grouping g)
      (spell_derivings ds)
      h.0
      h.1
      b
      (spanned_direct ks (plain_behind y ps) g h.0 h.1 h.3)
      (spanned_derivings ks ds h.1 b h.4))

  pub spanned_direct : (ks : List Kind) → (y : Bool) → (g : Grouping) → (a b : ℕ) → HoldsDirect ks y g a b → Spans (spell_grouping g) a b
  spanned_direct ks y No_group a b h = absurd h
  spanned_direct ks y (Named_of n) a b h = (h.0, h.2)
  spanned_direct ks y (Group_of o d c) a b h =
      (h.0, spans_join (spell_declaring d) (c ∷ []) (a + 1) c b (spanned_declarator ks false d (a + 1) c h.2) (refl, h.4))

  pub spanned_specifyings : (ks : List Kind) → (y : Bool) → (ss : Specifyings) → (a b : ℕ) → HoldSpecifyings ks y ss a b
      → Spans (spell_specifyings ss) a b
  spanned_specifyings ks y No_specifiers a b h = h
  spanned_specifyings ks y (Specifier_then s ss) a b h =
      spans_join
      (spell_specifying s)
      (spell_specifyings ss)
      a
      h.0
      b
      (spanned_specifying ks y s a h.0 h.1)
      (spanned_specifyings ks (has_type ks s || y) ss h.0 b h.2)

  pub spanned_naming : (ks : List Kind) → (y : Bool) → (t : Naming) → (a b : ℕ) → HoldsNaming ks y t a b → Spans (spell_type t) a b
  spanned_naming ks y (Type_of ss d) a b h =
      spans_join
      (spell_specifyings ss)
      (spell_declaring d)
      a
      h.0
      b
      (spanned_specifyings ks false ss a h.0 h.2)
      (spanned_declaring ks (named_by y (typed_by ks false ss)) d h.0 b h.3)

  pub spanned_declaring : (ks : List Kind) → (y : Named) → (d : Declaring) → (a b : ℕ) → HoldsDeclaring ks y d a b → Spans (spell_declaring d) a b
  spanned_declaring ks y (Declaring_of ps g ds) a b h =
      spans_join
      (spell_pointers ps)
      (spell_grouping g ++ spell_derivings ds)
      a
      h.0
      b
      (pointers_spanned ks ps a h.0 h.2)
      (spans_join
      (spell_grouping g)
      (spell_derivings ds)
      h.0
      h.1
      b
      (spanned_grouping ks (behind_pointers y ps) g h.0 h.1 h.3)
      (spanned_derivings ks ds h.1 b h.4))

  pub spanned_grouping : (ks : List Kind) → (y : Named) → (g : Grouping) → (a b : ℕ) → HoldsGrouping ks y g a b → Spans (spell_grouping g) a b
  spanned_grouping ks y No_group a b h = h
  spanned_grouping ks y (Named_of n) a b h = (h.0, h.2)
  spanned_grouping ks y (Group_of o d c) a b h =
      (h.0, spans_join (spell_declaring d) (c ∷ []) (a + 1) c b (spanned_declaring ks (grouped y) d (a + 1) c h.3) (refl, h.5))

  pub spanned_deriving : (ks : List Kind) → (d : Deriving) → (a b : ℕ) → HoldsDeriving ks d a b → Spans (spell_deriving d) a b
  spanned_deriving ks (Array_of o x c) a b h =
      (h.0, spans_join (spell_bound x) (c ∷ []) (a + 1) c b (spanned_bound ks x (a + 1) c h.2) (refl, h.4))
  spanned_deriving ks (Function_of o ps c) a b h =
      (h.0, spans_join (spell_parameters ps) (c ∷ []) (a + 1) c b (spanned_parameters ks ps (a + 1) c h.2) (refl, h.4))

  pub spanned_parameters : (ks : List Kind) → (ps : Parameters) → (a b : ℕ) → HoldParameters ks ps a b → Spans (spell_parameters ps) a b
  spanned_parameters ks No_parameters a b h = h
  spanned_parameters ks (Fixed_of p ps) a b h =
      spans_join (spell_type p) (spell_row ps) a h.0 b (spanned_naming ks true p a h.0 h.1) (spanned_row (past ks p) ps h.0 b h.2)
  spanned_parameters ks (Names_of n ns) a b h = (h.0, names_spanned ks ns (a + 1) b h.2)
  spanned_parameters ks (Variadic_of p ps o d) a b h =
      spans_join
      (spell_type p)
      (spell_row ps ++ (o ∷ d ∷ []))
      a
      h.0
      b
      (spanned_naming ks true p a h.0 h.1)
      (spans_join (spell_row ps) (o ∷ d ∷ []) h.0 o b (spanned_row (past ks p) ps h.0 o h.2) (refl, (h.4, h.6 ∙ ap (λ x. x + 1) h.4)))

  pub spanned_row : (ks : List Kind) → (ps : Row) → (a b : ℕ) → HoldRow ks ps a b → Spans (spell_row ps) a b
  spanned_row ks No_more a b h = h
  spanned_row ks (Parameter_then o p ps) a b h = (
    h.1,
    spans_join
        (spell_type p)
        (spell_row ps)
        (a + 1)
        h.0
        b
        (spanned_naming ks true p (a + 1) h.0 h.3)
        (spanned_row (past ks p) ps h.0 b h.4),
  )

  pub spanned_derivings : (ks : List Kind) → (ds : Derivings) → (a b : ℕ) → HoldDerivings ks ds a b → Spans (spell_derivings ds) a b
  spanned_derivings ks No_derivings a b h = h
  spanned_derivings ks (Deriving_then d ds) a b h =
      spans_join
      (spell_deriving d)
      (spell_derivings ds)
      a
      h.0
      b
      (spanned_deriving ks d a h.0 h.1)
      (spanned_derivings ks ds h.0 b h.2)

  pub spanned_bound : (ks : List Kind) → (x : Bound) → (a b : ℕ) → HoldsBound ks x a b → Spans (spell_bound x) a b
  spanned_bound ks (Unsized_of ns) a b h = qualifiers_spanned ks ns a b h
  spanned_bound ks (Sized_of ns t) a b h =
      spans_join ns (spell t) a h.0 b (qualifiers_spanned ks ns a h.0 h.1) (spanned ks t h.0 b h.3)
  spanned_bound ks (Static_sized_of n ns t) a b h =
      (h.1, spans_join ns (spell t) (a + 1) h.0 b (qualifiers_spanned ks ns (a + 1) h.0 h.3) (spanned ks t h.0 b h.5))
  spanned_bound ks (Sized_static_of ns n t) a b h =
      spans_join ns (n ∷ spell t) a n b (qualifiers_spanned ks ns a n h.1) (refl, spanned ks t (n + 1) b h.4)
  spanned_bound ks (Any_size_of ns n) a b h = spans_join ns (n ∷ []) a n b (qualifiers_spanned ks ns a n h.0) (refl, h.2)
