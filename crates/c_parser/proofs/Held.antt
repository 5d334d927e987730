-- What is formed holds where the numbers that it spells are.
use Rattle.std.proofs.Common.{◌≡◌, ap, sym, ◌∙◌, subst, ℕ, ◌+◌, ◌<◌, arith, not, List, [], ◌∷◌, ◌++◌, ◌||◌, Bool, true, false, Option, Some, None}
use Rattle.tree_data.specs.Trees.{Tree, Name_of, Constant_of, Text_of, Paren_of, Postfix_of, Unary_of, Binary_of, Conditional_of, Assign_of, Of_type, Compound_of, Behind, Operand_of, Index_of, Call_of, Call_with_of, Member_of, Step_of, Behinds, None_behind, Behind_then, Front, Operator_of, Cast_of, Choice_of, Left_of, Fronts, None_before, Front_then, Braces, Braces_of, Initial, Value_of, List_of, Piece, Plain_of, Designated_of, Pieces, No_pieces, Piece_then, Designator, Element_of, Field_of, Designators, No_designators, Designator_then, Generic_of, Offset_of, Association, Typed_of, Default_of, Associations, No_associations, Association_then, Specifying, Word_of, Typedef_of, Tag_of, Atomic_of, Specifyings, No_specifiers, Specifier_then, Naming, Type_of, Declaring, Declaring_of, No_parameters, Fixed_of, Variadic_of, Names_of, Parameters, Row, No_more, Parameter_then, Named_of, Grouping, No_group, Group_of, Deriving, Array_of, Function_of, Derivings, No_derivings, Deriving_then, Bound, Unsized_of, Any_size_of, Sized_of, Static_sized_of, Sized_static_of, Aligned_as_of, Aligned_of, Members_of, Enumerators_of, Member, Bare_of, Fields_of, Asserted_of, Members, No_members, Member_then, Field, Declared_of, Bits_of, Padding_of, Fields, No_fields, Field_then, Assertion, Assertion_of, Enumerator, Counted_of, Given_of, Enumerators, No_enumerators, Enumerator_then}
use Rattle.c_parser.specs.declared.kinds.Kind.{Kind}
use Rattle.c_parser.specs.declared.kinds.Kind.TheVariants.{Text, OpenBrace}
use Rattle.c_parser.specs.Grammar.{spell, spell_behind, spell_behinds, spell_front, spell_fronts, IsFormed, IsBehind, AreBehind, IsInFront, AreInFront, GoOn, spell_comma, spell_braces, spell_initial, spell_piece, spell_pieces, spell_designator, spell_designators, IsComma, AreBraced, IsInitial, IsPiece, ArePieces, IsDesignator, AreDesignators, spell_association, spell_associations, IsAssociated, AreAssociated, spell_specifying, spell_specifyings, spell_type, spell_declaring, spell_grouping, spell_deriving, spell_derivings, spell_bound, has_type, IsSpecifying, AreSpecifying, IsNaming, AreParameters, AreMore, spell_parameters, spell_row, IsDeclaring, IsGrouping, IsDerived, AreDerived, IsBound, typed_by, past, spell_tag, spell_member, spell_members, spell_field, spell_fields, spell_assertion, IsTag, IsMember, AreMembers, IsField, AreFields, IsAsserted, IsDeclarator, IsDirect, AreTexts, spell_enumerator, spell_enumerators, IsEnumerator, AreEnumerators}
use Rattle.c_parser.specs.Kinds.{kind_at, level_at, is_prefix, is_size, casts_at, is_dot, is_member, specifies_at, named_by, grouped, behind_pointers, may_name, is_typedef, is_word, is_tagging, names_it, plain_behind}
use Rattle.c_parser.specs.Levels.{behinds_level}
use Rattle.c_parser.specs.Declarators.{spell_pointers}
use Rattle.c_parser.specs.Numbers.{Spans}
use Rattle.c_parser.proofs.Numbers.{spans_split, spans_forth}
use Rattle.c_parser.proofs.NameLists.{names_held}
use Rattle.c_parser.proofs.Types.{qualifiers_held, pointers_held}
use Rattle.c_parser.specs.Reading.{HoldTexts, Holds, HoldsBehind, HoldBehinds, HoldsFront, HoldFronts, HoldsComma, HoldBraces, HoldsInitial, HoldsPiece, HoldPieces, HoldsDesignator, HoldDesignators, HoldsAssociation, HoldAssociations, HoldQualifiers, HoldSpecifying, HoldSpecifyings, HoldsNaming, HoldParameters, HoldRow, HoldsDeclaring, HoldsGrouping, HoldsDeriving, HoldDerivings, HoldsBound, HoldsTag, HoldsMember, HoldMembers, HoldsField, HoldFields, HoldsAssertion, HoldsDeclarator, HoldsDirect, HoldsEnumerator, HoldEnumerators}
use Rattle.c_parser.specs.declared.kinds.Named.{Named}

pub comma_held : (ks : List Kind) → (t : Option ℕ) → (a b : ℕ) → IsComma ks t → Spans (spell_comma t) a b → HoldsComma ks t a b
comma_held ks None a b f s = s
comma_held ks (Some o) a b f s = (s.0, ap (λ x. kind_at ks x) (sym s.0) ∙ f, s.1)

pub texts_hold : (ks : List Kind) → (n : ℕ) → (ns : List ℕ) → (a b : ℕ) → n + 1 ≡ a → GoOn ks n ns → Spans ns a b → HoldTexts ks ns a b
texts_hold ks n [] a b e g s = (s, subst (λ x. kind_at ks x ≡ Text → ⊥) e g)
texts_hold ks n (m ∷ ms) a b e g s =
    (s.0, ap (λ x. kind_at ks x) (sym s.0) ∙ g.0, texts_hold ks m ms (a + 1) b (ap (λ x. x + 1) s.0) g.1 s.1)

-- some, as a string literal has them
pub texts_held : (ks : List Kind) → (ns : List ℕ) → (a b : ℕ) → AreTexts ks ns → Spans ns a b → (a < b) × HoldTexts ks ns a b
texts_held ks [] a b f s = absurd f
texts_held ks (n ∷ ns) a b f s = (
  omega (arith, spans_forth ns (a + 1) b s.1),
  (s.0, ap (λ x. kind_at ks x) (sym s.0) ∙ f.0, texts_hold ks n ns (a + 1) b (ap (λ x. x + 1) s.0) f.1 s.1),
)

pub tag_held : (ks : List Kind) → (g : Option ℕ) → (a b : ℕ) → IsTag ks g → Spans (spell_tag g) a b → HoldsTag ks g a b
tag_held ks None a b f s = s
tag_held ks (Some n) a b f s = (s.0, ap (λ x. is_word (kind_at ks x)) (sym s.0) ∙ f, s.1)

mutual
  pub held : (ks : List Kind) → (t : Tree) → (a b : ℕ) → IsFormed ks t → Spans (spell t) a b → Holds ks t a b
  held ks (Name_of n) a b f s = (s.0, ap (λ x. kind_at ks x) (sym s.0) ∙ f, s.1)
  held ks (Constant_of n) a b f s = (s.0, ap (λ x. kind_at ks x) (sym s.0) ∙ f, s.1)
  held ks (Text_of []) a b f s = absurd f
  held ks (Text_of (n ∷ ns)) a b f s =
      let here : kind_at ks a ≡ Text = ap (λ x. kind_at ks x) (sym s.0) ∙ f.0 in
      (here, (s.0, here, texts_hold ks n ns (a + 1) b (ap (λ x. x + 1) s.0) f.1 s.1))
  held ks (Paren_of o t c) a b f s =
      let r = spans_split (spell t) (c ∷ []) (a + 1) b s.1 in (
        s.0,
        ap (λ x. kind_at ks x) (sym s.0) ∙ f.0,
        f.1,
        subst (λ x. Holds ks t (a + 1) x) (sym r.back.0) (held ks t (a + 1) r.at f.2 r.front),
        f.3,
        r.back.1 ∙ ap (λ x. x + 1) (sym r.back.0),
      )
  held ks (Postfix_of t bs) a b f s =
      let r = spans_split (spell t) (spell_behinds bs) a b s in
      (r.at, f.0, f.2, held ks t a r.at f.3 r.front, held_behinds ks 16 bs r.at b f.4 r.back, f.1)
  held ks (Of_type k o t c) a b f s =
      let r = spans_split (spell_type t) (c ∷ []) ((a + 1) + 1) b s.1.1 in (
        s.0,
        ap (λ x. is_size (kind_at ks x)) (sym s.0) ∙ f.0,
        s.1.0,
        f.1,
        subst
            (λ x. HoldsNaming ks false t (x + 1) c)
            (sym s.1.0)
            (subst (λ x. HoldsNaming ks false t ((a + 1) + 1) x) (sym r.back.0) (held_naming ks false t ((a + 1) + 1) r.at f.2 r.front)),
        f.3,
        r.back.1 ∙ ap (λ x. x + 1) (sym r.back.0),
        subst (λ x. kind_at ks x ≡ OpenBrace → ⊥) (sym (r.back.1 ∙ ap (λ x. x + 1) (sym r.back.0))) f.4,
      )
  held ks (Compound_of o t c i) a b f s =
      let r = spans_split (spell_type t) (c ∷ spell_braces i) (a + 1) b s.1 in (
        s.0,
        ap (λ x. kind_at ks x) (sym s.0) ∙ f.0,
        subst (λ x. HoldsNaming ks false t (a + 1) x) (sym r.back.0) (held_naming ks false t (a + 1) r.at f.1 r.front),
        f.2,
        subst (λ x. HoldBraces ks i (x + 1) b) (sym r.back.0) (held_braces ks i (r.at + 1) b f.3 r.back.1),
      )
  held ks (Generic_of k o t gs c) a b f s =
      let r = spans_split (spell t) (spell_associations gs ++ c ∷ []) ((a + 1) + 1) b s.1.1 in
      let q = spans_split (spell_associations gs) (c ∷ []) r.at b r.back in (
        r.at,
        s.0,
        ap (λ x. kind_at ks x) (sym s.0) ∙ f.0,
        s.1.0,
        f.1,
        f.2,
        subst (λ x. Holds ks t (x + 1) r.at) (sym s.1.0) (held ks t ((a + 1) + 1) r.at f.3 r.front),
        f.4,
        subst (λ x. HoldAssociations ks gs r.at x) (sym q.back.0) (held_associations ks gs r.at q.at f.5 q.front),
        f.6,
        q.back.1 ∙ ap (λ x. x + 1) (sym q.back.0),
      )
  held ks (Offset_of k o t m n bs c) a b f s =
      let r = spans_split (spell_type t) (m ∷ n ∷ (spell_behinds bs ++ c ∷ [])) ((a + 1) + 1) b s.1.1 in
      let q = spans_split (spell_behinds bs) (c ∷ []) ((r.at + 1) + 1) b r.back.1.1 in (
        s.0,
        ap (λ x. kind_at ks x) (sym s.0) ∙ f.0,
        s.1.0,
        f.1,
        subst
            (λ x. HoldsNaming ks false t (x + 1) m)
            (sym s.1.0)
            (subst (λ x. HoldsNaming ks false t ((a + 1) + 1) x) (sym r.back.0) (held_naming ks false t ((a + 1) + 1) r.at f.2 r.front)),
        f.3,
        r.back.1.0 ∙ ap (λ x. x + 1) (sym r.back.0),
        f.4,
        f.5,
        subst
            (λ x. HoldBehinds ks 16 bs (x + 1) c)
            (sym r.back.1.0)
            (subst (λ x. HoldBehinds ks 16 bs ((r.at + 1) + 1) x) (sym q.back.0) (held_behinds ks 16 bs ((r.at + 1) + 1) q.at f.6 q.front)),
        f.7,
        q.back.1 ∙ ap (λ x. x + 1) (sym q.back.0),
      )
  held ks (Unary_of fs t) a b f s =
      let r = spans_split (spell_fronts fs) (spell t) a b s in
      (r.at, f.0, held_fronts ks 15 fs a r.at f.1 r.front, f.2, held ks t r.at b f.3 r.back)
  held ks (Binary_of t bs) a b f s =
      let r = spans_split (spell t) (spell_behinds bs) a b s in
      (r.at, f.0, f.1, f.2, held ks t a r.at f.3 r.front, held_behinds ks (behinds_level ks bs) bs r.at b f.4 r.back)
  held ks (Conditional_of fs t) a b f s =
      let r = spans_split (spell_fronts fs) (spell t) a b s in
      (r.at, f.0, held_fronts ks 3 fs a r.at f.1 r.front, f.2, held ks t r.at b f.3 r.back)
  held ks (Assign_of fs t) a b f s =
      let r = spans_split (spell_fronts fs) (spell t) a b s in
      (r.at, f.0, held_fronts ks 2 fs a r.at f.1 r.front, f.2, held ks t r.at b f.3 r.back)

  pub held_behind : (ks : List Kind) → (l : ℕ) → (x : Behind) → (a b : ℕ) → IsBehind ks l x → Spans (spell_behind x) a b → HoldsBehind ks l x a b
  held_behind ks l (Operand_of o t) a b f s =
      (f.0, s.0, ap (λ x. level_at ks x) (sym s.0) ∙ f.1, f.2, held ks t (a + 1) b f.3 s.1)
  held_behind ks l (Index_of o t c) a b f s =
      let r = spans_split (spell t) (c ∷ []) (a + 1) b s.1 in (
        f.0,
        s.0,
        ap (λ x. kind_at ks x) (sym s.0) ∙ f.1,
        f.2,
        subst (λ x. Holds ks t (a + 1) x) (sym r.back.0) (held ks t (a + 1) r.at f.3 r.front),
        f.4,
        r.back.1 ∙ ap (λ x. x + 1) (sym r.back.0),
      )
  held_behind ks l (Call_of o c) a b f s =
      (f.0, s.0, ap (λ x. kind_at ks x) (sym s.0) ∙ f.1, s.1.0, f.2, s.1.1 ∙ ap (λ x. x + 1) (sym s.1.0))
  held_behind ks l (Call_with_of o t bs c) a b f s =
      let r = spans_split (spell t) (spell_behinds bs ++ c ∷ []) (a + 1) b s.1 in
      let q = spans_split (spell_behinds bs) (c ∷ []) r.at b r.back in (
        r.at,
        f.0,
        s.0,
        ap (λ x. kind_at ks x) (sym s.0) ∙ f.1,
        f.2,
        held ks t (a + 1) r.at f.3 r.front,
        subst (λ x. HoldBehinds ks 1 bs r.at x) (sym q.back.0) (held_behinds ks 1 bs r.at q.at f.4 q.front),
        f.5,
        q.back.1 ∙ ap (λ x. x + 1) (sym q.back.0),
      )
  held_behind ks l (Member_of o n) a b f s =
      (f.0, s.0, ap (λ x. is_member (kind_at ks x)) (sym s.0) ∙ f.1, s.1.0, f.2, s.1.1 ∙ ap (λ x. x + 1) (sym s.1.0))
  held_behind ks l (Step_of o) a b f s = (f.0, s.0, ap (λ x. kind_at ks x) (sym s.0) ∙ f.1, s.1)

  pub held_behinds : (ks : List Kind) → (l : ℕ) → (xs : Behinds) → (a b : ℕ) → AreBehind ks l xs → Spans (spell_behinds xs) a b → HoldBehinds ks l xs a b
  held_behinds ks l None_behind a b f s = s
  held_behinds ks l (Behind_then x xs) a b f s =
      let r = spans_split (spell_behind x) (spell_behinds xs) a b s in
      (r.at, held_behind ks l x a r.at f.0 r.front, held_behinds ks l xs r.at b f.1 r.back)

  pub held_front : (ks : List Kind) → (l : ℕ) → (x : Front) → (a b : ℕ) → IsInFront ks l x → Spans (spell_front x) a b → HoldsFront ks l x a b
  held_front ks l (Operator_of o) a b f s =
      (f.0, s.0, ap (λ x. is_prefix (kind_at ks x)) (sym s.0) ∙ f.1, s.1)
  held_front ks l (Cast_of o t c) a b f s =
      let r = spans_split (spell_type t) (c ∷ []) (a + 1) b s.1 in (
        f.0,
        s.0,
        ap (λ x. kind_at ks x) (sym s.0) ∙ f.1,
        ap (λ x. casts_at ks x) (sym s.0) ∙ f.2,
        subst (λ x. HoldsNaming ks false t (a + 1) x) (sym r.back.0) (held_naming ks false t (a + 1) r.at f.3 r.front),
        f.4,
        r.back.1 ∙ ap (λ x. x + 1) (sym r.back.0),
        subst (λ x. kind_at ks x ≡ OpenBrace → ⊥) (sym (r.back.1 ∙ ap (λ x. x + 1) (sym r.back.0))) f.5,
      )
  held_front ks l (Choice_of t q e c) a b f s =
      let r = spans_split (spell t) (q ∷ (spell e ++ c ∷ [])) a b s in
      let p = spans_split (spell e) (c ∷ []) (r.at + 1) b r.back.1 in (
        f.0,
        f.1,
        subst (λ x. Holds ks t a x) (sym r.back.0) (held ks t a r.at f.2 r.front),
        f.3,
        f.4,
        subst
            (λ x. Holds ks e (x + 1) c)
            (sym r.back.0)
            (subst (λ x. Holds ks e (r.at + 1) x) (sym p.back.0) (held ks e (r.at + 1) p.at f.5 p.front)),
        f.6,
        p.back.1 ∙ ap (λ x. x + 1) (sym p.back.0),
      )
  held_front ks l (Left_of t o) a b f s =
      let r = spans_split (spell t) (o ∷ []) a b s in (
        f.0,
        f.1,
        subst (λ x. Holds ks t a x) (sym r.back.0) (held ks t a r.at f.2 r.front),
        f.3,
        r.back.1 ∙ ap (λ x. x + 1) (sym r.back.0),
      )

  pub held_fronts : (ks : List Kind) → (l : ℕ) → (xs : Fronts) → (a b : ℕ) → AreInFront ks l xs → Spans (spell_fronts xs) a b → HoldFronts ks l xs a b
  held_fronts ks l None_before a b f s = s
  held_fronts ks l (Front_then x xs) a b f s =
      let r = spans_split (spell_front x) (spell_fronts xs) a b s in
      (r.at, held_front ks l x a r.at f.0 r.front, held_fronts ks l xs r.at b f.1 r.back)

  pub held_braces : (ks : List Kind) → (x : Braces) → (a b : ℕ) → AreBraced ks x → Spans (spell_braces x) a b → HoldBraces ks x a b
  held_braces ks (Braces_of o p ps t c) a b f s =
      let r = spans_split (spell_piece p) (spell_pieces ps ++ (spell_comma t ++ c ∷ [])) (a + 1) b s.1 in
      let q = spans_split (spell_pieces ps) (spell_comma t ++ c ∷ []) r.at b r.back in
      let u = spans_split (spell_comma t) (c ∷ []) q.at b q.back in (
        r.at,
        q.at,
        s.0,
        ap (λ x. kind_at ks x) (sym s.0) ∙ f.0,
        held_piece ks p (a + 1) r.at f.1 r.front,
        held_pieces ks ps r.at q.at f.2 q.front,
        subst (λ x. HoldsComma ks t q.at x) (sym u.back.0) (comma_held ks t q.at u.at f.3 u.front),
        f.4,
        u.back.1 ∙ ap (λ x. x + 1) (sym u.back.0),
      )

  pub held_initial : (ks : List Kind) → (x : Initial) → (a b : ℕ) → IsInitial ks x → Spans (spell_initial x) a b → HoldsInitial ks x a b
  held_initial ks (Value_of t) a b f s = (f.0, held ks t a b f.1 s)
  held_initial ks (List_of i) a b f s = held_braces ks i a b f s

  pub held_piece : (ks : List Kind) → (x : Piece) → (a b : ℕ) → IsPiece ks x → Spans (spell_piece x) a b → HoldsPiece ks x a b
  held_piece ks (Plain_of i) a b f s = held_initial ks i a b f s
  held_piece ks (Designated_of d ds e i) a b f s =
      let r = spans_split (spell_designator d) (spell_designators ds ++ (e ∷ spell_initial i)) a b s in
      let q = spans_split (spell_designators ds) (e ∷ spell_initial i) r.at b r.back in (
        r.at,
        held_designator ks d a r.at f.0 r.front,
        subst (λ x. HoldDesignators ks ds r.at x) (sym q.back.0) (held_designators ks ds r.at q.at f.1 q.front),
        f.2,
        subst (λ x. HoldsInitial ks i (x + 1) b) (sym q.back.0) (held_initial ks i (q.at + 1) b f.3 q.back.1),
      )

  pub held_pieces : (ks : List Kind) → (xs : Pieces) → (a b : ℕ) → ArePieces ks xs → Spans (spell_pieces xs) a b → HoldPieces ks xs a b
  held_pieces ks No_pieces a b f s = s
  held_pieces ks (Piece_then o p ps) a b f s =
      let r = spans_split (spell_piece p) (spell_pieces ps) (a + 1) b s.1 in (
        r.at,
        s.0,
        ap (λ x. kind_at ks x) (sym s.0) ∙ f.0,
        held_piece ks p (a + 1) r.at f.1 r.front,
        held_pieces ks ps r.at b f.2 r.back,
      )

  pub held_designator : (ks : List Kind) → (x : Designator) → (a b : ℕ) → IsDesignator ks x → Spans (spell_designator x) a b → HoldsDesignator ks x a b
  held_designator ks (Element_of o t c) a b f s =
      let r = spans_split (spell t) (c ∷ []) (a + 1) b s.1 in (
        s.0,
        ap (λ x. kind_at ks x) (sym s.0) ∙ f.0,
        f.1,
        subst (λ x. Holds ks t (a + 1) x) (sym r.back.0) (held ks t (a + 1) r.at f.2 r.front),
        f.3,
        r.back.1 ∙ ap (λ x. x + 1) (sym r.back.0),
      )
  held_designator ks (Field_of o n) a b f s =
      (s.0, ap (λ x. is_dot (kind_at ks x)) (sym s.0) ∙ f.0, s.1.0, f.1, s.1.1 ∙ ap (λ x. x + 1) (sym s.1.0))

  pub held_designators : (ks : List Kind) → (xs : Designators) → (a b : ℕ) → AreDesignators ks xs → Spans (spell_designators xs) a b
      → HoldDesignators ks xs a b
  held_designators ks No_designators a b f s = s
  held_designators ks (Designator_then d ds) a b f s =
      let r = spans_split (spell_designator d) (spell_designators ds) a b s in
      (r.at, held_designator ks d a r.at f.0 r.front, held_designators ks ds r.at b f.1 r.back)

  pub held_association : (ks : List Kind) → (x : Association) → (a b : ℕ) → IsAssociated ks x → Spans (spell_association x) a b → HoldsAssociation ks x a b
  held_association ks (Typed_of t c e) a b f s =
      let r = spans_split (spell_type t) (c ∷ spell e) a b s in (
        subst (λ x. HoldsNaming ks false t a x) (sym r.back.0) (held_naming ks false t a r.at f.0 r.front),
        f.1,
        f.2,
        subst (λ x. Holds ks e (x + 1) b) (sym r.back.0) (held ks e (r.at + 1) b f.3 r.back.1),
      )
  held_association ks (Default_of d c e) a b f s = (
    s.0,
    ap (λ x. kind_at ks x) (sym s.0) ∙ f.0,
    s.1.0,
    f.1,
    f.2,
    subst (λ x. Holds ks e (x + 1) b) (sym s.1.0) (held ks e ((a + 1) + 1) b f.3 s.1.1),
  )

  pub held_associations : (ks : List Kind) → (xs : Associations) → (a b : ℕ) → AreAssociated ks xs → Spans (spell_associations xs) a b
      → HoldAssociations ks xs a b
  held_associations ks No_associations a b f s = s
  held_associations ks (Association_then o x xs) a b f s =
      let r = spans_split (spell_association x) (spell_associations xs) (a + 1) b s.1 in (
        r.at,
        s.0,
        ap (λ x. kind_at ks x) (sym s.0) ∙ f.0,
        held_association ks x (a + 1) r.at f.1 r.front,
        held_associations ks xs r.at b f.2 r.back,
      )

  pub held_specifying : (ks : List Kind) → (y : Bool) → (x : Specifying) → (a b : ℕ) → IsSpecifying ks y x → Spans (spell_specifying x) a b
      → HoldSpecifying ks y x a b
  held_specifying ks y (Word_of n) a b f s = (s.0, ap (λ x. specifies_at ks x) (sym s.0) ∙ f, s.1)
  held_specifying ks y (Typedef_of n) a b f s = (s.0, f.0, ap (λ x. is_typedef (kind_at ks x)) (sym s.0) ∙ f.1, s.1)
  held_specifying ks y (Tag_of k n) a b f s =
      let end = s.1.1 ∙ ap (λ x. x + 1) (sym s.1.0) in (
        s.0,
        ap (λ x. is_tagging (kind_at ks x)) (sym s.0) ∙ f.0,
        s.1.0,
        f.1,
        end,
        subst (λ x. kind_at ks x ≡ OpenBrace → ⊥) (sym end) f.2,
      )
  held_specifying ks y (Atomic_of k o t c) a b f s =
      let r = spans_split (spell_type t) (c ∷ []) ((a + 1) + 1) b s.1.1 in (
        s.0,
        ap (λ x. kind_at ks x) (sym s.0) ∙ f.0,
        s.1.0,
        f.1,
        subst
            (λ x. HoldsNaming ks false t (x + 1) c)
            (sym s.1.0)
            (subst (λ x. HoldsNaming ks false t ((a + 1) + 1) x) (sym r.back.0) (held_naming ks false t ((a + 1) + 1) r.at f.2 r.front)),
        f.3,
        r.back.1 ∙ ap (λ x. x + 1) (sym r.back.0),
      )
  held_specifying ks y (Aligned_as_of k o t c) a b f s =
      let r = spans_split (spell_type t) (c ∷ []) ((a + 1) + 1) b s.1.1 in (
        s.0,
        ap (λ x. kind_at ks x) (sym s.0) ∙ f.0,
        s.1.0,
        f.1,
        subst
            (λ x. HoldsNaming ks false t (x + 1) c)
            (sym s.1.0)
            (subst (λ x. HoldsNaming ks false t ((a + 1) + 1) x) (sym r.back.0) (held_naming ks false t ((a + 1) + 1) r.at f.2 r.front)),
        f.3,
        r.back.1 ∙ ap (λ x. x + 1) (sym r.back.0),
      )
  held_specifying ks y (Aligned_of k o t c) a b f s =
      let r = spans_split (spell t) (c ∷ []) ((a + 1) + 1) b s.1.1 in (
        s.0,
        ap (λ x. kind_at ks x) (sym s.0) ∙ f.0,
        s.1.0,
        f.1,
        f.2,
        subst
            (λ x. Holds ks t (x + 1) c)
            (sym s.1.0)
            (subst (λ x. Holds ks t ((a + 1) + 1) x) (sym r.back.0) (held ks t ((a + 1) + 1) r.at f.3 r.front)),
        f.4,
        r.back.1 ∙ ap (λ x. x + 1) (sym r.back.0),
      )
  held_specifying ks y (Members_of k g o ms c) a b f s =
      let q = spans_split (spell_tag g) (o ∷ (spell_members ms ++ c ∷ [])) (a + 1) b s.1 in
      let r = spans_split (spell_members ms) (c ∷ []) (q.at + 1) b q.back.1 in (
        s.0,
        ap (λ x. kind_at ks x) (sym s.0) ∙ f.0,
        subst (λ x. HoldsTag ks g (a + 1) x) (sym q.back.0) (tag_held ks g (a + 1) q.at f.1 q.front),
        f.2,
        f.3,
        subst
            (λ x. HoldMembers ks ms (x + 1) c)
            (sym q.back.0)
            (subst (λ x. HoldMembers ks ms (q.at + 1) x) (sym r.back.0) (held_members ks ms (q.at + 1) r.at f.4 r.front)),
        f.5,
        r.back.1 ∙ ap (λ x. x + 1) (sym r.back.0),
      )
  held_specifying ks y (Enumerators_of k g o e es t c) a b f s =
      let q = spans_split (spell_tag g) (o ∷ (spell_enumerator e ++ (spell_enumerators es ++ (spell_comma t ++ c ∷ [])))) (a + 1) b s.1 in
      let r = spans_split (spell_enumerator e) (spell_enumerators es ++ (spell_comma t ++ c ∷ [])) (q.at + 1) b q.back.1 in
      let u = spans_split (spell_enumerators es) (spell_comma t ++ c ∷ []) r.at b r.back in
      let v = spans_split (spell_comma t) (c ∷ []) u.at b u.back in (
        r.at,
        u.at,
        s.0,
        ap (λ x. kind_at ks x) (sym s.0) ∙ f.0,
        subst (λ x. HoldsTag ks g (a + 1) x) (sym q.back.0) (tag_held ks g (a + 1) q.at f.1 q.front),
        f.2,
        subst (λ x. HoldsEnumerator ks e (x + 1) r.at) (sym q.back.0) (held_enumerator ks e (q.at + 1) r.at f.3 r.front),
        held_enumerators ks es r.at u.at f.4 u.front,
        subst (λ x. HoldsComma ks t u.at x) (sym v.back.0) (comma_held ks t u.at v.at f.5 v.front),
        f.6,
        v.back.1 ∙ ap (λ x. x + 1) (sym v.back.0),
      )

  pub held_enumerator : (ks : List Kind) → (e : Enumerator) → (a b : ℕ) → IsEnumerator ks e → Spans (spell_enumerator e) a b → HoldsEnumerator ks e a b
  held_enumerator ks (Counted_of n) a b f s = (s.0, ap (λ x. is_word (kind_at ks x)) (sym s.0) ∙ f, s.1)
  held_enumerator ks (Given_of n q t) a b f s = (
    s.0,
    ap (λ x. is_word (kind_at ks x)) (sym s.0) ∙ f.0,
    s.1.0,
    f.1,
    f.2,
    subst (λ x. Holds ks t (x + 1) b) (sym s.1.0) (held ks t ((a + 1) + 1) b f.3 s.1.1),
  )

  pub held_enumerators : (ks : List Kind) → (es : Enumerators) → (a b : ℕ) → AreEnumerators ks es → Spans (spell_enumerators es) a b
      → HoldEnumerators ks es a b
  held_enumerators ks No_enumerators a b f s = s
  held_enumerators ks (Enumerator_then o e es) a b f s =
      let r = spans_split (spell_enumerator e) (spell_enumerators es) (a + 1) b s.1 in (
        r.at,
        s.0,
        ap (λ x. kind_at ks x) (sym s.0) ∙ f.0,
        held_enumerator ks e (a + 1) r.at f.1 r.front,
        held_enumerators ks es r.at b f.2 r.back,
      )

  pub held_member : (ks : List Kind) → (x : Member) → (a b : ℕ) → IsMember ks x → Spans (spell_member x) a b → HoldsMember ks x a b
  held_member ks (Bare_of ss e) a b f s =
      let r = spans_split (spell_specifyings ss) (e ∷ []) a b s in (
        f.0,
        subst (λ x. HoldSpecifyings ks false ss a x) (sym r.back.0) (held_specifyings ks false ss a r.at f.1 r.front),
        f.2,
        f.3,
        r.back.1 ∙ ap (λ x. x + 1) (sym r.back.0),
      )
  held_member ks (Fields_of ss g gs e) a b f s =
      let r = spans_split (spell_specifyings ss) (spell_field g ++ (spell_fields gs ++ e ∷ [])) a b s in
      let q = spans_split (spell_field g) (spell_fields gs ++ e ∷ []) r.at b r.back in
      let p = spans_split (spell_fields gs) (e ∷ []) q.at b q.back in (
        r.at,
        q.at,
        f.0,
        held_specifyings ks false ss a r.at f.1 r.front,
        f.2,
        held_field ks (not (typed_by ks false ss)) g r.at q.at f.3 q.front,
        subst (λ x. HoldFields ks gs q.at x) (sym p.back.0) (held_fields ks gs q.at p.at f.4 p.front),
        f.5,
        p.back.1 ∙ ap (λ x. x + 1) (sym p.back.0),
      )
  held_member ks (Asserted_of x) a b f s = held_assertion ks x a b f s

  pub held_members : (ks : List Kind) → (xs : Members) → (a b : ℕ) → AreMembers ks xs → Spans (spell_members xs) a b → HoldMembers ks xs a b
  held_members ks No_members a b f s = s
  held_members ks (Member_then x xs) a b f s =
      let r = spans_split (spell_member x) (spell_members xs) a b s in
      (r.at, held_member ks x a r.at f.0 r.front, held_members ks xs r.at b f.1 r.back)

  pub held_field : (ks : List Kind) → (y : Bool) → (g : Field) → (a b : ℕ) → IsField ks y g → Spans (spell_field g) a b → HoldsField ks y g a b
  held_field ks y (Declared_of d) a b f s = held_declarator ks y d a b f s
  held_field ks y (Bits_of d c w) a b f s =
      let r = spans_split (spell_declaring d) (c ∷ spell w) a b s in (
        subst (λ x. HoldsDeclarator ks y d a x) (sym r.back.0) (held_declarator ks y d a r.at f.0 r.front),
        f.1,
        f.2,
        subst (λ x. Holds ks w (x + 1) b) (sym r.back.0) (held ks w (r.at + 1) b f.3 r.back.1),
      )
  held_field ks y (Padding_of c w) a b f s = (s.0, ap (λ x. kind_at ks x) (sym s.0) ∙ f.0, f.1, held ks w (a + 1) b f.2 s.1)

  pub held_fields : (ks : List Kind) → (gs : Fields) → (a b : ℕ) → AreFields ks gs → Spans (spell_fields gs) a b → HoldFields ks gs a b
  held_fields ks No_fields a b f s = s
  held_fields ks (Field_then o g gs) a b f s =
      let r = spans_split (spell_field g) (spell_fields gs) (a + 1) b s.1 in (
        r.at,
        s.0,
        ap (λ x. kind_at ks x) (sym s.0) ∙ f.0,
        held_field ks false g (a + 1) r.at f.1 r.front,
        held_fields ks gs r.at b f.2 r.back,
      )

  pub held_assertion : (ks : List Kind) → (x : Assertion) → (a b : ℕ) → IsAsserted ks x → Spans (spell_assertion x) a b → HoldsAssertion ks x a b
  held_assertion ks (Assertion_of k o t c ns p e) a b f s =
      let r = spans_split (spell t) (c ∷ (ns ++ (p ∷ e ∷ []))) ((a + 1) + 1) b s.1.1 in
      let q = spans_split ns (p ∷ e ∷ []) (r.at + 1) b r.back.1 in
      let text = texts_held ks ns (r.at + 1) q.at f.5 q.front in (
        s.0,
        ap (λ x. kind_at ks x) (sym s.0) ∙ f.0,
        s.1.0,
        f.1,
        f.2,
        subst
            (λ x. Holds ks t (x + 1) c)
            (sym s.1.0)
            (subst (λ x. Holds ks t ((a + 1) + 1) x) (sym r.back.0) (held ks t ((a + 1) + 1) r.at f.3 r.front)),
        f.4,
        omega (arith, text.0, r.back.0, q.back.0),
        subst (λ x. HoldTexts ks ns (x + 1) p) (sym r.back.0) (subst (λ x. HoldTexts ks ns (r.at + 1) x) (sym q.back.0) text.1),
        f.6,
        q.back.1.0 ∙ ap (λ x. x + 1) (sym q.back.0),
        f.7,
        q.back.1.1 ∙ ap (λ x. x + 1) (sym q.back.1.0),
      )

  pub held_declarator : (ks : List Kind) → (y : Bool) → (d : Declaring) → (a b : ℕ) → IsDeclarator ks y d → Spans (spell_declaring d) a b
      → HoldsDeclarator ks y d a b
  held_declarator ks y (Declaring_of ps g ds) a b f s =
      let r = spans_split (spell_pointers ps) (spell_grouping g ++ spell_derivings ds) a b s in
      let q = spans_split (spell_grouping g) (spell_derivings ds) r.at b r.back in (
        r.at,
        q.at,
        pointers_held ks ps a r.at f.0 r.front,
        held_direct ks (plain_behind y ps) g r.at q.at f.1 q.front,
        held_derivings ks ds q.at b f.2 q.back,
      )

  pub held_direct : (ks : List Kind) → (y : Bool) → (g : Grouping) → (a b : ℕ) → IsDirect ks y g → Spans (spell_grouping g) a b → HoldsDirect ks y g a b
  held_direct ks y No_group a b f s = f
  held_direct ks y (Named_of n) a b f s = (s.0, ap (λ x. names_it y (kind_at ks x)) (sym s.0) ∙ f, s.1)
  held_direct ks y (Group_of o d c) a b f s =
      let r = spans_split (spell_declaring d) (c ∷ []) (a + 1) b s.1 in (
        s.0,
        ap (λ x. kind_at ks x) (sym s.0) ∙ f.0,
        subst (λ x. HoldsDeclarator ks false d (a + 1) x) (sym r.back.0) (held_declarator ks false d (a + 1) r.at f.1 r.front),
        f.2,
        r.back.1 ∙ ap (λ x. x + 1) (sym r.back.0),
      )

  pub held_specifyings : (ks : List Kind) → (y : Bool) → (xs : Specifyings) → (a b : ℕ) → AreSpecifying ks y xs → Spans (spell_specifyings xs) a b
      → HoldSpecifyings ks y xs a b
  held_specifyings ks y No_specifiers a b f s = s
  held_specifyings ks y (Specifier_then x xs) a b f s =
      let r = spans_split (spell_specifying x) (spell_specifyings xs) a b s in
      (r.at, held_specifying ks y x a r.at f.0 r.front, held_specifyings ks (has_type ks x || y) xs r.at b f.1 r.back)

  pub held_naming : (ks : List Kind) → (y : Bool) → (t : Naming) → (a b : ℕ) → IsNaming ks y t → Spans (spell_type t) a b → HoldsNaming ks y t a b
  held_naming ks y (Type_of xs d) a b f s =
      let r = spans_split (spell_specifyings xs) (spell_declaring d) a b s in
      (r.at, f.0, held_specifyings ks false xs a r.at f.1 r.front, held_declaring ks (named_by y (typed_by ks false xs)) d r.at b f.2 r.back, f.3)

  pub held_declaring : (ks : List Kind) → (y : Named) → (d : Declaring) → (a b : ℕ) → IsDeclaring ks y d → Spans (spell_declaring d) a b
      → HoldsDeclaring ks y d a b
  held_declaring ks y (Declaring_of ps g ds) a b f s =
      let r = spans_split (spell_pointers ps) (spell_grouping g ++ spell_derivings ds) a b s in
      let q = spans_split (spell_grouping g) (spell_derivings ds) r.at b r.back in (
        r.at,
        q.at,
        pointers_held ks ps a r.at f.0 r.front,
        held_grouping ks (behind_pointers y ps) g r.at q.at f.1 q.front,
        held_derivings ks ds q.at b f.2 q.back,
        f.3,
      )

  pub held_grouping : (ks : List Kind) → (y : Named) → (g : Grouping) → (a b : ℕ) → IsGrouping ks y g → Spans (spell_grouping g) a b
      → HoldsGrouping ks y g a b
  held_grouping ks y No_group a b f s = s
  held_grouping ks y (Named_of n) a b f s = (s.0, ap (λ x. may_name y (kind_at ks x)) (sym s.0) ∙ f, s.1)
  held_grouping ks y (Group_of o d c) a b f s =
      let r = spans_split (spell_declaring d) (c ∷ []) (a + 1) b s.1 in (
        s.0,
        ap (λ x. kind_at ks x) (sym s.0) ∙ f.0,
        f.1,
        subst (λ x. HoldsDeclaring ks (grouped y) d (a + 1) x) (sym r.back.0) (held_declaring ks (grouped y) d (a + 1) r.at f.2 r.front),
        f.3,
        r.back.1 ∙ ap (λ x. x + 1) (sym r.back.0),
      )

  pub held_deriving : (ks : List Kind) → (d : Deriving) → (a b : ℕ) → IsDerived ks d → Spans (spell_deriving d) a b → HoldsDeriving ks d a b
  held_deriving ks (Array_of o x c) a b f s =
      let r = spans_split (spell_bound x) (c ∷ []) (a + 1) b s.1 in (
        s.0,
        ap (λ y. kind_at ks y) (sym s.0) ∙ f.0,
        subst (λ y. HoldsBound ks x (a + 1) y) (sym r.back.0) (held_bound ks x (a + 1) r.at f.1 r.front),
        f.2,
        r.back.1 ∙ ap (λ y. y + 1) (sym r.back.0),
      )
  held_deriving ks (Function_of o ps c) a b f s =
      let r = spans_split (spell_parameters ps) (c ∷ []) (a + 1) b s.1 in (
        s.0,
        ap (λ x. kind_at ks x) (sym s.0) ∙ f.0,
        subst (λ x. HoldParameters ks ps (a + 1) x) (sym r.back.0) (held_parameters ks ps (a + 1) r.at f.1 r.front),
        f.2,
        r.back.1 ∙ ap (λ x. x + 1) (sym r.back.0),
        f.3,
      )

  pub held_parameters : (ks : List Kind) → (ps : Parameters) → (a b : ℕ) → AreParameters ks ps → Spans (spell_parameters ps) a b → HoldParameters ks ps a b
  held_parameters ks No_parameters a b f s = s
  held_parameters ks (Fixed_of p ps) a b f s =
      let r = spans_split (spell_type p) (spell_row ps) a b s in
      (r.at, held_naming ks true p a r.at f.0 r.front, held_row (past ks p) ps r.at b f.1 r.back)
  held_parameters ks (Names_of n ns) a b f s =
      (s.0, ap (λ x. kind_at ks x) (sym s.0) ∙ f.0, names_held ks ns (a + 1) b f.1 s.1)
  held_parameters ks (Variadic_of p ps o d) a b f s =
      let r = spans_split (spell_type p) (spell_row ps ++ (o ∷ d ∷ [])) a b s in
      let q = spans_split (spell_row ps) (o ∷ d ∷ []) r.at b r.back in (
        r.at,
        held_naming ks true p a r.at f.0 r.front,
        subst (λ x. HoldRow (past ks p) ps r.at x) (sym q.back.0) (held_row (past ks p) ps r.at q.at f.1 q.front),
        f.2,
        q.back.1.0 ∙ ap (λ x. x + 1) (sym q.back.0),
        f.3,
        q.back.1.1 ∙ ap (λ x. x + 1) (sym q.back.1.0),
      )

  pub held_row : (ks : List Kind) → (ps : Row) → (a b : ℕ) → AreMore ks ps → Spans (spell_row ps) a b → HoldRow ks ps a b
  held_row ks No_more a b f s = s
  held_row ks (Parameter_then o p ps) a b f s =
      let r = spans_split (spell_type p) (spell_row ps) (a + 1) b s.1 in (
        r.at,
        s.0,
        ap (λ x. kind_at ks x) (sym s.0) ∙ f.0,
        held_naming ks true p (a + 1) r.at f.1 r.front,
        held_row (past ks p) ps r.at b f.2 r.back,
      )

  pub held_derivings : (ks : List Kind) → (ds : Derivings) → (a b : ℕ) → AreDerived ks ds → Spans (spell_derivings ds) a b → HoldDerivings ks ds a b
  held_derivings ks No_derivings a b f s = s
  held_derivings ks (Deriving_then d ds) a b f s =
      let r = spans_split (spell_deriving d) (spell_derivings ds) a b s in
      (r.at, held_deriving ks d a r.at f.0 r.front, held_derivings ks ds r.at b f.1 r.back)

  pub held_bound : (ks : List Kind) → (x : Bound) → (a b : ℕ) → IsBound ks x → Spans (spell_bound x) a b → HoldsBound ks x a b
  held_bound ks (Unsized_of ns) a b f s = qualifiers_held ks ns a b f s
  held_bound ks (Sized_of ns t) a b f s =
      let r = spans_split ns (spell t) a b s in
      (r.at, qualifiers_held ks ns a r.at f.0 r.front, f.1, held ks t r.at b f.2 r.back)
  held_bound ks (Static_sized_of n ns t) a b f s =
      let r = spans_split ns (spell t) (a + 1) b s.1 in (
        r.at,
        s.0,
        ap (λ x. kind_at ks x) (sym s.0) ∙ f.0,
        qualifiers_held ks ns (a + 1) r.at f.1 r.front,
        f.2,
        held ks t r.at b f.3 r.back,
      )
  held_bound ks (Sized_static_of ns n t) a b f s =
      let r = spans_split ns (n ∷ spell t) a b s in (
        f.0,
        subst (λ x. HoldQualifiers ks ns a x) (sym r.back.0) (qualifiers_held ks ns a r.at f.1 r.front),
        f.2,
        f.3,
        subst (λ x. Holds ks t (x + 1) b) (sym r.back.0) (held ks t (r.at + 1) b f.4 r.back.1),
      )
  held_bound ks (Any_size_of ns n) a b f s =
      let r = spans_split ns (n ∷ []) a b s in (
        subst (λ x. HoldQualifiers ks ns a x) (sym r.back.0) (qualifiers_held ks ns a r.at f.0 r.front),
        f.1,
        r.back.1 ∙ ap (λ x. x + 1) (sym r.back.0),
      )
