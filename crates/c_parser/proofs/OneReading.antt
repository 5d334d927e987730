-- No two trees of a level hold from one place on, where the level stops behind them, and no two names of types stand from there on.
use Rattle.std.proofs.Common.{◌≡◌, refl, ap, sym, ◌∙◌, subst, ℕ, ◌+◌, ◌-◌, ◌≤◌, List, arith, true, true≢false, Option, Some, None, false}
use Rattle.tree_data.specs.Trees.{Tree, Name_of, Constant_of, Text_of, Paren_of, Postfix_of, Unary_of, Binary_of, Conditional_of, Assign_of, Of_type, Compound_of, Behind, Operand_of, Index_of, Call_of, Call_with_of, Member_of, Step_of, Behinds, None_behind, Behind_then, Front, Operator_of, Cast_of, Choice_of, Left_of, Fronts, None_before, Front_then, Braces, Braces_of, Initial, Value_of, List_of, Piece, Plain_of, Designated_of, Pieces, No_pieces, Piece_then, Designator, Element_of, Field_of, Designators, No_designators, Designator_then, Generic_of, Offset_of, Association, Typed_of, Default_of, Associations, No_associations, Association_then}
use Rattle.c_parser.specs.declared.kinds.Kind.{Kind}
use Rattle.c_parser.specs.declared.kinds.Kind.TheVariants.{CloseParen, CloseBracket, Question, Colon, OpenBrace, CloseBrace, Comma}
use Rattle.c_parser.specs.Kinds.{kind_at, ends_type, is_dot, is_equals, is_designating, starts_type}
use Rattle.c_parser.specs.Levels.{behinds_level, fronts_level, rank}
use Rattle.c_parser.specs.Reading.{Holds, HoldsBehind, HoldBehinds, HoldsFront, HoldFronts, Reads, Stops, HoldsComma, HoldBraces, HoldsInitial, HoldsPiece, HoldPieces, HoldsDesignator, HoldDesignators, HoldsAssociation, HoldAssociations, HoldsType}
use Rattle.c_parser.proofs.Marks.{clash, stops_at, is_start, start_designates_not, dot_designates, equals_designates_not}
use Rattle.c_parser.proofs.Views.{lowered, looser, loosely, begins, followed_more, preceded_more, fronts_low, fronts_high, postfix_view, binary_view, prefixed_view, conditional_view, assign_view, primary_view, starts}
use Rattle.c_parser.proofs.Forth.{tree_forth, behind_forth, front_forth, fronts_forth, piece_forth, designator_forth, designators_forth, association_forth, type_forth}
use Rattle.c_parser.proofs.Typed.{From, later, next, second, typed_next, typed_second}
use Rattle.c_parser.proofs.Types.{type_starts}
use Rattle.c_parser.proofs.SameParts.{Only, OnlyBehinds, OnlyBehind, OnlyFronts, any_stop, same_name, same_constant, same_text, closed, same_paren, same_size, OnlyBraces, same_compound, OnlyAssociations, associations_begin, same_generic, same_offset, following_only, preceding_only, none_behind, Fronting, by_operators, by_choices, by_places, below, none_before, placed, OnlyFront, operator_only, cast_only, choice_only, left_only, fronts_with, behinds_with, operand_only, index_closes, index_only, call_only, call_with_only, member_only, step_only, suffix_at, call_end}

-- what stands behind a piece of an initializer list
pub comma_begins : (ks : List Kind) → (t : Option ℕ) → (k c : ℕ) → HoldsComma ks t k c → kind_at ks c ≡ CloseBrace → Stops ks 2 k
comma_begins ks None k c h e = stops_at ks 2 k CloseBrace (ap (λ x. kind_at ks x) (sym h) ∙ e) (omega arith)
comma_begins ks (Some o) k c h e = stops_at ks 2 k Comma h.1 (omega arith)

pub pieces_begin : (ks : List Kind) → (ps : Pieces) → (m k : ℕ) → (t : Option ℕ) → (c : ℕ) → HoldPieces ks ps m k → HoldsComma ks t k c
    → kind_at ks c ≡ CloseBrace → Stops ks 2 m
pieces_begin ks No_pieces m k t c h g e = subst (λ x. Stops ks 2 x) h (comma_begins ks t k c g e)
pieces_begin ks (Piece_then o p ps) m k t c h g e = stops_at ks 2 m Comma h.2 (omega arith)

pub comma_only : (ks : List Kind) → (t : Option ℕ) → (k c : ℕ) → HoldsComma ks t k c → kind_at ks c ≡ CloseBrace
    → (t' : Option ℕ) → (c' : ℕ) → HoldsComma ks t' k c' → kind_at ks c' ≡ CloseBrace → (t ≡ t') × (c ≡ c')
comma_only ks None k c h e None c' h' e' = (refl, h ∙ sym h')
comma_only ks None k c h e (Some o) c' h' e' =
    clash (kind_at ks k) CloseBrace Comma (ap (λ x. kind_at ks x) (sym h) ∙ e) h'.1 (λ x. omega (arith, x))
comma_only ks (Some o) k c h e None c' h' e' =
    clash (kind_at ks k) Comma CloseBrace h.1 (ap (λ x. kind_at ks x) (sym h') ∙ e') (λ x. omega (arith, x))
comma_only ks (Some o) k c h e (Some o') c' h' e' = (ap Some (h.0 ∙ sym h'.0), h.2 ∙ sym h'.2)

-- what pieces begin with
pub braces_begin : (ks : List Kind) → (x : Braces) → (a b : ℕ) → HoldBraces ks x a b → kind_at ks a ≡ OpenBrace
braces_begin ks (Braces_of o p ps t c) a b h = h.3

pub initial_begins : (ks : List Kind) → (x : Initial) → (a b : ℕ) → HoldsInitial ks x a b → is_designating (kind_at ks a) ≡ false
initial_begins ks (Value_of t) a b h = start_designates_not (kind_at ks a) (starts ks t a b h.1)
initial_begins ks (List_of i) a b h = ap is_designating (braces_begin ks i a b h)

pub designator_begins : (ks : List Kind) → (x : Designator) → (a b : ℕ) → HoldsDesignator ks x a b → is_designating (kind_at ks a) ≡ true
designator_begins ks (Element_of o t c) a b h = ap is_designating h.1
designator_begins ks (Field_of o n) a b h = dot_designates (kind_at ks a) h.1

initial_closes_not : (ks : List Kind) → (x : Initial) → (a b : ℕ) → HoldsInitial ks x a b → kind_at ks a ≡ CloseBrace → ⊥
initial_closes_not ks (Value_of t) a b h e = true≢false (sym (starts ks t a b h.1) ∙ ap is_start e)
initial_closes_not ks (List_of i) a b h e = clash (kind_at ks a) OpenBrace CloseBrace (braces_begin ks i a b h) e (λ x. omega (arith, x))

pub piece_closes_not : (ks : List Kind) → (x : Piece) → (a b : ℕ) → HoldsPiece ks x a b → kind_at ks a ≡ CloseBrace → ⊥
piece_closes_not ks (Plain_of i) a b h e = initial_closes_not ks i a b h e
piece_closes_not ks (Designated_of d ds q i) a b h e = true≢false (sym (designator_begins ks d a h.0 h.1) ∙ ap is_designating e)

-- no piece stands behind the last comma
no_piece : {A : Type 0} → (ks : List Kind) → (t : Option ℕ) → (k c : ℕ) → HoldsComma ks t k c → kind_at ks c ≡ CloseBrace
    → kind_at ks k ≡ Comma → (p : Piece) → (m : ℕ) → HoldsPiece ks p (k + 1) m → A
no_piece ks None k c h e f p m g = clash (kind_at ks k) CloseBrace Comma (ap (λ x. kind_at ks x) (sym h) ∙ e) f (λ x. omega (arith, x))
no_piece ks (Some o) k c h e f p m g = absurd (piece_closes_not ks p (k + 1) m g (ap (λ x. kind_at ks x) (sym h.2) ∙ e))

mutual
  own_only : (ks : List Kind) → (t : Tree) → (a b : ℕ) → From ks a → Holds ks t a b → Stops ks (rank ks t) b → Only ks (rank ks t) a t b
  own_only ks (Name_of n) a b w h s = λ t' b' h' s'.
      same_name ks (Name_of n) a b (ap Name_of h.0) h.1 h.2 t' b' (primary_view ks t' a b' h')
  own_only ks (Constant_of n) a b w h s = λ t' b' h' s'.
      same_constant ks (Constant_of n) a b (ap Constant_of h.0) h.1 h.2 t' b' (primary_view ks t' a b' h')
  own_only ks (Text_of ns) a b w h s = λ t' b' h' s'.
      same_text ks (Text_of ns) a b ns refl h.0 h.1 t' b' (primary_view ks t' a b' h')
  own_only ks (Paren_of o t c) a b w h s = λ t' b' h' s'.
      let end = closed ks c h.4 in
      let inner =
      placed ks 1 t (a + 1) c (next ks a w) (omega arith) (h.2, h.3) end
      (own_only ks t (a + 1) c (next ks a w) h.3 (looser ks 1 (rank ks t) c h.2 end)) in
      let same = same_paren ks a t c h.1 (starts ks t (a + 1) c h.3) inner t' b' (primary_view ks t' a b' h') in
      (ap (λ x. Paren_of x t c) h.0 ∙ same.0, h.5 ∙ same.1)
  own_only ks (Postfix_of f bs) a b w h s =
      let first =
      placed ks 17 f a h.0 w (omega arith) (h.2, h.3) (any_stop ks h.0)
      (own_only ks f a h.0 w h.3 (looser ks 17 (rank ks f) h.0 h.2 (any_stop ks h.0))) in
      subst
      (λ x. Only ks 16 a x b)
      (followed_more Postfix_of f bs h.1)
      (following_only ks 16 a Postfix_of (λ t b h. postfix_view ks t a b h) f h.0 bs b first (behinds_only ks 16 bs h.0 b (later ks a h.0 (tree_forth ks f a h.0 h.3) w) h.4 s))
  own_only ks (Of_type k o y c) a b w h s = λ t' b' h' s'.
      let two : (a + 1) + 1 ≡ a + 2 = omega arith in
      same_size
      ks
      (Of_type k o y c)
      a
      b
      (typed_second ks a w)
      y
      c
      (ap (λ x. Of_type x o y c) h.0 ∙ ap (λ x. Of_type a x y c) h.2)
      h.1
      (subst (λ x. HoldsType ks y x c) (ap (λ x. x + 1) h.2 ∙ two) h.4)
      h.5
      h.6
      t'
      b'
      (primary_view ks t' a b' h')
  own_only ks (Compound_of o y c i) a b w h s = λ t' b' h' s'.
      let same = same_compound ks a (typed_next ks a w) y c i b h.1 h.2 h.3 (braces_only ks i (c + 1) b (later ks a (c + 1) (omega (arith, type_forth ks y (a + 1) c h.2)) w) h.4) t' b' (primary_view ks t' a b' h') in
      (ap (λ x. Compound_of x y c i) h.0 ∙ same.0, same.1)
  own_only ks (Generic_of k o u gs c) a b w h s = λ t' b' h' s'.
      let two : (a + 1) + 1 ≡ a + 2 = omega arith in
      let reads : Holds ks u (a + 2) h.0 = subst (λ x. Holds ks u x h.0) (ap (λ x. x + 1) h.3 ∙ two) h.6 in
      let end = associations_begin ks gs h.0 c h.8 h.9 in
      let first =
      placed ks 2 u (a + 2) h.0 (second ks a w) (omega arith) (h.5, reads) end (own_only ks u (a + 2) h.0 (second ks a w) reads (looser ks 2 (rank ks u) h.0 h.5 end)) in
      let same = same_generic ks a u h.0 gs c h.2 first (associations_only ks gs h.0 c (later ks a h.0 (omega (arith, tree_forth ks u (a + 2) h.0 reads)) w) h.8 h.9) t' b' (primary_view ks t' a b' h') in (
        ap (λ x. Generic_of x o u gs c) h.1 ∙ ap (λ x. Generic_of a x u gs c) h.3 ∙ same.0,
        h.10 ∙ same.1,
      )
  own_only ks (Offset_of k o y m n bs c) a b w h s = λ t' b' h' s'.
      let two : (a + 1) + 1 ≡ a + 2 = omega arith in
      let more : (m + 1) + 1 ≡ m + 2 = omega arith in
      let same =
      same_offset
      ks
      a
      (typed_second ks a w)
      y
      m
      bs
      c
      h.1
      (subst (λ x. HoldsType ks y x m) (ap (λ x. x + 1) h.2 ∙ two) h.4)
      h.5
      (subst
      (λ x. OnlyBehinds ks 16 x bs c)
      (ap (λ x. x + 1) h.6 ∙ more)
      (behinds_only ks 16 bs (n + 1) c (later ks a (n + 1) (omega (arith, h.6, h.2, type_forth ks y (o + 1) m h.4)) w) h.9 (stops_at ks 16 c CloseParen h.10 (omega arith))))
      t'
      b'
      (primary_view ks t' a b' h') in (
        ap (λ x. Offset_of x o y m n bs c) h.0
            ∙ ap (λ x. Offset_of a x y m n bs c) h.2
            ∙ ap (λ x. Offset_of a (a + 1) y m x bs c) h.6
            ∙ same.0,
        h.11 ∙ same.1,
      )
  own_only ks (Unary_of fs t) a b w h s =
      let end' = looser ks (fronts_level fs) 15 b (fronts_high fs) s in
      let end = looser ks 15 16 b (omega arith) end' in
      let last =
      placed ks 16 t h.0 b (later ks a h.0 (fronts_forth ks 15 fs a h.0 h.2) w) (omega arith) (h.3, h.4) end (own_only ks t h.0 b (later ks a h.0 (fronts_forth ks 15 fs a h.0 h.2) w) h.4 (looser ks 16 (rank ks t) b h.3 end)) in
      subst
      (λ x. Only ks (fronts_level fs) a x b)
      (preceded_more Unary_of fs t h.1)
      (preceding_only
      ks
      (fronts_level fs)
      15
      a
      (fronts_high fs)
      Unary_of
      (λ t b h. prefixed_view ks t a b (lowered ks 14 (fronts_level fs) t a b (fronts_low fs) h))
      fs
      t
      b
      (fronts_only ks 15 (by_operators refl) fs a h.0 t b w h.2 (h.3, h.4) last end'))
  own_only ks (Binary_of f bs) a b w h s =
      let end = loosely ks (behinds_level ks bs) bs h.0 b h.5 s in
      let low : 1 ≤ behinds_level ks bs + 1 = omega arith in
      let first =
      placed ks (behinds_level ks bs + 1) f a h.0 w low (h.3, h.4) end
      (own_only ks f a h.0 w h.4 (looser ks (behinds_level ks bs + 1) (rank ks f) h.0 h.3 end)) in
      subst
      (λ x. Only ks (behinds_level ks bs) a x b)
      (followed_more Binary_of f bs h.1)
      (following_only
      ks
      (behinds_level ks bs)
      a
      Binary_of
      (λ t b g. binary_view ks (behinds_level ks bs) h.2 t a b g)
      f
      h.0
      bs
      b
      first
      (behinds_only ks (behinds_level ks bs) bs h.0 b (later ks a h.0 (tree_forth ks f a h.0 h.4) w) h.5 s))
  own_only ks (Conditional_of fs t) a b w h s =
      let end = looser ks 3 4 b (omega arith) s in
      let last =
      placed ks 4 t h.0 b (later ks a h.0 (fronts_forth ks 3 fs a h.0 h.2) w) (omega arith) (h.3, h.4) end (own_only ks t h.0 b (later ks a h.0 (fronts_forth ks 3 fs a h.0 h.2) w) h.4 (looser ks 4 (rank ks t) b h.3 end)) in
      subst
      (λ x. Only ks 3 a x b)
      (preceded_more Conditional_of fs t h.1)
      (preceding_only
      ks
      3
      3
      a
      (omega arith)
      Conditional_of
      (λ t b h. conditional_view ks t a b h)
      fs
      t
      b
      (fronts_only ks 3 (by_choices refl) fs a h.0 t b w h.2 (h.3, h.4) last s))
  own_only ks (Assign_of fs t) a b w h s =
      let end = looser ks 2 3 b (omega arith) s in
      let last =
      placed ks 3 t h.0 b (later ks a h.0 (fronts_forth ks 2 fs a h.0 h.2) w) (omega arith) (h.3, h.4) end (own_only ks t h.0 b (later ks a h.0 (fronts_forth ks 2 fs a h.0 h.2) w) h.4 (looser ks 3 (rank ks t) b h.3 end)) in
      subst
      (λ x. Only ks 2 a x b)
      (preceded_more Assign_of fs t h.1)
      (preceding_only
      ks
      2
      2
      a
      (omega arith)
      Assign_of
      (λ t b h. assign_view ks t a b h)
      fs
      t
      b
      (fronts_only ks 2 (by_places refl) fs a h.0 t b w h.2 (h.3, h.4) last s))

  pub braces_only : (ks : List Kind) → (x : Braces) → (a b : ℕ) → From ks a → HoldBraces ks x a b → OnlyBraces ks a x b
  braces_only ks (Braces_of o p ps t c) a b w h (Braces_of o' p' ps' t' c') b' h' =
      let one =
      piece_only
      ks
      p
      (a + 1)
      h.0
      (next ks a w)
      h.4
      (pieces_begin ks ps h.0 h.1 t c h.5 h.6 h.7)
      p'
      h'.0
      h'.4
      (pieces_begin ks ps' h'.0 h'.1 t' c' h'.5 h'.6 h'.7) in
      let two =
      pieces_only
      ks
      ps
      h.0
      h.1
      t
      c
      (later ks a h.0 (omega (arith, piece_forth ks p (a + 1) h.0 h.4)) w)
      h.5
      h.6
      h.7
      ps'
      h'.1
      t'
      c'
      (subst (λ x. HoldPieces ks ps' x h'.1) (sym one.1) h'.5)
      h'.6
      h'.7 in (
        ap (λ x. Braces_of x p ps t c) (h.2 ∙ sym h'.2)
            ∙ ap (λ x. Braces_of o' x ps t c) one.0
            ∙ ap (λ x. Braces_of o' p' x t c) two.0
            ∙ ap (λ x. Braces_of o' p' ps' x c) two.1
            ∙ ap (λ x. Braces_of o' p' ps' t' x) two.2,
        h.8 ∙ ap (λ x. x + 1) two.2 ∙ sym h'.8,
      )

  pub pieces_only : (ks : List Kind) → (xs : Pieces) → (m k : ℕ) → (t : Option ℕ) → (c : ℕ) → From ks m → HoldPieces ks xs m k → HoldsComma ks t k c
      → kind_at ks c ≡ CloseBrace → (xs' : Pieces) → (k' : ℕ) → (t' : Option ℕ) → (c' : ℕ) → HoldPieces ks xs' m k' → HoldsComma ks t' k' c'
      → kind_at ks c' ≡ CloseBrace → (xs ≡ xs') × (t ≡ t') × (c ≡ c')
  pieces_only ks No_pieces m k t c w h g e No_pieces k' t' c' h' g' e' =
      let same =
      comma_only
      ks
      t
      m
      c
      (subst (λ x. HoldsComma ks t x c) h g)
      e
      t'
      c'
      (subst (λ x. HoldsComma ks t' x c') h' g')
      e' in
      (refl, same.0, same.1)
  pieces_only ks No_pieces m k t c w h g e (Piece_then o p ps) k' t' c' h' g' e' =
      no_piece ks t m c (subst (λ x. HoldsComma ks t x c) h g) e h'.2 p h'.0 h'.3
  pieces_only ks (Piece_then o p ps) m k t c w h g e No_pieces k' t' c' h' g' e' =
      no_piece ks t' m c' (subst (λ x. HoldsComma ks t' x c') h' g') e' h.2 p h.0 h.3
  pieces_only ks (Piece_then o p ps) m k t c w h g e (Piece_then o' p' ps') k' t' c' h' g' e' =
      let one =
      piece_only
      ks
      p
      (m + 1)
      h.0
      (next ks m w)
      h.3
      (pieces_begin ks ps h.0 k t c h.4 g e)
      p'
      h'.0
      h'.3
      (pieces_begin ks ps' h'.0 k' t' c' h'.4 g' e') in
      let two = pieces_only ks ps h.0 k t c (later ks m h.0 (omega (arith, piece_forth ks p (m + 1) h.0 h.3)) w) h.4 g e ps' k' t' c' (subst (λ x. HoldPieces ks ps' x k') (sym one.1) h'.4) g' e' in (
        ap (λ x. Piece_then x p ps) (h.1 ∙ sym h'.1)
            ∙ ap (λ x. Piece_then o' x ps) one.0
            ∙ ap (λ x. Piece_then o' p' x) two.0,
        two.1,
        two.2,
      )

  pub piece_only : (ks : List Kind) → (x : Piece) → (a b : ℕ) → From ks a → HoldsPiece ks x a b → Stops ks 2 b
      → (x' : Piece) → (b' : ℕ) → HoldsPiece ks x' a b' → Stops ks 2 b' → (x ≡ x') × (b ≡ b')
  piece_only ks (Plain_of i) a b w h s (Plain_of i') b' h' s' =
      let same = initial_only ks i a b w h s i' b' h' s' in
      (ap Plain_of same.0, same.1)
  piece_only ks (Plain_of i) a b w h s (Designated_of d ds e i') b' h' s' =
      absurd (true≢false (sym (designator_begins ks d a h'.0 h'.1) ∙ initial_begins ks i a b h))
  piece_only ks (Designated_of d ds e i) a b w h s (Plain_of i') b' h' s' =
      absurd (true≢false (sym (designator_begins ks d a h.0 h.1) ∙ initial_begins ks i' a b' h'))
  piece_only ks (Designated_of d ds e i) a b w h s (Designated_of d' ds' e' i') b' h' s' =
      let one = designator_only ks d a h.0 w h.1 d' h'.0 h'.1 in
      let two = designators_only ks ds h.0 e (later ks a h.0 (designator_forth ks d a h.0 h.1) w) h.2 h.3 ds' e' (subst (λ x. HoldDesignators ks ds' x e') (sym one.1) h'.2) h'.3 in
      let three = initial_only ks i (e + 1) b (later ks a (e + 1) (omega (arith, designator_forth ks d a h.0 h.1, designators_forth ks ds h.0 e h.2)) w) h.4 s i' b' (subst (λ x. HoldsInitial ks i' (x + 1) b') (sym two.1) h'.4) s' in (
        ap (λ x. Designated_of x ds e i) one.0
            ∙ ap (λ x. Designated_of d' x e i) two.0
            ∙ ap (λ x. Designated_of d' ds' x i) two.1
            ∙ ap (λ x. Designated_of d' ds' e' x) three.0,
        three.1,
      )

  pub initial_only : (ks : List Kind) → (x : Initial) → (a b : ℕ) → From ks a → HoldsInitial ks x a b → Stops ks 2 b
      → (x' : Initial) → (b' : ℕ) → HoldsInitial ks x' a b' → Stops ks 2 b' → (x ≡ x') × (b ≡ b')
  initial_only ks (Value_of t) a b w h s (Value_of t') b' h' s' =
      let same =
      placed ks 2 t a b w (omega arith) (h.0, h.1) s (own_only ks t a b w h.1 (looser ks 2 (rank ks t) b h.0 s)) t' b' (h'.0, h'.1) s' in
      (ap Value_of same.0, same.1)
  initial_only ks (Value_of t) a b w h s (List_of i) b' h' s' =
      absurd (true≢false (sym (starts ks t a b h.1) ∙ ap is_start (braces_begin ks i a b' h')))
  initial_only ks (List_of i) a b w h s (Value_of t) b' h' s' =
      absurd (true≢false (sym (starts ks t a b' h'.1) ∙ ap is_start (braces_begin ks i a b h)))
  initial_only ks (List_of i) a b w h s (List_of i') b' h' s' =
      let same = braces_only ks i a b w h i' b' h' in
      (ap List_of same.0, same.1)

  pub designator_only : (ks : List Kind) → (x : Designator) → (a b : ℕ) → From ks a → HoldsDesignator ks x a b
      → (x' : Designator) → (b' : ℕ) → HoldsDesignator ks x' a b' → (x ≡ x') × (b ≡ b')
  designator_only ks (Element_of o t c) a b w h (Element_of o' t' c') b' h' =
      let end = stops_at ks 3 c CloseBracket h.4 (omega arith) in
      let end' = stops_at ks 3 c' CloseBracket h'.4 (omega arith) in
      let same =
      placed ks 3 t (a + 1) c (next ks a w) (omega arith) (h.2, h.3) end (own_only ks t (a + 1) c (next ks a w) h.3 (looser ks 3 (rank ks t) c h.2 end)) t' c' (h'.2, h'.3) end' in (
        ap (λ x. Element_of x t c) (h.0 ∙ sym h'.0) ∙ ap (λ x. Element_of o' x c) same.0 ∙ ap (λ x. Element_of o' t' x) same.1,
        h.5 ∙ ap (λ x. x + 1) same.1 ∙ sym h'.5,
      )
  designator_only ks (Element_of o t c) a b w h (Field_of o' n) b' h' = absurd (true≢false (sym h'.1 ∙ ap is_dot h.1))
  designator_only ks (Field_of o n) a b w h (Element_of o' t c) b' h' = absurd (true≢false (sym h.1 ∙ ap is_dot h'.1))
  designator_only ks (Field_of o n) a b w h (Field_of o' n') b' h' =
      let same : n ≡ n' = h.2 ∙ sym h'.2 in
      (ap (λ x. Field_of x n) (h.0 ∙ sym h'.0) ∙ ap (λ x. Field_of o' x) same, h.4 ∙ ap (λ x. x + 1) same ∙ sym h'.4)

  pub designators_only : (ks : List Kind) → (xs : Designators) → (a b : ℕ) → From ks a → HoldDesignators ks xs a b → is_equals (kind_at ks b) ≡ true
      → (xs' : Designators) → (b' : ℕ) → HoldDesignators ks xs' a b' → is_equals (kind_at ks b') ≡ true → (xs ≡ xs') × (b ≡ b')
  designators_only ks No_designators a b w h e No_designators b' h' e' = (refl, h ∙ sym h')
  designators_only ks No_designators a b w h e (Designator_then d ds) b' h' e' =
      absurd
      (true≢false
      (sym (designator_begins ks d a h'.0 h'.1)
      ∙ equals_designates_not (kind_at ks a) (ap (λ x. is_equals (kind_at ks x)) (sym h) ∙ e)))
  designators_only ks (Designator_then d ds) a b w h e No_designators b' h' e' =
      absurd
      (true≢false
      (sym (designator_begins ks d a h.0 h.1)
      ∙ equals_designates_not (kind_at ks a) (ap (λ x. is_equals (kind_at ks x)) (sym h') ∙ e')))
  designators_only ks (Designator_then d ds) a b w h e (Designator_then d' ds') b' h' e' =
      let one = designator_only ks d a h.0 w h.1 d' h'.0 h'.1 in
      let two = designators_only ks ds h.0 b (later ks a h.0 (designator_forth ks d a h.0 h.1) w) h.2 e ds' b' (subst (λ x. HoldDesignators ks ds' x b') (sym one.1) h'.2) e' in
      (ap (λ x. Designator_then x ds) one.0 ∙ ap (λ x. Designator_then d' x) two.0, two.1)

  pub association_only : (ks : List Kind) → (x : Association) → (a b : ℕ) → From ks a → HoldsAssociation ks x a b → Stops ks 2 b
      → (x' : Association) → (b' : ℕ) → HoldsAssociation ks x' a b' → Stops ks 2 b' → (x ≡ x') × (b ≡ b')
  association_only ks (Typed_of t c e) a b w h s (Typed_of t' c' e') b' h' s' =
      let one = w ks refl a (omega arith) false t c h.0 (ap ends_type h.1) t' c' h'.0 (ap ends_type h'.1) in
      let two =
      placed ks 2 e (c + 1) b (later ks a (c + 1) (omega (arith, type_forth ks t a c h.0)) w) (omega arith) (h.2, h.3) s (own_only ks e (c + 1) b (later ks a (c + 1) (omega (arith, type_forth ks t a c h.0)) w) h.3 (looser ks 2 (rank ks e) b h.2 s))
      e' b' (h'.2, subst (λ x. Holds ks e' (x + 1) b') (sym one.1) h'.3) s' in (
        ap (λ x. Typed_of x c e) one.0 ∙ ap (λ x. Typed_of t' x e) one.1 ∙ ap (λ x. Typed_of t' c' x) two.0,
        two.1,
      )
  association_only ks (Typed_of t c e) a b w h s (Default_of d c' e') b' h' s' =
      absurd (true≢false (sym (type_starts ks t a c h.0) ∙ ap starts_type h'.1))
  association_only ks (Default_of d c e) a b w h s (Typed_of t' c' e') b' h' s' =
      absurd (true≢false (sym (type_starts ks t' a c' h'.0) ∙ ap starts_type h.1))
  association_only ks (Default_of d c e) a b w h s (Default_of d' c' e') b' h' s' =
      let one : c ≡ c' = h.2 ∙ sym h'.2 in
      let two =
      placed ks 2 e (c + 1) b (later ks a (c + 1) (omega (arith, h.2)) w) (omega arith) (h.4, h.5) s (own_only ks e (c + 1) b (later ks a (c + 1) (omega (arith, h.2)) w) h.5 (looser ks 2 (rank ks e) b h.4 s))
      e' b' (h'.4, subst (λ x. Holds ks e' (x + 1) b') (sym one) h'.5) s' in (
        ap (λ x. Default_of x c e) (h.0 ∙ sym h'.0) ∙ ap (λ x. Default_of d' x e) one ∙ ap (λ x. Default_of d' c' x) two.0,
        two.1,
      )

  pub associations_only : (ks : List Kind) → (xs : Associations) → (a b : ℕ) → From ks a → HoldAssociations ks xs a b → kind_at ks b ≡ CloseParen
      → OnlyAssociations ks a xs b
  associations_only ks No_associations a b w h l No_associations b' h' l' = (refl, h ∙ sym h')
  associations_only ks No_associations a b w h l (Association_then o x xs) b' h' l' =
      clash (kind_at ks a) CloseParen Comma (ap (λ x. kind_at ks x) (sym h) ∙ l) h'.2 (λ x. omega (arith, x))
  associations_only ks (Association_then o x xs) a b w h l No_associations b' h' l' =
      clash (kind_at ks a) CloseParen Comma (ap (λ x. kind_at ks x) (sym h') ∙ l') h.2 (λ x. omega (arith, x))
  associations_only ks (Association_then o x xs) a b w h l (Association_then o' x' xs') b' h' l' =
      let one =
      association_only
      ks
      x
      (a + 1)
      h.0
      (next ks a w)
      h.3
      (associations_begin ks xs h.0 b h.4 l)
      x'
      h'.0
      h'.3
      (associations_begin ks xs' h'.0 b' h'.4 l') in
      let two = associations_only ks xs h.0 b (later ks a h.0 (omega (arith, association_forth ks x (a + 1) h.0 h.3)) w) h.4 l xs' b' (subst (λ y. HoldAssociations ks xs' y b') (sym one.1) h'.4) l' in (
        ap (λ y. Association_then y x xs) (h.1 ∙ sym h'.1)
            ∙ ap (λ y. Association_then o' y xs) one.0
            ∙ ap (λ y. Association_then o' x' y) two.0,
        two.1,
      )

  pub behind_only : (ks : List Kind) → (l : ℕ) → (x : Behind) → (a m : ℕ) → From ks a → HoldsBehind ks l x a m → Stops ks (l + 1) m → OnlyBehind ks l a x m
  behind_only ks l (Operand_of o t) a m w h s =
      operand_only
      ks
      l
      o
      t
      a
      m
      h
      (placed ks (l + 1) t (a + 1) m (next ks a w) (omega arith) (h.3, h.4) s (own_only ks t (a + 1) m (next ks a w) h.4 (looser ks (l + 1) (rank ks t) m h.3 s)))
  behind_only ks l (Index_of o t c) a m w h s =
      let end = index_closes ks c h.5 in
      suffix_at
      ks
      l
      a
      (Index_of a t c)
      (Index_of o t c)
      (c + 1)
      m
      h.0
      (ap (λ y. Index_of y t c) h.1)
      h.6
      (index_only
      ks
      t
      c
      a
      h.2
      (placed ks 1 t (a + 1) c (next ks a w) (omega arith) (h.3, h.4) end (own_only ks t (a + 1) c (next ks a w) h.4 (looser ks 1 (rank ks t) c h.3 end))))
  behind_only ks l (Call_of o c) a m w h s =
      suffix_at
      ks
      l
      a
      (Call_of a (a + 1))
      (Call_of o c)
      (a + 2)
      m
      h.0
      (ap (λ y. Call_of y c) h.1 ∙ ap (λ y. Call_of a y) h.3)
      (call_end a c m h.3 h.5)
      (call_only ks a h.2 (ap (λ y. kind_at ks y) (sym h.3) ∙ h.4))
  behind_only ks l (Call_with_of o t bs c) a m w h s =
      let end = closed ks c h.7 in
      let loose = loosely ks 1 bs h.0 c h.6 end in
      suffix_at
      ks
      l
      a
      (Call_with_of a t bs c)
      (Call_with_of o t bs c)
      (c + 1)
      m
      h.1
      (ap (λ y. Call_with_of y t bs c) h.2)
      h.8
      (call_with_only
      ks
      a
      h.3
      t
      h.0
      bs
      c
      h.5
      (placed ks 2 t (a + 1) h.0 (next ks a w) (omega arith) (h.4, h.5) loose (own_only ks t (a + 1) h.0 (next ks a w) h.5 (looser ks 2 (rank ks t) h.0 h.4 loose)))
      (behinds_only ks 1 bs h.0 c (later ks a h.0 (omega (arith, tree_forth ks t (a + 1) h.0 h.5)) w) h.6 end))
  behind_only ks l (Member_of o n) a m w h s =
      suffix_at
      ks
      l
      a
      (Member_of a (a + 1))
      (Member_of o n)
      (a + 2)
      m
      h.0
      (ap (λ y. Member_of y n) h.1 ∙ ap (λ y. Member_of a y) h.3)
      (call_end a n m h.3 h.5)
      (member_only ks a h.2)
  behind_only ks l (Step_of o) a m w h s =
      suffix_at ks l a (Step_of a) (Step_of o) (a + 1) m h.0 (ap Step_of h.1) h.3 (step_only ks a h.2)

  pub behinds_only : (ks : List Kind) → (l : ℕ) → (xs : Behinds) → (a b : ℕ) → From ks a → HoldBehinds ks l xs a b → Stops ks l b → OnlyBehinds ks l a xs b
  behinds_only ks l None_behind a b w h s = subst (λ y. OnlyBehinds ks l y None_behind b) h (none_behind ks l b s)
  behinds_only ks l (Behind_then x xs) a b w h s =
      behinds_with
      ks
      l
      x
      xs
      a
      h.0
      b
      (begins ks l x a h.0 h.1)
      (behind_only ks l x a h.0 w h.1 (loosely ks l xs h.0 b h.2 s))
      (behinds_only ks l xs h.0 b (later ks a h.0 (behind_forth ks l x a h.0 h.1) w) h.2 s)

  pub front_only : (ks : List Kind) → (l : ℕ) → (x : Front) → (a m : ℕ) → From ks a → HoldsFront ks l x a m → OnlyFront ks l a x m
  front_only ks l (Operator_of o) a m w h =
      subst
      (λ k. OnlyFront ks k a (Operator_of o) m)
      (sym h.0)
      (operator_only ks o a m w (refl, h.1, h.2, h.3))
  front_only ks l (Cast_of o y c) a m w h =
      subst
      (λ k. OnlyFront ks k a (Cast_of o y c) m)
      (sym h.0)
      (cast_only ks o y c a m w (refl, h.1, h.2, h.3, h.4, h.5, h.6, h.7))
  front_only ks l (Choice_of t q e c) a m w h =
      let one = stops_at ks 4 q Question h.3 (omega arith) in
      let two = stops_at ks 1 c Colon h.6 (omega arith) in
      subst
      (λ k. OnlyFront ks k a (Choice_of t q e c) m)
      (sym h.0)
      (choice_only
      ks
      t
      q
      e
      c
      a
      m
      (refl, h.1, h.2, h.3, h.4, h.5, h.6, h.7)
      (placed ks 4 t a q w (omega arith) (h.1, h.2) one (own_only ks t a q w h.2 (looser ks 4 (rank ks t) q h.1 one)))
      (placed ks 1 e (q + 1) c (later ks a (q + 1) (omega (arith, tree_forth ks t a q h.2)) w) (omega arith) (h.4, h.5) two (own_only ks e (q + 1) c (later ks a (q + 1) (omega (arith, tree_forth ks t a q h.2)) w) h.5 (looser ks 1 (rank ks e) c h.4 two))))
  front_only ks l (Left_of t o) a m w h =
      let end = below ks o h.3 in
      let low = lowered ks 3 15 t a o (omega arith) (h.1, h.2) in
      subst
      (λ k. OnlyFront ks k a (Left_of t o) m)
      (sym h.0)
      (left_only
      ks
      t
      o
      a
      m
      (refl, h.1, h.2, h.3, h.4)
      (placed ks 3 t a o w (omega arith) low end (own_only ks t a o w h.2 (looser ks 3 (rank ks t) o low.0 end))))

  fronts_only : (ks : List Kind) → (l : ℕ) → Fronting l → (xs : Fronts) → (a m : ℕ) → (t : Tree) → (b : ℕ) → From ks a → HoldFronts ks l xs a m
      → Reads ks (l + 1) t m b → Only ks (l + 1) m t b → Stops ks l b → OnlyFronts ks l a xs t b
  fronts_only ks l f None_before a m t b w h r only s =
      subst (λ k. OnlyFronts ks l k None_before t b) h (none_before ks l m (later ks a m (omega (arith, h)) w) t b f r only s)
  fronts_only ks l f (Front_then x xs) a m t b w h r only s =
      fronts_with
      ks
      l
      x
      xs
      a
      h.0
      m
      t
      b
      (record { more = xs; behind = m; last = t; end = b; goes = h.2; reads = r })
      (front_only ks l x a h.0 w h.1)
      (fronts_only ks l f xs h.0 m t b (later ks a h.0 (front_forth ks l x a h.0 h.1) w) h.2 r only s)

-- unique reading by places
pub placed_only : (ks : List Kind) → (n : ℕ) → (t : Tree) → (a b : ℕ) → From ks a → 1 ≤ n → Reads ks n t a b → Stops ks n b → Only ks n a t b
placed_only ks n t a b w low h s = placed ks n t a b w low h s (own_only ks t a b w h.1 (looser ks n (rank ks t) b h.0 s))
