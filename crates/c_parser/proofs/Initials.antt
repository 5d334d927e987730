-- Initializers: what a call found is the only one there; where a part has none, the whole has none.
use Rattle.std.proofs.Common.{◌≡◌, refl, ap, sym, ◌∙◌, subst, ℕ, zero, suc, ◌+◌, ◌<◌, ◌≤◌, List, [], ◌∷◌, ◌++◌, length, arith, true, false, true≢false, Option, Some, None}
use Rattle.tree_data.specs.Trees.{Tree, Braces, Braces_of, Initial, Value_of, List_of, Piece, Plain_of, Designated_of, Pieces, No_pieces, Piece_then, pieces, Designator, Element_of, Field_of, Designators, No_designators, Designator_then, designators}
use Rattle.c_parser.specs.declared.answers.Stop.{Stop}
use Rattle.c_parser.specs.declared.kinds.Kind.{Kind}
use Rattle.c_parser.specs.declared.kinds.Kind.TheVariants.{OpenBracket, CloseBracket, OpenBrace, CloseBrace, Comma, Dot, Equals}
use Rattle.c_parser.specs.Kinds.{kind_at, is_word, is_dot, is_equals, is_designating}
use Rattle.c_parser.specs.Reading.{HoldBraces, HoldsInitial, HoldsPiece, HoldPieces, HoldsComma, HoldsDesignator, HoldDesignators, Stops, Found, FoundBraces, FoundInitial, FoundPiece, FoundPieces, FoundDesignator, FoundDesignators, IsWant}
use Rattle.c_parser.proofs.Marks.{clash, stops_at, is_start, equals_designates_not}
use Rattle.c_parser.proofs.Parsing.{Fails, found_only}
use Rattle.c_parser.proofs.SameParts.{OnlyBraces}
use Rattle.c_parser.proofs.OneReading.{pieces_begin, braces_begin, initial_begins, designator_begins, piece_closes_not}
use Rattle.c_parser.proofs.Uniqueness.{braces_only, designator_only, initial_only}
use Rattle.c_parser.proofs.Views.{starts}

abbrev pub OnlyInitial : List Kind → ℕ → Initial → ℕ → Type 0
OnlyInitial ks a x b = (x' : Initial) → (b' : ℕ) → HoldsInitial ks x' a b' → Stops ks 2 b' → (x ≡ x') × (b ≡ b')

abbrev pub OnlyPiece : List Kind → ℕ → Piece → ℕ → Type 0
OnlyPiece ks a x b = (x' : Piece) → (b' : ℕ) → HoldsPiece ks x' a b' → Stops ks 2 b' → (x ≡ x') × (b ≡ b')

abbrev pub OnlyPieces : List Kind → ℕ → Pieces → Option ℕ → ℕ → Type 0
OnlyPieces ks a xs t c =
    (xs' : Pieces) → (k : ℕ) → (t' : Option ℕ) → (c' : ℕ) → HoldPieces ks xs' a k → HoldsComma ks t' k c' → kind_at ks c' ≡ CloseBrace
    → (xs ≡ xs') × (t ≡ t') × (c ≡ c')

abbrev pub OnlyDesignator : List Kind → ℕ → Designator → ℕ → Type 0
OnlyDesignator ks a x b = (x' : Designator) → (b' : ℕ) → HoldsDesignator ks x' a b' → (x ≡ x') × (b ≡ b')

abbrev pub OnlyDesignators : List Kind → ℕ → Designators → ℕ → Type 0
OnlyDesignators ks a xs b =
    (xs' : Designators) → (b' : ℕ) → HoldDesignators ks xs' a b' → is_equals (kind_at ks b') ≡ true → (xs ≡ xs') × (b ≡ b')

-- where a call gave e
abbrev pub FailsBraces : List Kind → ℕ → Stop → Type 0
FailsBraces ks a e = (x : Braces) → (b : ℕ) → HoldBraces ks x a b → IsWant e

abbrev pub FailsInitial : List Kind → ℕ → Stop → Type 0
FailsInitial ks a e = (x : Initial) → (b : ℕ) → HoldsInitial ks x a b → Stops ks 2 b → IsWant e

abbrev pub FailsPiece : List Kind → ℕ → Stop → Type 0
FailsPiece ks a e = (x : Piece) → (b : ℕ) → HoldsPiece ks x a b → Stops ks 2 b → IsWant e

abbrev pub FailsPieces : List Kind → ℕ → Stop → Type 0
FailsPieces ks a e =
    (xs : Pieces) → (k : ℕ) → (t : Option ℕ) → (c : ℕ) → HoldPieces ks xs a k → HoldsComma ks t k c → kind_at ks c ≡ CloseBrace → IsWant e

abbrev pub FailsDesignator : List Kind → ℕ → Stop → Type 0
FailsDesignator ks a e = (x : Designator) → (b : ℕ) → HoldsDesignator ks x a b → IsWant e

abbrev pub FailsDesignators : List Kind → ℕ → Stop → Type 0
FailsDesignators ks a e = (xs : Designators) → (b : ℕ) → HoldDesignators ks xs a b → is_equals (kind_at ks b) ≡ true → IsWant e

-- a word is a token
word_inside : (ks : List Kind) → (at : ℕ) → is_word (kind_at ks at) ≡ true → at < length ks
word_inside [] at h = absurd (true≢false (sym h))
word_inside (k ∷ ks) zero h = omega arith
word_inside (k ∷ ks) (suc at) h = omega (arith, word_inside ks at h)

-- a designator
pub field_found : (ks : List Kind) → (at : ℕ) → kind_at ks at ≡ Dot → is_word (kind_at ks (at + 1)) ≡ true
    → FoundDesignator ks at (Field_of at (at + 1)) (at + 2)
field_found ks at k w =
    let e : at + 2 ≡ (at + 1) + 1 = omega arith in
    let i : at + 1 < length ks = word_inside ks (at + 1) w in
    record { reads = (refl, ap is_dot k, refl, w, e); forth = omega arith; inside = omega arith }

pub found_designator_only : (ks : List Kind) → (a : ℕ) → (x : Designator) → (b : ℕ) → FoundDesignator ks a x b → OnlyDesignator ks a x b
found_designator_only ks a x b f = designator_only ks x a b f.reads

pub field_unnamed : (ks : List Kind) → (at : ℕ) → kind_at ks at ≡ Dot → is_word (kind_at ks (at + 1)) ≡ false
    → (x : Designator) → (b : ℕ) → HoldsDesignator ks x at b → ⊥
field_unnamed ks at k w (Element_of o t c) b h = clash (kind_at ks at) Dot OpenBracket k h.1 (λ x. omega (arith, x))
field_unnamed ks at k w (Field_of o n) b h = true≢false (sym (ap (λ x. is_word (kind_at ks x)) (sym h.2) ∙ h.3) ∙ w)

bracketed : (k : Kind) → is_designating k ≡ true → (k ≡ Dot → ⊥) → k ≡ OpenBracket
bracketed OpenBracket h n = refl
bracketed Dot h n = absurd (n refl)
bracketed _ h n = absurd (true≢false (sym h))

pub element_opens : (ks : List Kind) → (at : ℕ) → (k : Kind) → k ≡ kind_at ks at → (k ≡ Dot → ⊥) → is_designating (kind_at ks at) ≡ true
    → kind_at ks at ≡ OpenBracket
element_opens ks at k e n h = bracketed (kind_at ks at) h (λ x. n (e ∙ x))

element_closes : (ks : List Kind) → (c : ℕ) → kind_at ks c ≡ CloseBracket → Stops ks 3 c
element_closes ks c e = stops_at ks 3 c CloseBracket e (omega arith)

is_field : (k : Kind) → is_dot k ≡ true → k ≡ Dot
is_field Dot h = refl
is_field _ h = absurd (true≢false (sym h))

pub element_fails : (ks : List Kind) → (at : ℕ) → kind_at ks at ≡ OpenBracket → (e : Stop) → Fails ks 3 (at + 1) e → FailsDesignator ks at e
element_fails ks at k e fails (Element_of o t c) b h = fails t c (h.2, h.3) (element_closes ks c h.4)
element_fails ks at k e fails (Field_of o n) b h = absurd (true≢false (sym h.1 ∙ ap is_dot k))

pub element_left_open : (ks : List Kind) → (at : ℕ) → kind_at ks at ≡ OpenBracket → (u : Tree) → (d : ℕ) → (last : Kind)
    → Found ks 3 (at + 1) u d → last ≡ kind_at ks d → (last ≡ CloseBracket → ⊥) → (x : Designator) → (b : ℕ) → HoldsDesignator ks x at b → ⊥
element_left_open ks at k u d last found e not (Element_of o t c) b h =
    let one = found_only ks 3 (at + 1) u d (omega arith) found t c (h.2, h.3) (element_closes ks c h.4) in
    not (e ∙ ap (λ y. kind_at ks y) one.1 ∙ h.4)
element_left_open ks at k u d last found e not (Field_of o n) b h = true≢false (sym h.1 ∙ ap is_dot k)

pub element_found : (ks : List Kind) → (at : ℕ) → kind_at ks at ≡ OpenBracket → (t : Tree) → (c : ℕ) → Found ks 3 (at + 1) t c
    → kind_at ks c ≡ CloseBracket → c < length ks → FoundDesignator ks at (Element_of at t c) (c + 1)
element_found ks at k t c found l i =
    let more : at + 1 < c = found.forth in
    record {
      reads = (refl, k, found.reads.0, found.reads.1, l, refl);
      forth = omega arith;
      inside = omega arith;
    }

-- an initializer
pub value_found : (ks : List Kind) → (at : ℕ) → (t : Tree) → (b : ℕ) → Found ks 2 at t b → FoundInitial ks at (Value_of t) b
value_found ks at t b found = record { reads = found.reads; forth = found.forth; inside = found.inside }

pub value_only : (ks : List Kind) → (at : ℕ) → (t : Tree) → (b : ℕ) → Found ks 2 at t b → OnlyInitial ks at (Value_of t) b
value_only ks at t b found = initial_only ks (Value_of t) at b found.reads found.stops

pub init_fails : (ks : List Kind) → (at : ℕ) → (k : Kind) → k ≡ kind_at ks at → (k ≡ OpenBrace → ⊥) → (e : Stop) → Fails ks 2 at e → FailsInitial ks at e
init_fails ks at k f n e fails (Value_of t) b h s = fails t b h s
init_fails ks at k f n e fails (List_of i) b h s = absurd (n (f ∙ braces_begin ks i at b h))

pub list_found : (ks : List Kind) → (at : ℕ) → (x : Braces) → (b : ℕ) → FoundBraces ks at x b → FoundInitial ks at (List_of x) b
list_found ks at x b found = record { reads = found.reads; forth = found.forth; inside = found.inside }

pub list_only : (ks : List Kind) → (at : ℕ) → (x : Braces) → (b : ℕ) → FoundBraces ks at x b → OnlyInitial ks at (List_of x) b
list_only ks at x b found (Value_of t) b' h s =
    absurd (true≢false (sym (starts ks t at b' h.1) ∙ ap is_start (braces_begin ks x at b found.reads)))
list_only ks at x b found (List_of y) b' h s =
    let same = braces_only ks x at b found.reads y b' h in
    (ap List_of same.0, same.1)

pub list_fails : (ks : List Kind) → (at : ℕ) → kind_at ks at ≡ OpenBrace → (e : Stop) → FailsBraces ks at e → FailsInitial ks at e
list_fails ks at k e fails (Value_of t) b h s = absurd (true≢false (sym (starts ks t at b h.1) ∙ ap is_start k))
list_fails ks at k e fails (List_of x) b h s = fails x b h

-- a piece
pub plain_found : (ks : List Kind) → (at : ℕ) → (x : Initial) → (b : ℕ) → FoundInitial ks at x b → FoundPiece ks at (Plain_of x) b
plain_found ks at x b found = record { reads = found.reads; forth = found.forth; inside = found.inside }

pub plain_only : (ks : List Kind) → (at : ℕ) → is_designating (kind_at ks at) ≡ false → (x : Initial) → (b : ℕ) → OnlyInitial ks at x b
    → OnlyPiece ks at (Plain_of x) b
plain_only ks at n x b only (Plain_of y) b' h s =
    let same = only y b' h s in
    (ap Plain_of same.0, same.1)
plain_only ks at n x b only (Designated_of d ds e y) b' h s =
    absurd (true≢false (sym (designator_begins ks d at h.0 h.1) ∙ n))

pub plain_fails : (ks : List Kind) → (at : ℕ) → is_designating (kind_at ks at) ≡ false → (e : Stop) → FailsInitial ks at e → FailsPiece ks at e
plain_fails ks at n e fails (Plain_of y) b h s = fails y b h s
plain_fails ks at n e fails (Designated_of d ds q y) b h s = absurd (true≢false (sym (designator_begins ks d at h.0 h.1) ∙ n))

pub designated_found : (ks : List Kind) → (at : ℕ) → (d : Designator) → (m : ℕ) → (ds : Designators) → (q : ℕ) → (x : Initial) → (b : ℕ)
    → FoundDesignator ks at d m → FoundDesignators ks m ds q → kind_at ks q ≡ Equals → FoundInitial ks (q + 1) x b
    → FoundPiece ks at (Designated_of d ds q x) b
designated_found ks at d m ds q x b f g k h =
    let one : at < m = f.forth in
    let two : m ≤ q = g.forth in
    let three : q + 1 < b = h.forth in
    record {
      reads = (m, f.reads, g.reads, ap is_equals k, h.reads);
      forth = omega arith;
      inside = h.inside;
    }

pub designated_only : (ks : List Kind) → (at : ℕ) → is_designating (kind_at ks at) ≡ true → (d : Designator) → (m : ℕ) → (ds : Designators)
    → (q : ℕ) → (x : Initial) → (b : ℕ) → OnlyDesignator ks at d m → OnlyDesignators ks m ds q → OnlyInitial ks (q + 1) x b
    → OnlyPiece ks at (Designated_of d ds q x) b
designated_only ks at n d m ds q x b f g h (Plain_of y) b' r s = absurd (true≢false (sym n ∙ initial_begins ks y at b' r))
designated_only ks at n d m ds q x b f g h (Designated_of d' ds' q' y) b' r s =
    let one = f d' r.0 r.1 in
    let two = g ds' q' (subst (λ k. HoldDesignators ks ds' k q') (sym one.1) r.2) r.3 in
    let three = h y b' (subst (λ k. HoldsInitial ks y (k + 1) b') (sym two.1) r.4) s in (
      ap (λ k. Designated_of k ds q x) one.0
          ∙ ap (λ k. Designated_of d' k q x) two.0
          ∙ ap (λ k. Designated_of d' ds' k x) two.1
          ∙ ap (λ k. Designated_of d' ds' q' k) three.0,
      three.1,
    )

pub designator_fails : (ks : List Kind) → (at : ℕ) → is_designating (kind_at ks at) ≡ true → (e : Stop) → FailsDesignator ks at e → FailsPiece ks at e
designator_fails ks at n e fails (Plain_of y) b h s = absurd (true≢false (sym n ∙ initial_begins ks y at b h))
designator_fails ks at n e fails (Designated_of d ds q y) b h s = fails d h.0 h.1

pub designators_fail : (ks : List Kind) → (at : ℕ) → is_designating (kind_at ks at) ≡ true → (d : Designator) → (m : ℕ)
    → OnlyDesignator ks at d m → (e : Stop) → FailsDesignators ks m e → FailsPiece ks at e
designators_fail ks at n d m f e fails (Plain_of y) b h s = absurd (true≢false (sym n ∙ initial_begins ks y at b h))
designators_fail ks at n d m f e fails (Designated_of d' ds q y) b h s =
    let one = f d' h.0 h.1 in
    fails ds q (subst (λ k. HoldDesignators ks ds k q) (sym one.1) h.2) h.3

pub equals_is : (k : Kind) → is_equals k ≡ true → k ≡ Equals
equals_is Equals h = refl
equals_is _ h = absurd (true≢false (sym h))

pub unequal : (ks : List Kind) → (at : ℕ) → is_designating (kind_at ks at) ≡ true → (d : Designator) → (m : ℕ) → (ds : Designators) → (q : ℕ)
    → OnlyDesignator ks at d m → OnlyDesignators ks m ds q → (k : Kind) → k ≡ kind_at ks q → (k ≡ Equals → ⊥)
    → (x : Piece) → (b : ℕ) → HoldsPiece ks x at b → Stops ks 2 b → ⊥
unequal ks at n d m ds q f g k e u (Plain_of y) b h s = true≢false (sym n ∙ initial_begins ks y at b h)
unequal ks at n d m ds q f g k e u (Designated_of d' ds' q' y) b h s =
    let one = f d' h.0 h.1 in
    let two = g ds' q' (subst (λ k. HoldDesignators ks ds' k q') (sym one.1) h.2) h.3 in
    u (e ∙ ap (λ k. kind_at ks k) two.1 ∙ equals_is (kind_at ks q') h.3)

pub designated_fails : (ks : List Kind) → (at : ℕ) → is_designating (kind_at ks at) ≡ true → (d : Designator) → (m : ℕ) → (ds : Designators)
    → (q : ℕ) → OnlyDesignator ks at d m → OnlyDesignators ks m ds q → (e : Stop) → FailsInitial ks (q + 1) e → FailsPiece ks at e
designated_fails ks at n d m ds q f g e fails (Plain_of y) b h s = absurd (true≢false (sym n ∙ initial_begins ks y at b h))
designated_fails ks at n d m ds q f g e fails (Designated_of d' ds' q' y) b h s =
    let one = f d' h.0 h.1 in
    let two = g ds' q' (subst (λ k. HoldDesignators ks ds' k q') (sym one.1) h.2) h.3 in
    fails y b (subst (λ k. HoldsInitial ks y (k + 1) b) (sym two.1) h.4) s

-- a list in braces
pub braces_found : (ks : List Kind) → (at : ℕ) → kind_at ks at ≡ OpenBrace → (p : Piece) → (m : ℕ) → (ps : Pieces) → (t : Option ℕ) → (c : ℕ)
    → FoundPiece ks (at + 1) p m → FoundPieces ks m ps t c → kind_at ks c ≡ CloseBrace → c < length ks
    → FoundBraces ks at (Braces_of at p ps t c) (c + 1)
braces_found ks at k p m ps t c f g l i =
    let one : at + 1 < m = f.forth in
    let two : m ≤ c = g.forth in
    record {
      reads = (m, g.behind, refl, k, f.reads, g.reads, g.comma, l, refl);
      forth = omega arith;
      inside = omega arith;
    }

pub found_braces_only : (ks : List Kind) → (a : ℕ) → (x : Braces) → (b : ℕ) → FoundBraces ks a x b → OnlyBraces ks a x b
found_braces_only ks a x b f = braces_only ks x a b f.reads

pub first_piece_fails : (ks : List Kind) → (at : ℕ) → (e : Stop) → FailsPiece ks (at + 1) e → FailsBraces ks at e
first_piece_fails ks at e fails (Braces_of o p ps t c) b h =
    fails p h.0 h.4 (pieces_begin ks ps h.0 h.1 t c h.5 h.6 h.7)

pub more_pieces_fail : (ks : List Kind) → (at : ℕ) → (p : Piece) → (m : ℕ) → OnlyPiece ks (at + 1) p m → (e : Stop) → FailsPieces ks m e
    → FailsBraces ks at e
more_pieces_fail ks at p m only e fails (Braces_of o q ps t c) b h =
    let one = only q h.0 h.4 (pieces_begin ks ps h.0 h.1 t c h.5 h.6 h.7) in
    fails ps h.1 t c (subst (λ k. HoldPieces ks ps k h.1) (sym one.1) h.5) h.6 h.7

pub braces_left_open : (ks : List Kind) → (at : ℕ) → (p : Piece) → (m : ℕ) → (ps : Pieces) → (t : Option ℕ) → (c : ℕ) → OnlyPiece ks (at + 1) p m
    → OnlyPieces ks m ps t c → (k : Kind) → k ≡ kind_at ks c → (k ≡ CloseBrace → ⊥) → (x : Braces) → (b : ℕ) → HoldBraces ks x at b → ⊥
braces_left_open ks at p m ps t c f g k e n (Braces_of o q qs u d) b h =
    let one = f q h.0 h.4 (pieces_begin ks qs h.0 h.1 u d h.5 h.6 h.7) in
    let two = g qs h.1 u d (subst (λ k. HoldPieces ks qs k h.1) (sym one.1) h.5) h.6 h.7 in
    n (e ∙ ap (λ y. kind_at ks y) two.2 ∙ h.7)

-- some in front of others
abbrev pub onto : List (ℕ × Piece) → Pieces → Pieces
onto [] more = more
onto (p ∷ ps) more = Piece_then p.0 p.1 (onto ps more)

onto_none : (ps : List (ℕ × Piece)) → onto ps No_pieces ≡ pieces ps
onto_none [] = refl
onto_none (p ∷ ps) = ap (Piece_then p.0 p.1) (onto_none ps)

onto_snoc : (ps : List (ℕ × Piece)) → (o : ℕ) → (p : Piece) → (more : Pieces) → onto (ps ++ (o, p) ∷ []) more ≡ onto ps (Piece_then o p more)
onto_snoc [] o p more = refl
onto_snoc (q ∷ qs) o p more = ap (Piece_then q.0 q.1) (onto_snoc qs o p more)

pub record RowLeft (ks : List Kind) (done : List (ℕ × Piece)) (at : ℕ) (xs : Pieces) (k : ℕ) : Type 0 where
  pub left : Pieces
  pub is : xs ≡ onto done left
  pub holds : HoldPieces ks left at k

pub record Row (ks : List Kind) (start : ℕ) (done : List (ℕ × Piece)) (at : ℕ) : Type 0 where
  pub grows : (xs : Pieces) → (k : ℕ) → HoldPieces ks xs at k → HoldPieces ks (onto done xs) start k
  pub only : (xs : Pieces) → (k : ℕ) → (t : Option ℕ) → (c : ℕ) → HoldPieces ks xs start k → HoldsComma ks t k c → kind_at ks c ≡ CloseBrace
      → RowLeft ks done at xs k
  pub forth : start ≤ at
  pub inside : at ≤ length ks

pub row_starts : (ks : List Kind) → (at : ℕ) → at ≤ length ks → Row ks at [] at
row_starts ks at i = record {
  grows = λ xs k h. h;
  only = λ xs k t c h g l. record { left = xs; is = refl; holds = h };
  forth = omega arith;
  inside = i;
}

-- what stands behind a comma that is not the last
pub comma_goes : {A : Type 0} → (ks : List Kind) → (t : Option ℕ) → (at k c : ℕ) → kind_at ks at ≡ Comma → (kind_at ks (at + 1) ≡ CloseBrace → ⊥)
    → k ≡ at → HoldsComma ks t k c → kind_at ks c ≡ CloseBrace → A
comma_goes ks None at k c m n e h l =
    clash (kind_at ks at) Comma CloseBrace m (ap (λ x. kind_at ks x) (sym (h ∙ e)) ∙ l) (λ x. omega (arith, x))
comma_goes ks (Some o) at k c m n e h l = absurd (n (ap (λ x. kind_at ks x) (sym (h.2 ∙ ap (λ x. x + 1) e)) ∙ l))

row_left : (ks : List Kind) → (done : List (ℕ × Piece)) → (at : ℕ) → (p : Piece) → (m : ℕ) → kind_at ks at ≡ Comma
    → (kind_at ks (at + 1) ≡ CloseBrace → ⊥) → OnlyPiece ks (at + 1) p m
    → (xs left : Pieces) → (k : ℕ) → (t : Option ℕ) → (c : ℕ) → xs ≡ onto done left → HoldPieces ks left at k → HoldsComma ks t k c
    → kind_at ks c ≡ CloseBrace → RowLeft ks (done ++ (at, p) ∷ []) m xs k
row_left ks done at p m q n only xs No_pieces k t c is h g l = comma_goes ks t at k c q n h g l
row_left ks done at p m q n only xs (Piece_then o x left) k t c is h g l =
    let one = only x h.0 h.3 (pieces_begin ks left h.0 k t c h.4 g l) in
    record {
      left = left;
      is =
          is
          ∙ ap (λ y. onto done (Piece_then y x left)) h.1
          ∙ ap (λ y. onto done (Piece_then at y left)) (sym one.0)
          ∙ sym (onto_snoc done at p left);
      holds = subst (λ y. HoldPieces ks left y k) (sym one.1) h.4;
    }

pub row_turns : (ks : List Kind) → (start : ℕ) → (done : List (ℕ × Piece)) → (at : ℕ) → (p : Piece) → (m : ℕ) → Row ks start done at
    → kind_at ks at ≡ Comma → (after : Kind) → after ≡ kind_at ks (at + 1) → (after ≡ CloseBrace → ⊥) → FoundPiece ks (at + 1) p m
    → OnlyPiece ks (at + 1) p m → Row ks start (done ++ (at, p) ∷ []) m
row_turns ks start done at p m row q after e n found only =
    let one : start ≤ at = row.forth in
    let two : at + 1 < m = found.forth in
    record {
      grows = λ xs k h.
          subst
          (λ y. HoldPieces ks y start k)
          (sym (onto_snoc done at p xs))
          (row.grows (Piece_then at p xs) k (m, refl, q, found.reads, h));
      only = λ xs k t c h g l.
          let a = row.only xs k t c h g l in
          row_left ks done at p m q (λ x. n (e ∙ x)) only xs a.left k t c a.is a.holds g l;
      forth = omega arith;
      inside = found.inside;
    }

pub row_found : (ks : List Kind) → (start : ℕ) → (done : List (ℕ × Piece)) → (at : ℕ) → Row ks start done at
    → FoundPieces ks start (pieces done) None at
row_found ks start done at row = record {
  behind = at;
  reads = subst (λ y. HoldPieces ks y start at) (onto_none done) (row.grows No_pieces at refl);
  comma = refl;
  forth = row.forth;
  inside = row.inside;
}

no_comma_left : (ks : List Kind) → (done : List (ℕ × Piece)) → (at : ℕ) → (kind_at ks at ≡ Comma → ⊥) → (xs left : Pieces) → (k : ℕ)
    → (t : Option ℕ) → (c : ℕ) → xs ≡ onto done left → HoldPieces ks left at k → HoldsComma ks t k c
    → (pieces done ≡ xs) × (None ≡ t) × (at ≡ c)
no_comma_left ks done at n xs No_pieces k None c is h g = (sym (is ∙ onto_none done), refl, sym (g ∙ h))
no_comma_left ks done at n xs No_pieces k (Some o) c is h g = absurd (n (ap (λ x. kind_at ks x) (sym h) ∙ g.1))
no_comma_left ks done at n xs (Piece_then o x left) k t c is h g = absurd (n h.2)

pub row_only : (ks : List Kind) → (start : ℕ) → (done : List (ℕ × Piece)) → (at : ℕ) → (k : Kind) → Row ks start done at → k ≡ kind_at ks at
    → (k ≡ Comma → ⊥) → OnlyPieces ks start (pieces done) None at
row_only ks start done at k row e n xs j t c h g l =
    let a = row.only xs j t c h g l in
    no_comma_left ks done at (λ x. n (e ∙ x)) xs a.left j t c a.is a.holds g

pub row_found_comma : (ks : List Kind) → (start : ℕ) → (done : List (ℕ × Piece)) → (at : ℕ) → Row ks start done at → kind_at ks at ≡ Comma
    → at < length ks → FoundPieces ks start (pieces done) (Some at) (at + 1)
row_found_comma ks start done at row q i =
    let one : start ≤ at = row.forth in
    record {
      behind = at;
      reads = subst (λ y. HoldPieces ks y start at) (onto_none done) (row.grows No_pieces at refl);
      comma = (refl, q, refl);
      forth = omega arith;
      inside = omega arith;
    }

last_comma : (ks : List Kind) → (done : List (ℕ × Piece)) → (at : ℕ) → kind_at ks at ≡ Comma → kind_at ks (at + 1) ≡ CloseBrace
    → (xs left : Pieces) → (k : ℕ) → (t : Option ℕ) → (c : ℕ) → xs ≡ onto done left → HoldPieces ks left at k → HoldsComma ks t k c
    → kind_at ks c ≡ CloseBrace → (pieces done ≡ xs) × (Some at ≡ t) × (at + 1 ≡ c)
last_comma ks done at q n xs No_pieces k None c is h g l =
    clash (kind_at ks at) Comma CloseBrace q (ap (λ x. kind_at ks x) (sym (g ∙ h)) ∙ l) (λ x. omega (arith, x))
last_comma ks done at q n xs No_pieces k (Some o) c is h g l =
    (sym (is ∙ onto_none done), ap Some (sym (g.0 ∙ h)), sym (g.2 ∙ ap (λ x. x + 1) h))
last_comma ks done at q n xs (Piece_then o x left) k t c is h g l = absurd (piece_closes_not ks x (at + 1) h.0 h.3 n)

pub row_only_comma : (ks : List Kind) → (start : ℕ) → (done : List (ℕ × Piece)) → (at : ℕ) → Row ks start done at → kind_at ks at ≡ Comma
    → kind_at ks (at + 1) ≡ CloseBrace → OnlyPieces ks start (pieces done) (Some at) (at + 1)
row_only_comma ks start done at row q n xs k t c h g l =
    let a = row.only xs k t c h g l in
    last_comma ks done at q n xs a.left k t c a.is a.holds g l

next_piece : (ks : List Kind) → (at : ℕ) → kind_at ks at ≡ Comma → (kind_at ks (at + 1) ≡ CloseBrace → ⊥) → (e : Stop) → FailsPiece ks (at + 1) e
    → (left : Pieces) → (k : ℕ) → (t : Option ℕ) → (c : ℕ) → HoldPieces ks left at k → HoldsComma ks t k c → kind_at ks c ≡ CloseBrace → IsWant e
next_piece ks at q n e fails No_pieces k t c h g l = comma_goes ks t at k c q n h g l
next_piece ks at q n e fails (Piece_then o x left) k t c h g l =
    fails x h.0 h.3 (pieces_begin ks left h.0 k t c h.4 g l)

pub row_fails : (ks : List Kind) → (start : ℕ) → (done : List (ℕ × Piece)) → (at : ℕ) → Row ks start done at → kind_at ks at ≡ Comma
    → (after : Kind) → after ≡ kind_at ks (at + 1) → (after ≡ CloseBrace → ⊥) → (e : Stop) → FailsPiece ks (at + 1) e → FailsPieces ks start e
row_fails ks start done at row q after f n e fails xs k t c h g l =
    let a = row.only xs k t c h g l in
    next_piece ks at q (λ x. n (f ∙ x)) e fails a.left k t c a.holds g l

-- designators
abbrev pub over : List Designator → Designators → Designators
over [] more = more
over (d ∷ ds) more = Designator_then d (over ds more)

over_none : (ds : List Designator) → over ds No_designators ≡ designators ds
over_none [] = refl
over_none (d ∷ ds) = ap (Designator_then d) (over_none ds)

over_snoc : (ds : List Designator) → (d : Designator) → (more : Designators) → over (ds ++ d ∷ []) more ≡ over ds (Designator_then d more)
over_snoc [] d more = refl
over_snoc (x ∷ xs) d more = ap (Designator_then x) (over_snoc xs d more)

pub record PathLeft (ks : List Kind) (done : List Designator) (at : ℕ) (xs : Designators) (b : ℕ) : Type 0 where
  pub left : Designators
  pub is : xs ≡ over done left
  pub holds : HoldDesignators ks left at b

pub record Path (ks : List Kind) (start : ℕ) (done : List Designator) (at : ℕ) : Type 0 where
  pub grows : (xs : Designators) → (b : ℕ) → HoldDesignators ks xs at b → HoldDesignators ks (over done xs) start b
  pub only : (xs : Designators) → (b : ℕ) → HoldDesignators ks xs start b → is_equals (kind_at ks b) ≡ true → PathLeft ks done at xs b
  pub forth : start ≤ at
  pub inside : at ≤ length ks

pub path_starts : (ks : List Kind) → (at : ℕ) → at ≤ length ks → Path ks at [] at
path_starts ks at i = record {
  grows = λ xs b h. h;
  only = λ xs b h e. record { left = xs; is = refl; holds = h };
  forth = omega arith;
  inside = i;
}

no_equals : {A : Type 0} → (ks : List Kind) → (at b : ℕ) → is_designating (kind_at ks at) ≡ true → b ≡ at → is_equals (kind_at ks b) ≡ true → A
no_equals ks at b k h e =
    absurd (true≢false (sym k ∙ equals_designates_not (kind_at ks at) (ap (λ x. is_equals (kind_at ks x)) (sym h) ∙ e)))

path_left : (ks : List Kind) → (done : List Designator) → (at : ℕ) → (d : Designator) → (m : ℕ) → is_designating (kind_at ks at) ≡ true
    → OnlyDesignator ks at d m → (xs left : Designators) → (b : ℕ) → xs ≡ over done left → HoldDesignators ks left at b
    → is_equals (kind_at ks b) ≡ true → PathLeft ks (done ++ d ∷ []) m xs b
path_left ks done at d m k only xs No_designators b is h e = no_equals ks at b k h e
path_left ks done at d m k only xs (Designator_then x left) b is h e =
    let one = only x h.0 h.1 in
    record {
      left = left;
      is = is ∙ ap (λ y. over done (Designator_then y left)) (sym one.0) ∙ sym (over_snoc done d left);
      holds = subst (λ y. HoldDesignators ks left y b) (sym one.1) h.2;
    }

pub path_turns : (ks : List Kind) → (start : ℕ) → (done : List Designator) → (at : ℕ) → (d : Designator) → (m : ℕ) → Path ks start done at
    → is_designating (kind_at ks at) ≡ true → FoundDesignator ks at d m → OnlyDesignator ks at d m → Path ks start (done ++ d ∷ []) m
path_turns ks start done at d m path k found only =
    let one : start ≤ at = path.forth in
    let two : at < m = found.forth in
    record {
      grows = λ xs b h.
          subst (λ y. HoldDesignators ks y start b) (sym (over_snoc done d xs)) (path.grows (Designator_then d xs) b (m, found.reads, h));
      only = λ xs b h e.
          let a = path.only xs b h e in
          path_left ks done at d m k only xs a.left b a.is a.holds e;
      forth = omega arith;
      inside = found.inside;
    }

pub path_found : (ks : List Kind) → (start : ℕ) → (done : List Designator) → (at : ℕ) → Path ks start done at
    → FoundDesignators ks start (designators done) at
path_found ks start done at path = record {
  reads = subst (λ y. HoldDesignators ks y start at) (over_none done) (path.grows No_designators at refl);
  forth = path.forth;
  inside = path.inside;
}

path_stops : (ks : List Kind) → (done : List Designator) → (at : ℕ) → is_designating (kind_at ks at) ≡ false → (xs left : Designators) → (b : ℕ)
    → xs ≡ over done left → HoldDesignators ks left at b → (designators done ≡ xs) × (at ≡ b)
path_stops ks done at n xs No_designators b is h = (sym (is ∙ over_none done), sym h)
path_stops ks done at n xs (Designator_then x left) b is h = absurd (true≢false (sym (designator_begins ks x at h.0 h.1) ∙ n))

pub path_only : (ks : List Kind) → (start : ℕ) → (done : List Designator) → (at : ℕ) → Path ks start done at
    → is_designating (kind_at ks at) ≡ false → OnlyDesignators ks start (designators done) at
path_only ks start done at path n xs b h e =
    let a = path.only xs b h e in
    path_stops ks done at n xs a.left b a.is a.holds

next_designator : (ks : List Kind) → (at : ℕ) → is_designating (kind_at ks at) ≡ true → (e : Stop) → FailsDesignator ks at e
    → (left : Designators) → (b : ℕ) → HoldDesignators ks left at b → is_equals (kind_at ks b) ≡ true → IsWant e
next_designator ks at k e fails No_designators b h q = no_equals ks at b k h q
next_designator ks at k e fails (Designator_then x left) b h q = fails x h.0 h.1

pub path_fails : (ks : List Kind) → (start : ℕ) → (done : List Designator) → (at : ℕ) → Path ks start done at
    → is_designating (kind_at ks at) ≡ true → (e : Stop) → FailsDesignator ks at e → FailsDesignators ks start e
path_fails ks start done at path k e fails xs b h q =
    let a = path.only xs b h q in
    next_designator ks at k e fails a.left b a.holds q
