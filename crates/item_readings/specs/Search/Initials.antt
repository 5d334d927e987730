-- Initializers (ISO C11 6.7.9), and what a generic selection chooses among (6.5.1.1).
use Rattle.std.proofs.Common.{◌≡◌, refl, ℕ, suc, ◌+◌, ◌≤◌, arith, List, length, true, false, Option}
use Rattle.tree_data.specs.Trees.{Tree, Braces, Braces_of, Initial, Value_of, List_of, Piece, Plain_of, Designated_of, Pieces, No_pieces, Piece_then, Designator, Element_of, Field_of, Designators, No_designators, Designator_then, Association, Typed_of, Default_of, Associations, No_associations, Association_then, Naming}
use Rattle.c_parser.specs.declared.kinds.Kind.{Kind}
use Rattle.c_parser.specs.declared.kinds.Kind.TheVariants.{CloseBrace, CloseBracket, Colon, Comma, Default, OpenBrace, OpenBracket}
use Rattle.c_parser.specs.Kinds.{kind_at, is_word, is_equals, is_dot}
use Rattle.c_parser.specs.Reading.{HoldsComma, HoldBraces, HoldsInitial, HoldsPiece, HoldPieces, HoldsDesignator, HoldDesignators, HoldsAssociation, HoldAssociations, HoldsNaming, Reads}
use Rattle.item_readings.specs.Search.Deciding.{and_then, at_place, first, dec_bool, dec_kind}
use Rattle.item_readings.specs.Search.Searches.{Search, Within, weight, tree_rank, Searches, next, stays, inside_kind, inside_test}

abbrev Braces_braces_plan : List Kind → ℕ → (Braces → ℕ → Type 0) → Type 0
Braces_braces_plan ks a Goal =
    (o : ℕ) × (o ≡ a)
    × ((kind_at ks a ≡ OpenBrace)
    × ((p : Piece) × (m : ℕ) × HoldsPiece ks p (a + 1) m
    × ((ps : Pieces) × (k : ℕ) × HoldPieces ks ps m k
    × ((t : Option ℕ) × (c : ℕ) × HoldsComma ks t k c
    × ((kind_at ks c ≡ CloseBrace)
    × ((b : ℕ) × (b ≡ c + 1)
    × (Goal (Braces_of o p ps t c) b)))))))

braces_braces_decided : (size fuel : ℕ) → Searches size fuel → (ks : List Kind) → length ks ≡ size → (a : ℕ)
    → weight size a + 1 ≤ suc fuel
    → (Goal : Braces → ℕ → Type 0)
    → ((t : Braces) → (e : ℕ) → HoldBraces ks t a e → Within size a e → Dec (Goal t e))
    → Dec (Braces_braces_plan ks a Goal)
braces_braces_decided size fuel searches ks long a left Goal found =
    at_place a (
    and_then (dec_kind (kind_at ks a) OpenBrace refl) (λ x1.
    searches.piece ks long (a + 1) (next size fuel a (a + 1) 1 101 (inside_kind ks size a long OpenBrace refl x1) (omega arith) (omega arith) left) _ (λ p m x2 w2.
    searches.pieces ks long m (next size fuel a m 1 1 (inside_kind ks size a long OpenBrace refl x1) (omega (arith, w2.forth)) (omega arith) left) _ (λ ps k x3 w3.
    searches.comma ks long k (next size fuel a k 1 1 (inside_kind ks size a long OpenBrace refl x1) (omega (arith, w2.forth, w3)) (omega arith) left) _ (λ t c x4 w4.
    and_then (dec_kind (kind_at ks c) CloseBrace refl) (λ x5.
    at_place (c + 1) (
    found (Braces_of a p ps t c) (c + 1) (m, k, refl, x1, x2, x3, x4, x5, refl) (record { forth = omega (arith, w2.forth, w3, w4); inside = (inside_kind ks size a long OpenBrace refl x1) }))))))))

no_braces : (ks : List Kind) → (a : ℕ) → (Goal : Braces → ℕ → Type 0)
    → (Braces_braces_plan ks a Goal → ⊥)
    → (t : Braces) → (e : ℕ) → HoldBraces ks t a e → Goal t e → ⊥
no_braces ks a Goal n0 (Braces_of o p ps t c) b h p0 = n0 (o, h.2, (h.3, (p, h.0, h.4, (ps, h.1, h.5, (t, c, h.6, (h.7, (b, h.8, p0)))))))

pub braces : (size fuel : ℕ) → Searches size fuel → (ks : List Kind) → length ks ≡ size → (a : ℕ)
    → weight size a + 1 ≤ suc fuel
    → Search Braces (λ t e. HoldBraces ks t a e) (λ t e. Within size a e)
braces size fuel searches ks long a left Goal found =
    first (braces_braces_decided size fuel searches ks long a left Goal found) (λ z. ((Braces_of z.0 z.2.1.0 z.2.1.3.0 z.2.1.3.3.0 z.2.1.3.3.1), z.2.1.3.3.3.1.0, (z.2.1.1, z.2.1.3.1, z.1, z.2.0, z.2.1.2, z.2.1.3.2, z.2.1.3.3.2, z.2.1.3.3.3.0, z.2.1.3.3.3.1.1), z.2.1.3.3.3.1.2)) (λ n0.
    no (λ z. no_braces ks a Goal n0 z.0 z.1 z.2 z.3))

abbrev Initial_value_plan : List Kind → ℕ → (Initial → ℕ → Type 0) → Type 0
Initial_value_plan ks a Goal =
    (t : Tree) × (b : ℕ) × Reads ks 2 t a b
    × (Goal (Value_of t) b)

initial_value_decided : (size fuel : ℕ) → Searches size fuel → (ks : List Kind) → length ks ≡ size → (a : ℕ)
    → weight size a + 100 ≤ suc fuel
    → (Goal : Initial → ℕ → Type 0)
    → ((t : Initial) → (e : ℕ) → HoldsInitial ks t a e → Within size a e → Dec (Goal t e))
    → Dec (Initial_value_plan ks a Goal)
initial_value_decided size fuel searches ks long a left Goal found =
    searches.tree ks long 2 a (stays size fuel a a 100 (tree_rank 2) (omega arith) (omega arith) left) _ (λ t b x0 w0.
    found (Value_of t) b (x0.0, x0.1) (record { forth = omega (arith, w0.forth); inside = w0.inside }))

abbrev Initial_list_plan : List Kind → ℕ → (Initial → ℕ → Type 0) → Type 0
Initial_list_plan ks a Goal =
    (i : Braces) × (b : ℕ) × HoldBraces ks i a b
    × (Goal (List_of i) b)

initial_list_decided : (size fuel : ℕ) → Searches size fuel → (ks : List Kind) → length ks ≡ size → (a : ℕ)
    → weight size a + 100 ≤ suc fuel
    → (Goal : Initial → ℕ → Type 0)
    → ((t : Initial) → (e : ℕ) → HoldsInitial ks t a e → Within size a e → Dec (Goal t e))
    → Dec (Initial_list_plan ks a Goal)
initial_list_decided size fuel searches ks long a left Goal found =
    searches.braces ks long a (stays size fuel a a 100 1 (omega arith) (omega arith) left) _ (λ i b x0 w0.
    found (List_of i) b x0 (record { forth = omega (arith, w0.forth); inside = w0.inside }))

no_initial : (ks : List Kind) → (a : ℕ) → (Goal : Initial → ℕ → Type 0)
    → (Initial_value_plan ks a Goal → ⊥)
    → (Initial_list_plan ks a Goal → ⊥)
    → (t : Initial) → (e : ℕ) → HoldsInitial ks t a e → Goal t e → ⊥
no_initial ks a Goal n0 n1 (Value_of t) b h p0 = n0 (t, b, (h.0, h.1), p0)
no_initial ks a Goal n0 n1 (List_of i) b h p0 = n1 (i, b, h, p0)

pub initial : (size fuel : ℕ) → Searches size fuel → (ks : List Kind) → length ks ≡ size → (a : ℕ)
    → weight size a + 100 ≤ suc fuel
    → Search Initial (λ t e. HoldsInitial ks t a e) (λ t e. Within size a e)
initial size fuel searches ks long a left Goal found =
    first (initial_value_decided size fuel searches ks long a left Goal found) (λ z. ((Value_of z.0), z.1, (z.2.0, z.2.1), z.3)) (λ n0.
    first (initial_list_decided size fuel searches ks long a left Goal found) (λ z. ((List_of z.0), z.1, z.2, z.3)) (λ n1.
    no (λ z. no_initial ks a Goal n0 n1 z.0 z.1 z.2 z.3)))

abbrev Piece_plain_plan : List Kind → ℕ → (Piece → ℕ → Type 0) → Type 0
Piece_plain_plan ks a Goal =
    (i : Initial) × (b : ℕ) × HoldsInitial ks i a b
    × (Goal (Plain_of i) b)

piece_plain_decided : (size fuel : ℕ) → Searches size fuel → (ks : List Kind) → length ks ≡ size → (a : ℕ)
    → weight size a + 101 ≤ suc fuel
    → (Goal : Piece → ℕ → Type 0)
    → ((t : Piece) → (e : ℕ) → HoldsPiece ks t a e → Within size a e → Dec (Goal t e))
    → Dec (Piece_plain_plan ks a Goal)
piece_plain_decided size fuel searches ks long a left Goal found =
    searches.initial ks long a (stays size fuel a a 101 100 (omega arith) (omega arith) left) _ (λ i b x0 w0.
    found (Plain_of i) b x0 (record { forth = omega (arith, w0.forth); inside = w0.inside }))

abbrev Piece_designated_plan : List Kind → ℕ → (Piece → ℕ → Type 0) → Type 0
Piece_designated_plan ks a Goal =
    (d : Designator) × (m : ℕ) × HoldsDesignator ks d a m
    × ((ds : Designators) × (e : ℕ) × HoldDesignators ks ds m e
    × ((is_equals (kind_at ks e) ≡ true)
    × ((i : Initial) × (b : ℕ) × HoldsInitial ks i (e + 1) b
    × (Goal (Designated_of d ds e i) b))))

piece_designated_decided : (size fuel : ℕ) → Searches size fuel → (ks : List Kind) → length ks ≡ size → (a : ℕ)
    → weight size a + 101 ≤ suc fuel
    → (Goal : Piece → ℕ → Type 0)
    → ((t : Piece) → (e : ℕ) → HoldsPiece ks t a e → Within size a e → Dec (Goal t e))
    → Dec (Piece_designated_plan ks a Goal)
piece_designated_decided size fuel searches ks long a left Goal found =
    searches.designator ks long a (stays size fuel a a 101 1 (omega arith) (omega arith) left) _ (λ d m x0 w0.
    searches.designators ks long m (next size fuel a m 101 2 w0.inside (omega (arith, w0.forth)) (omega arith) left) _ (λ ds e x1 w1.
    and_then (dec_bool (is_equals (kind_at ks e)) true) (λ x2.
    searches.initial ks long (e + 1) (next size fuel a (e + 1) 101 100 w0.inside (omega (arith, w0.forth, w1)) (omega arith) left) _ (λ i b x3 w3.
    found (Designated_of d ds e i) b (m, x0, x1, x2, x3) (record { forth = omega (arith, w0.forth, w1, w3.forth); inside = w0.inside })))))

no_piece : (ks : List Kind) → (a : ℕ) → (Goal : Piece → ℕ → Type 0)
    → (Piece_plain_plan ks a Goal → ⊥)
    → (Piece_designated_plan ks a Goal → ⊥)
    → (t : Piece) → (e : ℕ) → HoldsPiece ks t a e → Goal t e → ⊥
no_piece ks a Goal n0 n1 (Plain_of i) b h p0 = n0 (i, b, h, p0)
no_piece ks a Goal n0 n1 (Designated_of d ds e i) b h p0 = n1 (d, h.0, h.1, (ds, e, h.2, (h.3, (i, b, h.4, p0))))

pub piece : (size fuel : ℕ) → Searches size fuel → (ks : List Kind) → length ks ≡ size → (a : ℕ)
    → weight size a + 101 ≤ suc fuel
    → Search Piece (λ t e. HoldsPiece ks t a e) (λ t e. Within size a e)
piece size fuel searches ks long a left Goal found =
    first (piece_plain_decided size fuel searches ks long a left Goal found) (λ z. ((Plain_of z.0), z.1, z.2, z.3)) (λ n0.
    first (piece_designated_decided size fuel searches ks long a left Goal found) (λ z. ((Designated_of z.0 z.3.0 z.3.1 z.3.3.1.0), z.3.3.1.1, (z.1, z.2, z.3.2, z.3.3.0, z.3.3.1.2), z.3.3.1.3)) (λ n1.
    no (λ z. no_piece ks a Goal n0 n1 z.0 z.1 z.2 z.3)))

abbrev Pieces_no_pieces_plan : List Kind → ℕ → (Pieces → ℕ → Type 0) → Type 0
Pieces_no_pieces_plan ks a Goal =
    (b : ℕ) × (b ≡ a)
    × (Goal No_pieces b)

pieces_no_pieces_decided : (size fuel : ℕ) → Searches size fuel → (ks : List Kind) → length ks ≡ size → (a : ℕ)
    → weight size a + 1 ≤ suc fuel
    → (Goal : Pieces → ℕ → Type 0)
    → ((t : Pieces) → (e : ℕ) → HoldPieces ks t a e → a ≤ e → Dec (Goal t e))
    → Dec (Pieces_no_pieces_plan ks a Goal)
pieces_no_pieces_decided size fuel searches ks long a left Goal found =
    at_place a (
    found No_pieces a refl (omega arith))

abbrev Pieces_piece_then_plan : List Kind → ℕ → (Pieces → ℕ → Type 0) → Type 0
Pieces_piece_then_plan ks a Goal =
    (o : ℕ) × (o ≡ a)
    × ((kind_at ks a ≡ Comma)
    × ((p : Piece) × (m : ℕ) × HoldsPiece ks p (a + 1) m
    × ((ps : Pieces) × (b : ℕ) × HoldPieces ks ps m b
    × (Goal (Piece_then o p ps) b))))

pieces_piece_then_decided : (size fuel : ℕ) → Searches size fuel → (ks : List Kind) → length ks ≡ size → (a : ℕ)
    → weight size a + 1 ≤ suc fuel
    → (Goal : Pieces → ℕ → Type 0)
    → ((t : Pieces) → (e : ℕ) → HoldPieces ks t a e → a ≤ e → Dec (Goal t e))
    → Dec (Pieces_piece_then_plan ks a Goal)
pieces_piece_then_decided size fuel searches ks long a left Goal found =
    at_place a (
    and_then (dec_kind (kind_at ks a) Comma refl) (λ x1.
    searches.piece ks long (a + 1) (next size fuel a (a + 1) 1 101 (inside_kind ks size a long Comma refl x1) (omega arith) (omega arith) left) _ (λ p m x2 w2.
    searches.pieces ks long m (next size fuel a m 1 1 (inside_kind ks size a long Comma refl x1) (omega (arith, w2.forth)) (omega arith) left) _ (λ ps b x3 w3.
    found (Piece_then a p ps) b (m, refl, x1, x2, x3) (omega (arith, w2.forth, w3))))))

no_pieces : (ks : List Kind) → (a : ℕ) → (Goal : Pieces → ℕ → Type 0)
    → (Pieces_no_pieces_plan ks a Goal → ⊥)
    → (Pieces_piece_then_plan ks a Goal → ⊥)
    → (t : Pieces) → (e : ℕ) → HoldPieces ks t a e → Goal t e → ⊥
no_pieces ks a Goal n0 n1 No_pieces b h p0 = n0 (b, h, p0)
no_pieces ks a Goal n0 n1 (Piece_then o p ps) b h p0 = n1 (o, h.1, (h.2, (p, h.0, h.3, (ps, b, h.4, p0))))

pub pieces : (size fuel : ℕ) → Searches size fuel → (ks : List Kind) → length ks ≡ size → (a : ℕ)
    → weight size a + 1 ≤ suc fuel
    → Search Pieces (λ t e. HoldPieces ks t a e) (λ t e. a ≤ e)
pieces size fuel searches ks long a left Goal found =
    first (pieces_no_pieces_decided size fuel searches ks long a left Goal found) (λ z. (No_pieces, z.0, z.1, z.2)) (λ n0.
    first (pieces_piece_then_decided size fuel searches ks long a left Goal found) (λ z. ((Piece_then z.0 z.2.1.0 z.2.1.3.0), z.2.1.3.1, (z.2.1.1, z.1, z.2.0, z.2.1.2, z.2.1.3.2), z.2.1.3.3)) (λ n1.
    no (λ z. no_pieces ks a Goal n0 n1 z.0 z.1 z.2 z.3)))

abbrev Designator_element_plan : List Kind → ℕ → (Designator → ℕ → Type 0) → Type 0
Designator_element_plan ks a Goal =
    (o : ℕ) × (o ≡ a)
    × ((kind_at ks a ≡ OpenBracket)
    × ((t : Tree) × (c : ℕ) × Reads ks 3 t (a + 1) c
    × ((kind_at ks c ≡ CloseBracket)
    × ((b : ℕ) × (b ≡ c + 1)
    × (Goal (Element_of o t c) b)))))

designator_element_decided : (size fuel : ℕ) → Searches size fuel → (ks : List Kind) → length ks ≡ size → (a : ℕ)
    → weight size a + 1 ≤ suc fuel
    → (Goal : Designator → ℕ → Type 0)
    → ((t : Designator) → (e : ℕ) → HoldsDesignator ks t a e → Within size a e → Dec (Goal t e))
    → Dec (Designator_element_plan ks a Goal)
designator_element_decided size fuel searches ks long a left Goal found =
    at_place a (
    and_then (dec_kind (kind_at ks a) OpenBracket refl) (λ x1.
    searches.tree ks long 3 (a + 1) (next size fuel a (a + 1) 1 (tree_rank 3) (inside_kind ks size a long OpenBracket refl x1) (omega arith) (omega arith) left) _ (λ t c x2 w2.
    and_then (dec_kind (kind_at ks c) CloseBracket refl) (λ x3.
    at_place (c + 1) (
    found (Element_of a t c) (c + 1) (refl, x1, x2.0, x2.1, x3, refl) (record { forth = omega (arith, w2.forth); inside = (inside_kind ks size a long OpenBracket refl x1) }))))))

abbrev Designator_field_plan : List Kind → ℕ → (Designator → ℕ → Type 0) → Type 0
Designator_field_plan ks a Goal =
    (o : ℕ) × (o ≡ a)
    × ((is_dot (kind_at ks a) ≡ true)
    × ((n : ℕ) × (n ≡ a + 1)
    × ((is_word (kind_at ks n) ≡ true)
    × ((b : ℕ) × (b ≡ n + 1)
    × (Goal (Field_of o n) b)))))

designator_field_decided : (size fuel : ℕ) → Searches size fuel → (ks : List Kind) → length ks ≡ size → (a : ℕ)
    → weight size a + 1 ≤ suc fuel
    → (Goal : Designator → ℕ → Type 0)
    → ((t : Designator) → (e : ℕ) → HoldsDesignator ks t a e → Within size a e → Dec (Goal t e))
    → Dec (Designator_field_plan ks a Goal)
designator_field_decided size fuel searches ks long a left Goal found =
    at_place a (
    and_then (dec_bool (is_dot (kind_at ks a)) true) (λ x1.
    at_place (a + 1) (
    and_then (dec_bool (is_word (kind_at ks (a + 1))) true) (λ x3.
    at_place ((a + 1) + 1) (
    found (Field_of a (a + 1)) ((a + 1) + 1) (refl, x1, refl, x3, refl) (record { forth = omega arith; inside = (inside_test ks size a long is_dot refl x1) }))))))

no_designator : (ks : List Kind) → (a : ℕ) → (Goal : Designator → ℕ → Type 0)
    → (Designator_element_plan ks a Goal → ⊥)
    → (Designator_field_plan ks a Goal → ⊥)
    → (t : Designator) → (e : ℕ) → HoldsDesignator ks t a e → Goal t e → ⊥
no_designator ks a Goal n0 n1 (Element_of o t c) b h p0 = n0 (o, h.0, (h.1, (t, c, (h.2, h.3), (h.4, (b, h.5, p0)))))
no_designator ks a Goal n0 n1 (Field_of o n) b h p0 = n1 (o, h.0, (h.1, (n, h.2, (h.3, (b, h.4, p0)))))

pub designator : (size fuel : ℕ) → Searches size fuel → (ks : List Kind) → length ks ≡ size → (a : ℕ)
    → weight size a + 1 ≤ suc fuel
    → Search Designator (λ t e. HoldsDesignator ks t a e) (λ t e. Within size a e)
designator size fuel searches ks long a left Goal found =
    first (designator_element_decided size fuel searches ks long a left Goal found) (λ z. ((Element_of z.0 z.2.1.0 z.2.1.1), z.2.1.3.1.0, (z.1, z.2.0, z.2.1.2.0, z.2.1.2.1, z.2.1.3.0, z.2.1.3.1.1), z.2.1.3.1.2)) (λ n0.
    first (designator_field_decided size fuel searches ks long a left Goal found) (λ z. ((Field_of z.0 z.2.1.0), z.2.1.2.1.0, (z.1, z.2.0, z.2.1.1, z.2.1.2.0, z.2.1.2.1.1), z.2.1.2.1.2)) (λ n1.
    no (λ z. no_designator ks a Goal n0 n1 z.0 z.1 z.2 z.3)))

abbrev Designators_no_designators_plan : List Kind → ℕ → (Designators → ℕ → Type 0) → Type 0
Designators_no_designators_plan ks a Goal =
    (b : ℕ) × (b ≡ a)
    × (Goal No_designators b)

designators_no_designators_decided : (size fuel : ℕ) → Searches size fuel → (ks : List Kind) → length ks ≡ size → (a : ℕ)
    → weight size a + 2 ≤ suc fuel
    → (Goal : Designators → ℕ → Type 0)
    → ((t : Designators) → (e : ℕ) → HoldDesignators ks t a e → a ≤ e → Dec (Goal t e))
    → Dec (Designators_no_designators_plan ks a Goal)
designators_no_designators_decided size fuel searches ks long a left Goal found =
    at_place a (
    found No_designators a refl (omega arith))

abbrev Designators_designator_then_plan : List Kind → ℕ → (Designators → ℕ → Type 0) → Type 0
Designators_designator_then_plan ks a Goal =
    (d : Designator) × (m : ℕ) × HoldsDesignator ks d a m
    × ((ds : Designators) × (b : ℕ) × HoldDesignators ks ds m b
    × (Goal (Designator_then d ds) b))

designators_designator_then_decided : (size fuel : ℕ) → Searches size fuel → (ks : List Kind) → length ks ≡ size → (a : ℕ)
    → weight size a + 2 ≤ suc fuel
    → (Goal : Designators → ℕ → Type 0)
    → ((t : Designators) → (e : ℕ) → HoldDesignators ks t a e → a ≤ e → Dec (Goal t e))
    → Dec (Designators_designator_then_plan ks a Goal)
designators_designator_then_decided size fuel searches ks long a left Goal found =
    searches.designator ks long a (stays size fuel a a 2 1 (omega arith) (omega arith) left) _ (λ d m x0 w0.
    searches.designators ks long m (next size fuel a m 2 2 w0.inside (omega (arith, w0.forth)) (omega arith) left) _ (λ ds b x1 w1.
    found (Designator_then d ds) b (m, x0, x1) (omega (arith, w0.forth, w1))))

no_designators : (ks : List Kind) → (a : ℕ) → (Goal : Designators → ℕ → Type 0)
    → (Designators_no_designators_plan ks a Goal → ⊥)
    → (Designators_designator_then_plan ks a Goal → ⊥)
    → (t : Designators) → (e : ℕ) → HoldDesignators ks t a e → Goal t e → ⊥
no_designators ks a Goal n0 n1 No_designators b h p0 = n0 (b, h, p0)
no_designators ks a Goal n0 n1 (Designator_then d ds) b h p0 = n1 (d, h.0, h.1, (ds, b, h.2, p0))

pub designators : (size fuel : ℕ) → Searches size fuel → (ks : List Kind) → length ks ≡ size → (a : ℕ)
    → weight size a + 2 ≤ suc fuel
    → Search Designators (λ t e. HoldDesignators ks t a e) (λ t e. a ≤ e)
designators size fuel searches ks long a left Goal found =
    first (designators_no_designators_decided size fuel searches ks long a left Goal found) (λ z. (No_designators, z.0, z.1, z.2)) (λ n0.
    first (designators_designator_then_decided size fuel searches ks long a left Goal found) (λ z. ((Designator_then z.0 z.3.0), z.3.1, (z.1, z.2, z.3.2), z.3.3)) (λ n1.
    no (λ z. no_designators ks a Goal n0 n1 z.0 z.1 z.2 z.3)))

abbrev Association_typed_plan : List Kind → ℕ → (Association → ℕ → Type 0) → Type 0
Association_typed_plan ks a Goal =
    (t : Naming) × (c : ℕ) × HoldsNaming ks false t a c
    × ((kind_at ks c ≡ Colon)
    × ((e : Tree) × (b : ℕ) × Reads ks 2 e (c + 1) b
    × (Goal (Typed_of t c e) b)))

association_typed_decided : (size fuel : ℕ) → Searches size fuel → (ks : List Kind) → length ks ≡ size → (a : ℕ)
    → weight size a + 15 ≤ suc fuel
    → (Goal : Association → ℕ → Type 0)
    → ((t : Association) → (e : ℕ) → HoldsAssociation ks t a e → Within size a e → Dec (Goal t e))
    → Dec (Association_typed_plan ks a Goal)
association_typed_decided size fuel searches ks long a left Goal found =
    searches.naming ks long false a (stays size fuel a a 15 11 (omega arith) (omega arith) left) _ (λ t c x0 w0.
    and_then (dec_kind (kind_at ks c) Colon refl) (λ x1.
    searches.tree ks long 2 (c + 1) (next size fuel a (c + 1) 15 (tree_rank 2) w0.inside (omega (arith, w0.forth)) (omega arith) left) _ (λ e b x2 w2.
    found (Typed_of t c e) b (x0, x1, x2.0, x2.1) (record { forth = omega (arith, w0.forth, w2.forth); inside = w0.inside }))))

abbrev Association_default_plan : List Kind → ℕ → (Association → ℕ → Type 0) → Type 0
Association_default_plan ks a Goal =
    (d : ℕ) × (d ≡ a)
    × ((kind_at ks a ≡ Default)
    × ((c : ℕ) × (c ≡ a + 1)
    × ((kind_at ks c ≡ Colon)
    × ((e : Tree) × (b : ℕ) × Reads ks 2 e (c + 1) b
    × (Goal (Default_of d c e) b)))))

association_default_decided : (size fuel : ℕ) → Searches size fuel → (ks : List Kind) → length ks ≡ size → (a : ℕ)
    → weight size a + 15 ≤ suc fuel
    → (Goal : Association → ℕ → Type 0)
    → ((t : Association) → (e : ℕ) → HoldsAssociation ks t a e → Within size a e → Dec (Goal t e))
    → Dec (Association_default_plan ks a Goal)
association_default_decided size fuel searches ks long a left Goal found =
    at_place a (
    and_then (dec_kind (kind_at ks a) Default refl) (λ x1.
    at_place (a + 1) (
    and_then (dec_kind (kind_at ks (a + 1)) Colon refl) (λ x3.
    searches.tree ks long 2 ((a + 1) + 1) (next size fuel a ((a + 1) + 1) 15 (tree_rank 2) (inside_kind ks size a long Default refl x1) (omega arith) (omega arith) left) _ (λ e b x4 w4.
    found (Default_of a (a + 1) e) b (refl, x1, refl, x3, x4.0, x4.1) (record { forth = omega (arith, w4.forth); inside = (inside_kind ks size a long Default refl x1) }))))))

no_association : (ks : List Kind) → (a : ℕ) → (Goal : Association → ℕ → Type 0)
    → (Association_typed_plan ks a Goal → ⊥)
    → (Association_default_plan ks a Goal → ⊥)
    → (t : Association) → (e : ℕ) → HoldsAssociation ks t a e → Goal t e → ⊥
no_association ks a Goal n0 n1 (Typed_of t c e) b h p0 = n0 (t, c, h.0, (h.1, (e, b, (h.2, h.3), p0)))
no_association ks a Goal n0 n1 (Default_of d c e) b h p0 = n1 (d, h.0, (h.1, (c, h.2, (h.3, (e, b, (h.4, h.5), p0)))))

pub association : (size fuel : ℕ) → Searches size fuel → (ks : List Kind) → length ks ≡ size → (a : ℕ)
    → weight size a + 15 ≤ suc fuel
    → Search Association (λ t e. HoldsAssociation ks t a e) (λ t e. Within size a e)
association size fuel searches ks long a left Goal found =
    first (association_typed_decided size fuel searches ks long a left Goal found) (λ z. ((Typed_of z.0 z.1 z.3.1.0), z.3.1.1, (z.2, z.3.0, z.3.1.2.0, z.3.1.2.1), z.3.1.3)) (λ n0.
    first (association_default_decided size fuel searches ks long a left Goal found) (λ z. ((Default_of z.0 z.2.1.0 z.2.1.2.1.0), z.2.1.2.1.1, (z.1, z.2.0, z.2.1.1, z.2.1.2.0, z.2.1.2.1.2.0, z.2.1.2.1.2.1), z.2.1.2.1.3)) (λ n1.
    no (λ z. no_association ks a Goal n0 n1 z.0 z.1 z.2 z.3)))

abbrev Associations_no_associations_plan : List Kind → ℕ → (Associations → ℕ → Type 0) → Type 0
Associations_no_associations_plan ks a Goal =
    (b : ℕ) × (b ≡ a)
    × (Goal No_associations b)

associations_no_associations_decided : (size fuel : ℕ) → Searches size fuel → (ks : List Kind) → length ks ≡ size → (a : ℕ)
    → weight size a + 1 ≤ suc fuel
    → (Goal : Associations → ℕ → Type 0)
    → ((t : Associations) → (e : ℕ) → HoldAssociations ks t a e → a ≤ e → Dec (Goal t e))
    → Dec (Associations_no_associations_plan ks a Goal)
associations_no_associations_decided size fuel searches ks long a left Goal found =
    at_place a (
    found No_associations a refl (omega arith))

abbrev Associations_association_then_plan : List Kind → ℕ → (Associations → ℕ → Type 0) → Type 0
Associations_association_then_plan ks a Goal =
    (o : ℕ) × (o ≡ a)
    × ((kind_at ks a ≡ Comma)
    × ((x : Association) × (m : ℕ) × HoldsAssociation ks x (a + 1) m
    × ((xs : Associations) × (b : ℕ) × HoldAssociations ks xs m b
    × (Goal (Association_then o x xs) b))))

associations_association_then_decided : (size fuel : ℕ) → Searches size fuel → (ks : List Kind) → length ks ≡ size → (a : ℕ)
    → weight size a + 1 ≤ suc fuel
    → (Goal : Associations → ℕ → Type 0)
    → ((t : Associations) → (e : ℕ) → HoldAssociations ks t a e → a ≤ e → Dec (Goal t e))
    → Dec (Associations_association_then_plan ks a Goal)
associations_association_then_decided size fuel searches ks long a left Goal found =
    at_place a (
    and_then (dec_kind (kind_at ks a) Comma refl) (λ x1.
    searches.association ks long (a + 1) (next size fuel a (a + 1) 1 15 (inside_kind ks size a long Comma refl x1) (omega arith) (omega arith) left) _ (λ x m x2 w2.
    searches.associations ks long m (next size fuel a m 1 1 (inside_kind ks size a long Comma refl x1) (omega (arith, w2.forth)) (omega arith) left) _ (λ xs b x3 w3.
    found (Association_then a x xs) b (m, refl, x1, x2, x3) (omega (arith, w2.forth, w3))))))

no_associations : (ks : List Kind) → (a : ℕ) → (Goal : Associations → ℕ → Type 0)
    → (Associations_no_associations_plan ks a Goal → ⊥)
    → (Associations_association_then_plan ks a Goal → ⊥)
    → (t : Associations) → (e : ℕ) → HoldAssociations ks t a e → Goal t e → ⊥
no_associations ks a Goal n0 n1 No_associations b h p0 = n0 (b, h, p0)
no_associations ks a Goal n0 n1 (Association_then o x xs) b h p0 = n1 (o, h.1, (h.2, (x, h.0, h.3, (xs, b, h.4, p0))))

pub associations : (size fuel : ℕ) → Searches size fuel → (ks : List Kind) → length ks ≡ size → (a : ℕ)
    → weight size a + 1 ≤ suc fuel
    → Search Associations (λ t e. HoldAssociations ks t a e) (λ t e. a ≤ e)
associations size fuel searches ks long a left Goal found =
    first (associations_no_associations_decided size fuel searches ks long a left Goal found) (λ z. (No_associations, z.0, z.1, z.2)) (λ n0.
    first (associations_association_then_decided size fuel searches ks long a left Goal found) (λ z. ((Association_then z.0 z.2.1.0 z.2.1.3.0), z.2.1.3.1, (z.2.1.1, z.1, z.2.0, z.2.1.2, z.2.1.3.2), z.2.1.3.3)) (λ n1.
    no (λ z. no_associations ks a Goal n0 n1 z.0 z.1 z.2 z.3)))
