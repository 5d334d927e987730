-- Specifiers (ISO C11 6.7.1 to 6.7.5) and enumerators (6.7.2.2).
use Rattle.std.proofs.Common.{◌≡◌, refl, ℕ, suc, ◌+◌, ◌≤◌, ◌||◌, arith, List, length, Bool, true, false, Option}
use Rattle.tree_data.specs.Trees.{Tree, Specifying, Word_of, Typedef_of, Tag_of, Atomic_of, Specifyings, No_specifiers, Specifier_then, Naming, Aligned_as_of, Aligned_of, Members_of, Enumerators_of, Members, Enumerator, Counted_of, Given_of, Enumerators, No_enumerators, Enumerator_then}
use Rattle.c_parser.specs.declared.kinds.Kind.{Kind}
use Rattle.c_parser.specs.declared.kinds.Kind.TheVariants.{Align, Atomic, CloseBrace, CloseParen, Comma, Enum, OpenBrace, OpenParen, Tag}
use Rattle.c_parser.specs.Grammar.{has_type, HasMembers}
use Rattle.c_parser.specs.Kinds.{kind_at, is_word, is_equals, specifies_at, is_typedef, is_tagging}
use Rattle.c_parser.specs.Reading.{HoldsComma, HoldsTag, HoldSpecifying, HoldSpecifyings, HoldsEnumerator, HoldEnumerators, HoldMembers, HoldsNaming, Reads}
use Rattle.item_readings.specs.Search.Deciding.{and_then, at_place, first, dec_not, dec_bool, dec_kind, dec_members}
use Rattle.item_readings.specs.Search.Searches.{Search, Within, AheadSome, weight, tree_rank, Searches, next, stays, inside_kind, inside_test, inside_specifies_at}

abbrev Specifying_word_plan : List Kind → Bool → ℕ → (Specifying → ℕ → Type 0) → Type 0
Specifying_word_plan ks typed a Goal =
    (n : ℕ) × (n ≡ a)
    × ((specifies_at ks a ≡ true)
    × ((b : ℕ) × (b ≡ a + 1)
    × (Goal (Word_of n) b)))

specifying_word_decided : (size fuel : ℕ) → Searches size fuel → (ks : List Kind) → length ks ≡ size → (typed : Bool) → (a : ℕ)
    → weight size a + 1 ≤ suc fuel
    → (Goal : Specifying → ℕ → Type 0)
    → ((t : Specifying) → (e : ℕ) → HoldSpecifying ks typed t a e → Within size a e → Dec (Goal t e))
    → Dec (Specifying_word_plan ks typed a Goal)
specifying_word_decided size fuel searches ks long typed a left Goal found =
    at_place a (
    and_then (dec_bool (specifies_at ks a) true) (λ x1.
    at_place (a + 1) (
    found (Word_of a) (a + 1) (refl, x1, refl) (record { forth = omega arith; inside = (inside_specifies_at ks size a long x1) }))))

abbrev Specifying_typedef_plan : List Kind → Bool → ℕ → (Specifying → ℕ → Type 0) → Type 0
Specifying_typedef_plan ks typed a Goal =
    (n : ℕ) × (n ≡ a)
    × ((typed ≡ false)
    × ((is_typedef (kind_at ks a) ≡ true)
    × ((b : ℕ) × (b ≡ a + 1)
    × (Goal (Typedef_of n) b))))

specifying_typedef_decided : (size fuel : ℕ) → Searches size fuel → (ks : List Kind) → length ks ≡ size → (typed : Bool) → (a : ℕ)
    → weight size a + 1 ≤ suc fuel
    → (Goal : Specifying → ℕ → Type 0)
    → ((t : Specifying) → (e : ℕ) → HoldSpecifying ks typed t a e → Within size a e → Dec (Goal t e))
    → Dec (Specifying_typedef_plan ks typed a Goal)
specifying_typedef_decided size fuel searches ks long typed a left Goal found =
    at_place a (
    and_then (dec_bool typed false) (λ x1.
    and_then (dec_bool (is_typedef (kind_at ks a)) true) (λ x2.
    at_place (a + 1) (
    found (Typedef_of a) (a + 1) (refl, x1, x2, refl) (record { forth = omega arith; inside = (inside_test ks size a long is_typedef refl x2) })))))

abbrev Specifying_tag_plan : List Kind → Bool → ℕ → (Specifying → ℕ → Type 0) → Type 0
Specifying_tag_plan ks typed a Goal =
    (k : ℕ) × (k ≡ a)
    × ((is_tagging (kind_at ks a) ≡ true)
    × ((n : ℕ) × (n ≡ a + 1)
    × ((is_word (kind_at ks n) ≡ true)
    × ((b : ℕ) × (b ≡ n + 1)
    × ((kind_at ks b ≡ OpenBrace → ⊥)
    × (Goal (Tag_of k n) b))))))

specifying_tag_decided : (size fuel : ℕ) → Searches size fuel → (ks : List Kind) → length ks ≡ size → (typed : Bool) → (a : ℕ)
    → weight size a + 1 ≤ suc fuel
    → (Goal : Specifying → ℕ → Type 0)
    → ((t : Specifying) → (e : ℕ) → HoldSpecifying ks typed t a e → Within size a e → Dec (Goal t e))
    → Dec (Specifying_tag_plan ks typed a Goal)
specifying_tag_decided size fuel searches ks long typed a left Goal found =
    at_place a (
    and_then (dec_bool (is_tagging (kind_at ks a)) true) (λ x1.
    at_place (a + 1) (
    and_then (dec_bool (is_word (kind_at ks (a + 1))) true) (λ x3.
    at_place ((a + 1) + 1) (
    and_then (dec_not (dec_kind (kind_at ks ((a + 1) + 1)) OpenBrace refl)) (λ x5.
    found (Tag_of a (a + 1)) ((a + 1) + 1) (refl, x1, refl, x3, refl, x5) (record { forth = omega arith; inside = (inside_test ks size a long is_tagging refl x1) })))))))

abbrev Specifying_atomic_plan : List Kind → Bool → ℕ → (Specifying → ℕ → Type 0) → Type 0
Specifying_atomic_plan ks typed a Goal =
    (k : ℕ) × (k ≡ a)
    × ((kind_at ks a ≡ Atomic)
    × ((o : ℕ) × (o ≡ a + 1)
    × ((kind_at ks o ≡ OpenParen)
    × ((t : Naming) × (c : ℕ) × HoldsNaming ks false t (o + 1) c
    × ((kind_at ks c ≡ CloseParen)
    × ((b : ℕ) × (b ≡ c + 1)
    × (Goal (Atomic_of k o t c) b)))))))

specifying_atomic_decided : (size fuel : ℕ) → Searches size fuel → (ks : List Kind) → length ks ≡ size → (typed : Bool) → (a : ℕ)
    → weight size a + 1 ≤ suc fuel
    → (Goal : Specifying → ℕ → Type 0)
    → ((t : Specifying) → (e : ℕ) → HoldSpecifying ks typed t a e → Within size a e → Dec (Goal t e))
    → Dec (Specifying_atomic_plan ks typed a Goal)
specifying_atomic_decided size fuel searches ks long typed a left Goal found =
    at_place a (
    and_then (dec_kind (kind_at ks a) Atomic refl) (λ x1.
    at_place (a + 1) (
    and_then (dec_kind (kind_at ks (a + 1)) OpenParen refl) (λ x3.
    searches.naming ks long false ((a + 1) + 1) (next size fuel a ((a + 1) + 1) 1 11 (inside_kind ks size a long Atomic refl x1) (omega arith) (omega arith) left) _ (λ t c x4 w4.
    and_then (dec_kind (kind_at ks c) CloseParen refl) (λ x5.
    at_place (c + 1) (
    found (Atomic_of a (a + 1) t c) (c + 1) (refl, x1, refl, x3, x4, x5, refl) (record { forth = omega (arith, w4.forth); inside = (inside_kind ks size a long Atomic refl x1) }))))))))

abbrev Specifying_aligned_as_plan : List Kind → Bool → ℕ → (Specifying → ℕ → Type 0) → Type 0
Specifying_aligned_as_plan ks typed a Goal =
    (k : ℕ) × (k ≡ a)
    × ((kind_at ks a ≡ Align)
    × ((o : ℕ) × (o ≡ a + 1)
    × ((kind_at ks o ≡ OpenParen)
    × ((t : Naming) × (c : ℕ) × HoldsNaming ks false t (o + 1) c
    × ((kind_at ks c ≡ CloseParen)
    × ((b : ℕ) × (b ≡ c + 1)
    × (Goal (Aligned_as_of k o t c) b)))))))

specifying_aligned_as_decided : (size fuel : ℕ) → Searches size fuel → (ks : List Kind) → length ks ≡ size → (typed : Bool) → (a : ℕ)
    → weight size a + 1 ≤ suc fuel
    → (Goal : Specifying → ℕ → Type 0)
    → ((t : Specifying) → (e : ℕ) → HoldSpecifying ks typed t a e → Within size a e → Dec (Goal t e))
    → Dec (Specifying_aligned_as_plan ks typed a Goal)
specifying_aligned_as_decided size fuel searches ks long typed a left Goal found =
    at_place a (
    and_then (dec_kind (kind_at ks a) Align refl) (λ x1.
    at_place (a + 1) (
    and_then (dec_kind (kind_at ks (a + 1)) OpenParen refl) (λ x3.
    searches.naming ks long false ((a + 1) + 1) (next size fuel a ((a + 1) + 1) 1 11 (inside_kind ks size a long Align refl x1) (omega arith) (omega arith) left) _ (λ t c x4 w4.
    and_then (dec_kind (kind_at ks c) CloseParen refl) (λ x5.
    at_place (c + 1) (
    found (Aligned_as_of a (a + 1) t c) (c + 1) (refl, x1, refl, x3, x4, x5, refl) (record { forth = omega (arith, w4.forth); inside = (inside_kind ks size a long Align refl x1) }))))))))

abbrev Specifying_aligned_plan : List Kind → Bool → ℕ → (Specifying → ℕ → Type 0) → Type 0
Specifying_aligned_plan ks typed a Goal =
    (k : ℕ) × (k ≡ a)
    × ((kind_at ks a ≡ Align)
    × ((o : ℕ) × (o ≡ a + 1)
    × ((kind_at ks o ≡ OpenParen)
    × ((t : Tree) × (c : ℕ) × Reads ks 3 t (o + 1) c
    × ((kind_at ks c ≡ CloseParen)
    × ((b : ℕ) × (b ≡ c + 1)
    × (Goal (Aligned_of k o t c) b)))))))

specifying_aligned_decided : (size fuel : ℕ) → Searches size fuel → (ks : List Kind) → length ks ≡ size → (typed : Bool) → (a : ℕ)
    → weight size a + 1 ≤ suc fuel
    → (Goal : Specifying → ℕ → Type 0)
    → ((t : Specifying) → (e : ℕ) → HoldSpecifying ks typed t a e → Within size a e → Dec (Goal t e))
    → Dec (Specifying_aligned_plan ks typed a Goal)
specifying_aligned_decided size fuel searches ks long typed a left Goal found =
    at_place a (
    and_then (dec_kind (kind_at ks a) Align refl) (λ x1.
    at_place (a + 1) (
    and_then (dec_kind (kind_at ks (a + 1)) OpenParen refl) (λ x3.
    searches.tree ks long 3 ((a + 1) + 1) (next size fuel a ((a + 1) + 1) 1 (tree_rank 3) (inside_kind ks size a long Align refl x1) (omega arith) (omega arith) left) _ (λ t c x4 w4.
    and_then (dec_kind (kind_at ks c) CloseParen refl) (λ x5.
    at_place (c + 1) (
    found (Aligned_of a (a + 1) t c) (c + 1) (refl, x1, refl, x3, x4.0, x4.1, x5, refl) (record { forth = omega (arith, w4.forth); inside = (inside_kind ks size a long Align refl x1) }))))))))

abbrev Specifying_members_plan : List Kind → Bool → ℕ → (Specifying → ℕ → Type 0) → Type 0
Specifying_members_plan ks typed a Goal =
    (k : ℕ) × (k ≡ a)
    × ((kind_at ks a ≡ Tag)
    × ((g : Option ℕ) × (o : ℕ) × HoldsTag ks g (a + 1) o
    × ((kind_at ks o ≡ OpenBrace)
    × ((ms : Members) × (c : ℕ) × HoldMembers ks ms (o + 1) c
    × ((HasMembers ms)
    × ((kind_at ks c ≡ CloseBrace)
    × ((b : ℕ) × (b ≡ c + 1)
    × (Goal (Members_of k g o ms c) b))))))))

specifying_members_decided : (size fuel : ℕ) → Searches size fuel → (ks : List Kind) → length ks ≡ size → (typed : Bool) → (a : ℕ)
    → weight size a + 1 ≤ suc fuel
    → (Goal : Specifying → ℕ → Type 0)
    → ((t : Specifying) → (e : ℕ) → HoldSpecifying ks typed t a e → Within size a e → Dec (Goal t e))
    → Dec (Specifying_members_plan ks typed a Goal)
specifying_members_decided size fuel searches ks long typed a left Goal found =
    at_place a (
    and_then (dec_kind (kind_at ks a) Tag refl) (λ x1.
    searches.tag ks long (a + 1) (next size fuel a (a + 1) 1 1 (inside_kind ks size a long Tag refl x1) (omega arith) (omega arith) left) _ (λ g o x2 w2.
    and_then (dec_kind (kind_at ks o) OpenBrace refl) (λ x3.
    searches.members ks long (o + 1) (next size fuel a (o + 1) 1 17 (inside_kind ks size a long Tag refl x1) (omega (arith, w2)) (omega arith) left) _ (λ ms c x4 w4.
    and_then (dec_members ms) (λ x5.
    and_then (dec_kind (kind_at ks c) CloseBrace refl) (λ x6.
    at_place (c + 1) (
    found (Members_of a g o ms c) (c + 1) (refl, x1, x2, x3, x5, x4, x6, refl) (record { forth = omega (arith, w2, w4); inside = (inside_kind ks size a long Tag refl x1) })))))))))

abbrev Specifying_enumerators_plan : List Kind → Bool → ℕ → (Specifying → ℕ → Type 0) → Type 0
Specifying_enumerators_plan ks typed a Goal =
    (k : ℕ) × (k ≡ a)
    × ((kind_at ks a ≡ Enum)
    × ((g : Option ℕ) × (o : ℕ) × HoldsTag ks g (a + 1) o
    × ((kind_at ks o ≡ OpenBrace)
    × ((e : Enumerator) × (m : ℕ) × HoldsEnumerator ks e (o + 1) m
    × ((es : Enumerators) × (n : ℕ) × HoldEnumerators ks es m n
    × ((t : Option ℕ) × (c : ℕ) × HoldsComma ks t n c
    × ((kind_at ks c ≡ CloseBrace)
    × ((b : ℕ) × (b ≡ c + 1)
    × (Goal (Enumerators_of k g o e es t c) b)))))))))

specifying_enumerators_decided : (size fuel : ℕ) → Searches size fuel → (ks : List Kind) → length ks ≡ size → (typed : Bool) → (a : ℕ)
    → weight size a + 1 ≤ suc fuel
    → (Goal : Specifying → ℕ → Type 0)
    → ((t : Specifying) → (e : ℕ) → HoldSpecifying ks typed t a e → Within size a e → Dec (Goal t e))
    → Dec (Specifying_enumerators_plan ks typed a Goal)
specifying_enumerators_decided size fuel searches ks long typed a left Goal found =
    at_place a (
    and_then (dec_kind (kind_at ks a) Enum refl) (λ x1.
    searches.tag ks long (a + 1) (next size fuel a (a + 1) 1 1 (inside_kind ks size a long Enum refl x1) (omega arith) (omega arith) left) _ (λ g o x2 w2.
    and_then (dec_kind (kind_at ks o) OpenBrace refl) (λ x3.
    searches.enumerator ks long (o + 1) (next size fuel a (o + 1) 1 1 (inside_kind ks size a long Enum refl x1) (omega (arith, w2)) (omega arith) left) _ (λ e m x4 w4.
    searches.enumerators ks long m (next size fuel a m 1 1 (inside_kind ks size a long Enum refl x1) (omega (arith, w2, w4.forth)) (omega arith) left) _ (λ es n x5 w5.
    searches.comma ks long n (next size fuel a n 1 1 (inside_kind ks size a long Enum refl x1) (omega (arith, w2, w4.forth, w5)) (omega arith) left) _ (λ t c x6 w6.
    and_then (dec_kind (kind_at ks c) CloseBrace refl) (λ x7.
    at_place (c + 1) (
    found (Enumerators_of a g o e es t c) (c + 1) (m, n, refl, x1, x2, x3, x4, x5, x6, x7, refl) (record { forth = omega (arith, w2, w4.forth, w5, w6); inside = (inside_kind ks size a long Enum refl x1) }))))))))))

no_specifying : (ks : List Kind) → (typed : Bool) → (a : ℕ) → (Goal : Specifying → ℕ → Type 0)
    → (Specifying_word_plan ks typed a Goal → ⊥)
    → (Specifying_typedef_plan ks typed a Goal → ⊥)
    → (Specifying_tag_plan ks typed a Goal → ⊥)
    → (Specifying_atomic_plan ks typed a Goal → ⊥)
    → (Specifying_aligned_as_plan ks typed a Goal → ⊥)
    → (Specifying_aligned_plan ks typed a Goal → ⊥)
    → (Specifying_members_plan ks typed a Goal → ⊥)
    → (Specifying_enumerators_plan ks typed a Goal → ⊥)
    → (t : Specifying) → (e : ℕ) → HoldSpecifying ks typed t a e → Goal t e → ⊥
no_specifying ks typed a Goal n0 n1 n2 n3 n4 n5 n6 n7 (Word_of n) b h p0 = n0 (n, h.0, (h.1, (b, h.2, p0)))
no_specifying ks typed a Goal n0 n1 n2 n3 n4 n5 n6 n7 (Typedef_of n) b h p0 = n1 (n, h.0, (h.1, (h.2, (b, h.3, p0))))
no_specifying ks typed a Goal n0 n1 n2 n3 n4 n5 n6 n7 (Tag_of k n) b h p0 = n2 (k, h.0, (h.1, (n, h.2, (h.3, (b, h.4, (h.5, p0))))))
no_specifying ks typed a Goal n0 n1 n2 n3 n4 n5 n6 n7 (Atomic_of k o t c) b h p0 = n3 (k, h.0, (h.1, (o, h.2, (h.3, (t, c, h.4, (h.5, (b, h.6, p0)))))))
no_specifying ks typed a Goal n0 n1 n2 n3 n4 n5 n6 n7 (Aligned_as_of k o t c) b h p0 = n4 (k, h.0, (h.1, (o, h.2, (h.3, (t, c, h.4, (h.5, (b, h.6, p0)))))))
no_specifying ks typed a Goal n0 n1 n2 n3 n4 n5 n6 n7 (Aligned_of k o t c) b h p0 = n5 (k, h.0, (h.1, (o, h.2, (h.3, (t, c, (h.4, h.5), (h.6, (b, h.7, p0)))))))
no_specifying ks typed a Goal n0 n1 n2 n3 n4 n5 n6 n7 (Members_of k g o ms c) b h p0 = n6 (k, h.0, (h.1, (g, o, h.2, (h.3, (ms, c, h.5, (h.4, (h.6, (b, h.7, p0))))))))
no_specifying ks typed a Goal n0 n1 n2 n3 n4 n5 n6 n7 (Enumerators_of k g o e es t c) b h p0 = n7 (k, h.2, (h.3, (g, o, h.4, (h.5, (e, h.0, h.6, (es, h.1, h.7, (t, c, h.8, (h.9, (b, h.10, p0)))))))))

pub specifying : (size fuel : ℕ) → Searches size fuel → (ks : List Kind) → length ks ≡ size → (typed : Bool) → (a : ℕ)
    → weight size a + 1 ≤ suc fuel
    → Search Specifying (λ t e. HoldSpecifying ks typed t a e) (λ t e. Within size a e)
specifying size fuel searches ks long typed a left Goal found =
    first (specifying_word_decided size fuel searches ks long typed a left Goal found) (λ z. ((Word_of z.0), z.2.1.0, (z.1, z.2.0, z.2.1.1), z.2.1.2)) (λ n0.
    first (specifying_typedef_decided size fuel searches ks long typed a left Goal found) (λ z. ((Typedef_of z.0), z.2.1.1.0, (z.1, z.2.0, z.2.1.0, z.2.1.1.1), z.2.1.1.2)) (λ n1.
    first (specifying_tag_decided size fuel searches ks long typed a left Goal found) (λ z. ((Tag_of z.0 z.2.1.0), z.2.1.2.1.0, (z.1, z.2.0, z.2.1.1, z.2.1.2.0, z.2.1.2.1.1, z.2.1.2.1.2.0), z.2.1.2.1.2.1)) (λ n2.
    first (specifying_atomic_decided size fuel searches ks long typed a left Goal found) (λ z. ((Atomic_of z.0 z.2.1.0 z.2.1.2.1.0 z.2.1.2.1.1), z.2.1.2.1.3.1.0, (z.1, z.2.0, z.2.1.1, z.2.1.2.0, z.2.1.2.1.2, z.2.1.2.1.3.0, z.2.1.2.1.3.1.1), z.2.1.2.1.3.1.2)) (λ n3.
    first (specifying_aligned_as_decided size fuel searches ks long typed a left Goal found) (λ z. ((Aligned_as_of z.0 z.2.1.0 z.2.1.2.1.0 z.2.1.2.1.1), z.2.1.2.1.3.1.0, (z.1, z.2.0, z.2.1.1, z.2.1.2.0, z.2.1.2.1.2, z.2.1.2.1.3.0, z.2.1.2.1.3.1.1), z.2.1.2.1.3.1.2)) (λ n4.
    first (specifying_aligned_decided size fuel searches ks long typed a left Goal found) (λ z. ((Aligned_of z.0 z.2.1.0 z.2.1.2.1.0 z.2.1.2.1.1), z.2.1.2.1.3.1.0, (z.1, z.2.0, z.2.1.1, z.2.1.2.0, z.2.1.2.1.2.0, z.2.1.2.1.2.1, z.2.1.2.1.3.0, z.2.1.2.1.3.1.1), z.2.1.2.1.3.1.2)) (λ n5.
    first (specifying_members_decided size fuel searches ks long typed a left Goal found) (λ z. ((Members_of z.0 z.2.1.0 z.2.1.1 z.2.1.3.1.0 z.2.1.3.1.1), z.2.1.3.1.3.1.1.0, (z.1, z.2.0, z.2.1.2, z.2.1.3.0, z.2.1.3.1.3.0, z.2.1.3.1.2, z.2.1.3.1.3.1.0, z.2.1.3.1.3.1.1.1), z.2.1.3.1.3.1.1.2)) (λ n6.
    first (specifying_enumerators_decided size fuel searches ks long typed a left Goal found) (λ z. ((Enumerators_of z.0 z.2.1.0 z.2.1.1 z.2.1.3.1.0 z.2.1.3.1.3.0 z.2.1.3.1.3.3.0 z.2.1.3.1.3.3.1), z.2.1.3.1.3.3.3.1.0, (z.2.1.3.1.1, z.2.1.3.1.3.1, z.1, z.2.0, z.2.1.2, z.2.1.3.0, z.2.1.3.1.2, z.2.1.3.1.3.2, z.2.1.3.1.3.3.2, z.2.1.3.1.3.3.3.0, z.2.1.3.1.3.3.3.1.1), z.2.1.3.1.3.3.3.1.2)) (λ n7.
    no (λ z. no_specifying ks typed a Goal n0 n1 n2 n3 n4 n5 n6 n7 z.0 z.1 z.2 z.3)))))))))

abbrev Specifyings_no_specifiers_plan : List Kind → Bool → ℕ → (Specifyings → ℕ → Type 0) → Type 0
Specifyings_no_specifiers_plan ks typed a Goal =
    (b : ℕ) × (b ≡ a)
    × (Goal No_specifiers b)

specifyings_no_specifiers_decided : (size fuel : ℕ) → Searches size fuel → (ks : List Kind) → length ks ≡ size → (typed : Bool) → (a : ℕ)
    → weight size a + 2 ≤ suc fuel
    → (Goal : Specifyings → ℕ → Type 0)
    → ((t : Specifyings) → (e : ℕ) → HoldSpecifyings ks typed t a e → AheadSome size t a e → Dec (Goal t e))
    → Dec (Specifyings_no_specifiers_plan ks typed a Goal)
specifyings_no_specifiers_decided size fuel searches ks long typed a left Goal found =
    at_place a (
    found No_specifiers a refl (omega arith, λ z. absurd z))

abbrev Specifyings_specifier_then_plan : List Kind → Bool → ℕ → (Specifyings → ℕ → Type 0) → Type 0
Specifyings_specifier_then_plan ks typed a Goal =
    (s : Specifying) × (m : ℕ) × HoldSpecifying ks typed s a m
    × ((ss : Specifyings) × (b : ℕ) × HoldSpecifyings ks (has_type ks s || typed) ss m b
    × (Goal (Specifier_then s ss) b))

specifyings_specifier_then_decided : (size fuel : ℕ) → Searches size fuel → (ks : List Kind) → length ks ≡ size → (typed : Bool) → (a : ℕ)
    → weight size a + 2 ≤ suc fuel
    → (Goal : Specifyings → ℕ → Type 0)
    → ((t : Specifyings) → (e : ℕ) → HoldSpecifyings ks typed t a e → AheadSome size t a e → Dec (Goal t e))
    → Dec (Specifyings_specifier_then_plan ks typed a Goal)
specifyings_specifier_then_decided size fuel searches ks long typed a left Goal found =
    searches.specifying ks long typed a (stays size fuel a a 2 1 (omega arith) (omega arith) left) _ (λ s m x0 w0.
    searches.specifyings ks long (has_type ks s || typed) m (next size fuel a m 2 2 w0.inside (omega (arith, w0.forth)) (omega arith) left) _ (λ ss b x1 w1.
    found (Specifier_then s ss) b (m, x0, x1) (omega (arith, w0.forth, w1.0), λ z. record { forth = omega (arith, w0.forth, w1.0); inside = w0.inside })))

no_specifyings : (ks : List Kind) → (typed : Bool) → (a : ℕ) → (Goal : Specifyings → ℕ → Type 0)
    → (Specifyings_no_specifiers_plan ks typed a Goal → ⊥)
    → (Specifyings_specifier_then_plan ks typed a Goal → ⊥)
    → (t : Specifyings) → (e : ℕ) → HoldSpecifyings ks typed t a e → Goal t e → ⊥
no_specifyings ks typed a Goal n0 n1 No_specifiers b h p0 = n0 (b, h, p0)
no_specifyings ks typed a Goal n0 n1 (Specifier_then s ss) b h p0 = n1 (s, h.0, h.1, (ss, b, h.2, p0))

pub specifyings : (size fuel : ℕ) → Searches size fuel → (ks : List Kind) → length ks ≡ size → (typed : Bool) → (a : ℕ)
    → weight size a + 2 ≤ suc fuel
    → Search Specifyings (λ t e. HoldSpecifyings ks typed t a e) (λ t e. AheadSome size t a e)
specifyings size fuel searches ks long typed a left Goal found =
    first (specifyings_no_specifiers_decided size fuel searches ks long typed a left Goal found) (λ z. (No_specifiers, z.0, z.1, z.2)) (λ n0.
    first (specifyings_specifier_then_decided size fuel searches ks long typed a left Goal found) (λ z. ((Specifier_then z.0 z.3.0), z.3.1, (z.1, z.2, z.3.2), z.3.3)) (λ n1.
    no (λ z. no_specifyings ks typed a Goal n0 n1 z.0 z.1 z.2 z.3)))

abbrev Enumerator_counted_plan : List Kind → ℕ → (Enumerator → ℕ → Type 0) → Type 0
Enumerator_counted_plan ks a Goal =
    (n : ℕ) × (n ≡ a)
    × ((is_word (kind_at ks a) ≡ true)
    × ((b : ℕ) × (b ≡ a + 1)
    × (Goal (Counted_of n) b)))

enumerator_counted_decided : (size fuel : ℕ) → Searches size fuel → (ks : List Kind) → length ks ≡ size → (a : ℕ)
    → weight size a + 1 ≤ suc fuel
    → (Goal : Enumerator → ℕ → Type 0)
    → ((t : Enumerator) → (e : ℕ) → HoldsEnumerator ks t a e → Within size a e → Dec (Goal t e))
    → Dec (Enumerator_counted_plan ks a Goal)
enumerator_counted_decided size fuel searches ks long a left Goal found =
    at_place a (
    and_then (dec_bool (is_word (kind_at ks a)) true) (λ x1.
    at_place (a + 1) (
    found (Counted_of a) (a + 1) (refl, x1, refl) (record { forth = omega arith; inside = (inside_test ks size a long is_word refl x1) }))))

abbrev Enumerator_given_plan : List Kind → ℕ → (Enumerator → ℕ → Type 0) → Type 0
Enumerator_given_plan ks a Goal =
    (n : ℕ) × (n ≡ a)
    × ((is_word (kind_at ks a) ≡ true)
    × ((q : ℕ) × (q ≡ a + 1)
    × ((is_equals (kind_at ks q) ≡ true)
    × ((t : Tree) × (b : ℕ) × Reads ks 3 t (q + 1) b
    × (Goal (Given_of n q t) b)))))

enumerator_given_decided : (size fuel : ℕ) → Searches size fuel → (ks : List Kind) → length ks ≡ size → (a : ℕ)
    → weight size a + 1 ≤ suc fuel
    → (Goal : Enumerator → ℕ → Type 0)
    → ((t : Enumerator) → (e : ℕ) → HoldsEnumerator ks t a e → Within size a e → Dec (Goal t e))
    → Dec (Enumerator_given_plan ks a Goal)
enumerator_given_decided size fuel searches ks long a left Goal found =
    at_place a (
    and_then (dec_bool (is_word (kind_at ks a)) true) (λ x1.
    at_place (a + 1) (
    and_then (dec_bool (is_equals (kind_at ks (a + 1))) true) (λ x3.
    searches.tree ks long 3 ((a + 1) + 1) (next size fuel a ((a + 1) + 1) 1 (tree_rank 3) (inside_test ks size a long is_word refl x1) (omega arith) (omega arith) left) _ (λ t b x4 w4.
    found (Given_of a (a + 1) t) b (refl, x1, refl, x3, x4.0, x4.1) (record { forth = omega (arith, w4.forth); inside = (inside_test ks size a long is_word refl x1) }))))))

no_enumerator : (ks : List Kind) → (a : ℕ) → (Goal : Enumerator → ℕ → Type 0)
    → (Enumerator_counted_plan ks a Goal → ⊥)
    → (Enumerator_given_plan ks a Goal → ⊥)
    → (t : Enumerator) → (e : ℕ) → HoldsEnumerator ks t a e → Goal t e → ⊥
no_enumerator ks a Goal n0 n1 (Counted_of n) b h p0 = n0 (n, h.0, (h.1, (b, h.2, p0)))
no_enumerator ks a Goal n0 n1 (Given_of n q t) b h p0 = n1 (n, h.0, (h.1, (q, h.2, (h.3, (t, b, (h.4, h.5), p0)))))

pub enumerator : (size fuel : ℕ) → Searches size fuel → (ks : List Kind) → length ks ≡ size → (a : ℕ)
    → weight size a + 1 ≤ suc fuel
    → Search Enumerator (λ t e. HoldsEnumerator ks t a e) (λ t e. Within size a e)
enumerator size fuel searches ks long a left Goal found =
    first (enumerator_counted_decided size fuel searches ks long a left Goal found) (λ z. ((Counted_of z.0), z.2.1.0, (z.1, z.2.0, z.2.1.1), z.2.1.2)) (λ n0.
    first (enumerator_given_decided size fuel searches ks long a left Goal found) (λ z. ((Given_of z.0 z.2.1.0 z.2.1.2.1.0), z.2.1.2.1.1, (z.1, z.2.0, z.2.1.1, z.2.1.2.0, z.2.1.2.1.2.0, z.2.1.2.1.2.1), z.2.1.2.1.3)) (λ n1.
    no (λ z. no_enumerator ks a Goal n0 n1 z.0 z.1 z.2 z.3)))

abbrev Enumerators_no_enumerators_plan : List Kind → ℕ → (Enumerators → ℕ → Type 0) → Type 0
Enumerators_no_enumerators_plan ks a Goal =
    (b : ℕ) × (b ≡ a)
    × (Goal No_enumerators b)

enumerators_no_enumerators_decided : (size fuel : ℕ) → Searches size fuel → (ks : List Kind) → length ks ≡ size → (a : ℕ)
    → weight size a + 1 ≤ suc fuel
    → (Goal : Enumerators → ℕ → Type 0)
    → ((t : Enumerators) → (e : ℕ) → HoldEnumerators ks t a e → a ≤ e → Dec (Goal t e))
    → Dec (Enumerators_no_enumerators_plan ks a Goal)
enumerators_no_enumerators_decided size fuel searches ks long a left Goal found =
    at_place a (
    found No_enumerators a refl (omega arith))

abbrev Enumerators_enumerator_then_plan : List Kind → ℕ → (Enumerators → ℕ → Type 0) → Type 0
Enumerators_enumerator_then_plan ks a Goal =
    (o : ℕ) × (o ≡ a)
    × ((kind_at ks a ≡ Comma)
    × ((e : Enumerator) × (m : ℕ) × HoldsEnumerator ks e (a + 1) m
    × ((es : Enumerators) × (b : ℕ) × HoldEnumerators ks es m b
    × (Goal (Enumerator_then o e es) b))))

enumerators_enumerator_then_decided : (size fuel : ℕ) → Searches size fuel → (ks : List Kind) → length ks ≡ size → (a : ℕ)
    → weight size a + 1 ≤ suc fuel
    → (Goal : Enumerators → ℕ → Type 0)
    → ((t : Enumerators) → (e : ℕ) → HoldEnumerators ks t a e → a ≤ e → Dec (Goal t e))
    → Dec (Enumerators_enumerator_then_plan ks a Goal)
enumerators_enumerator_then_decided size fuel searches ks long a left Goal found =
    at_place a (
    and_then (dec_kind (kind_at ks a) Comma refl) (λ x1.
    searches.enumerator ks long (a + 1) (next size fuel a (a + 1) 1 1 (inside_kind ks size a long Comma refl x1) (omega arith) (omega arith) left) _ (λ e m x2 w2.
    searches.enumerators ks long m (next size fuel a m 1 1 (inside_kind ks size a long Comma refl x1) (omega (arith, w2.forth)) (omega arith) left) _ (λ es b x3 w3.
    found (Enumerator_then a e es) b (m, refl, x1, x2, x3) (omega (arith, w2.forth, w3))))))

no_enumerators : (ks : List Kind) → (a : ℕ) → (Goal : Enumerators → ℕ → Type 0)
    → (Enumerators_no_enumerators_plan ks a Goal → ⊥)
    → (Enumerators_enumerator_then_plan ks a Goal → ⊥)
    → (t : Enumerators) → (e : ℕ) → HoldEnumerators ks t a e → Goal t e → ⊥
no_enumerators ks a Goal n0 n1 No_enumerators b h p0 = n0 (b, h, p0)
no_enumerators ks a Goal n0 n1 (Enumerator_then o e es) b h p0 = n1 (o, h.1, (h.2, (e, h.0, h.3, (es, b, h.4, p0))))

pub enumerators : (size fuel : ℕ) → Searches size fuel → (ks : List Kind) → length ks ≡ size → (a : ℕ)
    → weight size a + 1 ≤ suc fuel
    → Search Enumerators (λ t e. HoldEnumerators ks t a e) (λ t e. a ≤ e)
enumerators size fuel searches ks long a left Goal found =
    first (enumerators_no_enumerators_decided size fuel searches ks long a left Goal found) (λ z. (No_enumerators, z.0, z.1, z.2)) (λ n0.
    first (enumerators_enumerator_then_decided size fuel searches ks long a left Goal found) (λ z. ((Enumerator_then z.0 z.2.1.0 z.2.1.3.0), z.2.1.3.1, (z.2.1.1, z.1, z.2.0, z.2.1.2, z.2.1.3.2), z.2.1.3.3)) (λ n1.
    no (λ z. no_enumerators ks a Goal n0 n1 z.0 z.1 z.2 z.3)))
