-- What stands behind and in front of operands (ISO C11 6.5).
use Rattle.std.proofs.Common.{◌≡◌, refl, ℕ, suc, ◌+◌, ◌≤◌, arith, List, length, true, false}
use Rattle.tree_data.specs.Trees.{Tree, Behind, Operand_of, Index_of, Call_of, Call_with_of, Member_of, Step_of, Behinds, None_behind, Behind_then, Front, Operator_of, Cast_of, Choice_of, Left_of, Fronts, None_before, Front_then, Naming}
use Rattle.c_parser.specs.declared.kinds.Kind.{Kind}
use Rattle.c_parser.specs.declared.kinds.Kind.TheVariants.{CloseBracket, CloseParen, Colon, OpenBrace, OpenBracket, OpenParen, Question, Step}
use Rattle.c_parser.specs.Kinds.{kind_at, level_at, is_prefix, casts_at, is_word, is_member}
use Rattle.c_parser.specs.Levels.{IsBinary}
use Rattle.c_parser.specs.Reading.{HoldsBehind, HoldBehinds, HoldsFront, HoldFronts, HoldsNaming, Reads}
use Rattle.item_readings.specs.Search.Deciding.{and_then, at_place, first, dec_not, dec_bool, dec_number, dec_kind, dec_binary}
use Rattle.item_readings.specs.Search.Searches.{Search, Within, weight, tree_rank, front_rank, fronts_rank, Searches, next, stays, inside_kind, inside_test, inside_level}

abbrev Behind_operand_plan : List Kind → ℕ → ℕ → (Behind → ℕ → Type 0) → Type 0
Behind_operand_plan ks l a Goal =
    (IsBinary l)
    × ((o : ℕ) × (o ≡ a)
    × ((level_at ks a ≡ l)
    × ((t : Tree) × (b : ℕ) × Reads ks (l + 1) t (a + 1) b
    × (Goal (Operand_of o t) b))))

behind_operand_decided : (size fuel : ℕ) → Searches size fuel → (ks : List Kind) → length ks ≡ size → (l : ℕ) → (a : ℕ)
    → weight size a + 1 ≤ suc fuel
    → (Goal : Behind → ℕ → Type 0)
    → ((t : Behind) → (e : ℕ) → HoldsBehind ks l t a e → Within size a e → Dec (Goal t e))
    → Dec (Behind_operand_plan ks l a Goal)
behind_operand_decided size fuel searches ks long l a left Goal found =
    and_then (dec_binary l) (λ x0.
    at_place a (
    and_then (dec_number (level_at ks a) l) (λ x2.
    searches.tree ks long (l + 1) (a + 1) (next size fuel a (a + 1) 1 (tree_rank (l + 1)) (inside_level ks size a long l x0.0 x2) (omega arith) (omega arith) left) _ (λ t b x3 w3.
    found (Operand_of a t) b (x0, refl, x2, x3.0, x3.1) (record { forth = omega (arith, w3.forth); inside = (inside_level ks size a long l x0.0 x2) })))))

abbrev Behind_index_plan : List Kind → ℕ → ℕ → (Behind → ℕ → Type 0) → Type 0
Behind_index_plan ks l a Goal =
    (l ≡ 16)
    × ((o : ℕ) × (o ≡ a)
    × ((kind_at ks a ≡ OpenBracket)
    × ((t : Tree) × (c : ℕ) × Reads ks 1 t (a + 1) c
    × ((kind_at ks c ≡ CloseBracket)
    × ((b : ℕ) × (b ≡ c + 1)
    × (Goal (Index_of o t c) b))))))

behind_index_decided : (size fuel : ℕ) → Searches size fuel → (ks : List Kind) → length ks ≡ size → (l : ℕ) → (a : ℕ)
    → weight size a + 1 ≤ suc fuel
    → (Goal : Behind → ℕ → Type 0)
    → ((t : Behind) → (e : ℕ) → HoldsBehind ks l t a e → Within size a e → Dec (Goal t e))
    → Dec (Behind_index_plan ks l a Goal)
behind_index_decided size fuel searches ks long l a left Goal found =
    and_then (dec_number l 16) (λ x0.
    at_place a (
    and_then (dec_kind (kind_at ks a) OpenBracket refl) (λ x2.
    searches.tree ks long 1 (a + 1) (next size fuel a (a + 1) 1 (tree_rank 1) (inside_kind ks size a long OpenBracket refl x2) (omega arith) (omega arith) left) _ (λ t c x3 w3.
    and_then (dec_kind (kind_at ks c) CloseBracket refl) (λ x4.
    at_place (c + 1) (
    found (Index_of a t c) (c + 1) (x0, refl, x2, x3.0, x3.1, x4, refl) (record { forth = omega (arith, w3.forth); inside = (inside_kind ks size a long OpenBracket refl x2) })))))))

abbrev Behind_call_plan : List Kind → ℕ → ℕ → (Behind → ℕ → Type 0) → Type 0
Behind_call_plan ks l a Goal =
    (l ≡ 16)
    × ((o : ℕ) × (o ≡ a)
    × ((kind_at ks a ≡ OpenParen)
    × ((c : ℕ) × (c ≡ a + 1)
    × ((kind_at ks c ≡ CloseParen)
    × ((b : ℕ) × (b ≡ c + 1)
    × (Goal (Call_of o c) b))))))

behind_call_decided : (size fuel : ℕ) → Searches size fuel → (ks : List Kind) → length ks ≡ size → (l : ℕ) → (a : ℕ)
    → weight size a + 1 ≤ suc fuel
    → (Goal : Behind → ℕ → Type 0)
    → ((t : Behind) → (e : ℕ) → HoldsBehind ks l t a e → Within size a e → Dec (Goal t e))
    → Dec (Behind_call_plan ks l a Goal)
behind_call_decided size fuel searches ks long l a left Goal found =
    and_then (dec_number l 16) (λ x0.
    at_place a (
    and_then (dec_kind (kind_at ks a) OpenParen refl) (λ x2.
    at_place (a + 1) (
    and_then (dec_kind (kind_at ks (a + 1)) CloseParen refl) (λ x4.
    at_place ((a + 1) + 1) (
    found (Call_of a (a + 1)) ((a + 1) + 1) (x0, refl, x2, refl, x4, refl) (record { forth = omega arith; inside = (inside_kind ks size a long OpenParen refl x2) })))))))

abbrev Behind_call_with_plan : List Kind → ℕ → ℕ → (Behind → ℕ → Type 0) → Type 0
Behind_call_with_plan ks l a Goal =
    (l ≡ 16)
    × ((o : ℕ) × (o ≡ a)
    × ((kind_at ks a ≡ OpenParen)
    × ((t : Tree) × (m : ℕ) × Reads ks 2 t (a + 1) m
    × ((bs : Behinds) × (c : ℕ) × HoldBehinds ks 1 bs m c
    × ((kind_at ks c ≡ CloseParen)
    × ((b : ℕ) × (b ≡ c + 1)
    × (Goal (Call_with_of o t bs c) b)))))))

behind_call_with_decided : (size fuel : ℕ) → Searches size fuel → (ks : List Kind) → length ks ≡ size → (l : ℕ) → (a : ℕ)
    → weight size a + 1 ≤ suc fuel
    → (Goal : Behind → ℕ → Type 0)
    → ((t : Behind) → (e : ℕ) → HoldsBehind ks l t a e → Within size a e → Dec (Goal t e))
    → Dec (Behind_call_with_plan ks l a Goal)
behind_call_with_decided size fuel searches ks long l a left Goal found =
    and_then (dec_number l 16) (λ x0.
    at_place a (
    and_then (dec_kind (kind_at ks a) OpenParen refl) (λ x2.
    searches.tree ks long 2 (a + 1) (next size fuel a (a + 1) 1 (tree_rank 2) (inside_kind ks size a long OpenParen refl x2) (omega arith) (omega arith) left) _ (λ t m x3 w3.
    searches.behinds ks long 1 m (next size fuel a m 1 2 (inside_kind ks size a long OpenParen refl x2) (omega (arith, w3.forth)) (omega arith) left) _ (λ bs c x4 w4.
    and_then (dec_kind (kind_at ks c) CloseParen refl) (λ x5.
    at_place (c + 1) (
    found (Call_with_of a t bs c) (c + 1) (m, x0, refl, x2, x3.0, x3.1, x4, x5, refl) (record { forth = omega (arith, w3.forth, w4); inside = (inside_kind ks size a long OpenParen refl x2) }))))))))

abbrev Behind_member_plan : List Kind → ℕ → ℕ → (Behind → ℕ → Type 0) → Type 0
Behind_member_plan ks l a Goal =
    (l ≡ 16)
    × ((o : ℕ) × (o ≡ a)
    × ((is_member (kind_at ks a) ≡ true)
    × ((n : ℕ) × (n ≡ a + 1)
    × ((is_word (kind_at ks n) ≡ true)
    × ((b : ℕ) × (b ≡ n + 1)
    × (Goal (Member_of o n) b))))))

behind_member_decided : (size fuel : ℕ) → Searches size fuel → (ks : List Kind) → length ks ≡ size → (l : ℕ) → (a : ℕ)
    → weight size a + 1 ≤ suc fuel
    → (Goal : Behind → ℕ → Type 0)
    → ((t : Behind) → (e : ℕ) → HoldsBehind ks l t a e → Within size a e → Dec (Goal t e))
    → Dec (Behind_member_plan ks l a Goal)
behind_member_decided size fuel searches ks long l a left Goal found =
    and_then (dec_number l 16) (λ x0.
    at_place a (
    and_then (dec_bool (is_member (kind_at ks a)) true) (λ x2.
    at_place (a + 1) (
    and_then (dec_bool (is_word (kind_at ks (a + 1))) true) (λ x4.
    at_place ((a + 1) + 1) (
    found (Member_of a (a + 1)) ((a + 1) + 1) (x0, refl, x2, refl, x4, refl) (record { forth = omega arith; inside = (inside_test ks size a long is_member refl x2) })))))))

abbrev Behind_step_plan : List Kind → ℕ → ℕ → (Behind → ℕ → Type 0) → Type 0
Behind_step_plan ks l a Goal =
    (l ≡ 16)
    × ((o : ℕ) × (o ≡ a)
    × ((kind_at ks a ≡ Step)
    × ((b : ℕ) × (b ≡ a + 1)
    × (Goal (Step_of o) b))))

behind_step_decided : (size fuel : ℕ) → Searches size fuel → (ks : List Kind) → length ks ≡ size → (l : ℕ) → (a : ℕ)
    → weight size a + 1 ≤ suc fuel
    → (Goal : Behind → ℕ → Type 0)
    → ((t : Behind) → (e : ℕ) → HoldsBehind ks l t a e → Within size a e → Dec (Goal t e))
    → Dec (Behind_step_plan ks l a Goal)
behind_step_decided size fuel searches ks long l a left Goal found =
    and_then (dec_number l 16) (λ x0.
    at_place a (
    and_then (dec_kind (kind_at ks a) Step refl) (λ x2.
    at_place (a + 1) (
    found (Step_of a) (a + 1) (x0, refl, x2, refl) (record { forth = omega arith; inside = (inside_kind ks size a long Step refl x2) })))))

no_behind : (ks : List Kind) → (l : ℕ) → (a : ℕ) → (Goal : Behind → ℕ → Type 0)
    → (Behind_operand_plan ks l a Goal → ⊥)
    → (Behind_index_plan ks l a Goal → ⊥)
    → (Behind_call_plan ks l a Goal → ⊥)
    → (Behind_call_with_plan ks l a Goal → ⊥)
    → (Behind_member_plan ks l a Goal → ⊥)
    → (Behind_step_plan ks l a Goal → ⊥)
    → (t : Behind) → (e : ℕ) → HoldsBehind ks l t a e → Goal t e → ⊥
no_behind ks l a Goal n0 n1 n2 n3 n4 n5 (Operand_of o t) b h p0 = n0 (h.0, (o, h.1, (h.2, (t, b, (h.3, h.4), p0))))
no_behind ks l a Goal n0 n1 n2 n3 n4 n5 (Index_of o t c) b h p0 = n1 (h.0, (o, h.1, (h.2, (t, c, (h.3, h.4), (h.5, (b, h.6, p0))))))
no_behind ks l a Goal n0 n1 n2 n3 n4 n5 (Call_of o c) b h p0 = n2 (h.0, (o, h.1, (h.2, (c, h.3, (h.4, (b, h.5, p0))))))
no_behind ks l a Goal n0 n1 n2 n3 n4 n5 (Call_with_of o t bs c) b h p0 = n3 (h.1, (o, h.2, (h.3, (t, h.0, (h.4, h.5), (bs, c, h.6, (h.7, (b, h.8, p0)))))))
no_behind ks l a Goal n0 n1 n2 n3 n4 n5 (Member_of o n) b h p0 = n4 (h.0, (o, h.1, (h.2, (n, h.3, (h.4, (b, h.5, p0))))))
no_behind ks l a Goal n0 n1 n2 n3 n4 n5 (Step_of o) b h p0 = n5 (h.0, (o, h.1, (h.2, (b, h.3, p0))))

pub behind : (size fuel : ℕ) → Searches size fuel → (ks : List Kind) → length ks ≡ size → (l : ℕ) → (a : ℕ)
    → weight size a + 1 ≤ suc fuel
    → Search Behind (λ t e. HoldsBehind ks l t a e) (λ t e. Within size a e)
behind size fuel searches ks long l a left Goal found =
    first (behind_operand_decided size fuel searches ks long l a left Goal found) (λ z. ((Operand_of z.1.0 z.1.2.1.0), z.1.2.1.1, (z.0, z.1.1, z.1.2.0, z.1.2.1.2.0, z.1.2.1.2.1), z.1.2.1.3)) (λ n0.
    first (behind_index_decided size fuel searches ks long l a left Goal found) (λ z. ((Index_of z.1.0 z.1.2.1.0 z.1.2.1.1), z.1.2.1.3.1.0, (z.0, z.1.1, z.1.2.0, z.1.2.1.2.0, z.1.2.1.2.1, z.1.2.1.3.0, z.1.2.1.3.1.1), z.1.2.1.3.1.2)) (λ n1.
    first (behind_call_decided size fuel searches ks long l a left Goal found) (λ z. ((Call_of z.1.0 z.1.2.1.0), z.1.2.1.2.1.0, (z.0, z.1.1, z.1.2.0, z.1.2.1.1, z.1.2.1.2.0, z.1.2.1.2.1.1), z.1.2.1.2.1.2)) (λ n2.
    first (behind_call_with_decided size fuel searches ks long l a left Goal found) (λ z. ((Call_with_of z.1.0 z.1.2.1.0 z.1.2.1.3.0 z.1.2.1.3.1), z.1.2.1.3.3.1.0, (z.1.2.1.1, z.0, z.1.1, z.1.2.0, z.1.2.1.2.0, z.1.2.1.2.1, z.1.2.1.3.2, z.1.2.1.3.3.0, z.1.2.1.3.3.1.1), z.1.2.1.3.3.1.2)) (λ n3.
    first (behind_member_decided size fuel searches ks long l a left Goal found) (λ z. ((Member_of z.1.0 z.1.2.1.0), z.1.2.1.2.1.0, (z.0, z.1.1, z.1.2.0, z.1.2.1.1, z.1.2.1.2.0, z.1.2.1.2.1.1), z.1.2.1.2.1.2)) (λ n4.
    first (behind_step_decided size fuel searches ks long l a left Goal found) (λ z. ((Step_of z.1.0), z.1.2.1.0, (z.0, z.1.1, z.1.2.0, z.1.2.1.1), z.1.2.1.2)) (λ n5.
    no (λ z. no_behind ks l a Goal n0 n1 n2 n3 n4 n5 z.0 z.1 z.2 z.3)))))))

abbrev Behinds_none_behind_plan : List Kind → ℕ → ℕ → (Behinds → ℕ → Type 0) → Type 0
Behinds_none_behind_plan ks l a Goal =
    (b : ℕ) × (b ≡ a)
    × (Goal None_behind b)

behinds_none_behind_decided : (size fuel : ℕ) → Searches size fuel → (ks : List Kind) → length ks ≡ size → (l : ℕ) → (a : ℕ)
    → weight size a + 2 ≤ suc fuel
    → (Goal : Behinds → ℕ → Type 0)
    → ((t : Behinds) → (e : ℕ) → HoldBehinds ks l t a e → a ≤ e → Dec (Goal t e))
    → Dec (Behinds_none_behind_plan ks l a Goal)
behinds_none_behind_decided size fuel searches ks long l a left Goal found =
    at_place a (
    found None_behind a refl (omega arith))

abbrev Behinds_behind_then_plan : List Kind → ℕ → ℕ → (Behinds → ℕ → Type 0) → Type 0
Behinds_behind_then_plan ks l a Goal =
    (x : Behind) × (m : ℕ) × HoldsBehind ks l x a m
    × ((xs : Behinds) × (b : ℕ) × HoldBehinds ks l xs m b
    × (Goal (Behind_then x xs) b))

behinds_behind_then_decided : (size fuel : ℕ) → Searches size fuel → (ks : List Kind) → length ks ≡ size → (l : ℕ) → (a : ℕ)
    → weight size a + 2 ≤ suc fuel
    → (Goal : Behinds → ℕ → Type 0)
    → ((t : Behinds) → (e : ℕ) → HoldBehinds ks l t a e → a ≤ e → Dec (Goal t e))
    → Dec (Behinds_behind_then_plan ks l a Goal)
behinds_behind_then_decided size fuel searches ks long l a left Goal found =
    searches.behind ks long l a (stays size fuel a a 2 1 (omega arith) (omega arith) left) _ (λ x m x0 w0.
    searches.behinds ks long l m (next size fuel a m 2 2 w0.inside (omega (arith, w0.forth)) (omega arith) left) _ (λ xs b x1 w1.
    found (Behind_then x xs) b (m, x0, x1) (omega (arith, w0.forth, w1))))

no_behinds : (ks : List Kind) → (l : ℕ) → (a : ℕ) → (Goal : Behinds → ℕ → Type 0)
    → (Behinds_none_behind_plan ks l a Goal → ⊥)
    → (Behinds_behind_then_plan ks l a Goal → ⊥)
    → (t : Behinds) → (e : ℕ) → HoldBehinds ks l t a e → Goal t e → ⊥
no_behinds ks l a Goal n0 n1 None_behind b h p0 = n0 (b, h, p0)
no_behinds ks l a Goal n0 n1 (Behind_then x xs) b h p0 = n1 (x, h.0, h.1, (xs, b, h.2, p0))

pub behinds : (size fuel : ℕ) → Searches size fuel → (ks : List Kind) → length ks ≡ size → (l : ℕ) → (a : ℕ)
    → weight size a + 2 ≤ suc fuel
    → Search Behinds (λ t e. HoldBehinds ks l t a e) (λ t e. a ≤ e)
behinds size fuel searches ks long l a left Goal found =
    first (behinds_none_behind_decided size fuel searches ks long l a left Goal found) (λ z. (None_behind, z.0, z.1, z.2)) (λ n0.
    first (behinds_behind_then_decided size fuel searches ks long l a left Goal found) (λ z. ((Behind_then z.0 z.3.0), z.3.1, (z.1, z.2, z.3.2), z.3.3)) (λ n1.
    no (λ z. no_behinds ks l a Goal n0 n1 z.0 z.1 z.2 z.3)))

abbrev Front_operator_plan : List Kind → ℕ → ℕ → (Front → ℕ → Type 0) → Type 0
Front_operator_plan ks l a Goal =
    (l ≡ 15)
    × ((o : ℕ) × (o ≡ a)
    × ((is_prefix (kind_at ks a) ≡ true)
    × ((b : ℕ) × (b ≡ a + 1)
    × (Goal (Operator_of o) b))))

front_operator_decided : (size fuel : ℕ) → Searches size fuel → (ks : List Kind) → length ks ≡ size → (l : ℕ) → (a : ℕ)
    → weight size a + front_rank l ≤ suc fuel
    → (Goal : Front → ℕ → Type 0)
    → ((t : Front) → (e : ℕ) → HoldsFront ks l t a e → Within size a e → Dec (Goal t e))
    → Dec (Front_operator_plan ks l a Goal)
front_operator_decided size fuel searches ks long l a left Goal found =
    and_then (dec_number l 15) (λ x0.
    at_place a (
    and_then (dec_bool (is_prefix (kind_at ks a)) true) (λ x2.
    at_place (a + 1) (
    found (Operator_of a) (a + 1) (x0, refl, x2, refl) (record { forth = omega arith; inside = (inside_test ks size a long is_prefix refl x2) })))))

abbrev Front_cast_plan : List Kind → ℕ → ℕ → (Front → ℕ → Type 0) → Type 0
Front_cast_plan ks l a Goal =
    (l ≡ 15)
    × ((o : ℕ) × (o ≡ a)
    × ((kind_at ks a ≡ OpenParen)
    × ((casts_at ks a ≡ true)
    × ((t : Naming) × (c : ℕ) × HoldsNaming ks false t (a + 1) c
    × ((kind_at ks c ≡ CloseParen)
    × ((b : ℕ) × (b ≡ c + 1)
    × ((kind_at ks b ≡ OpenBrace → ⊥)
    × (Goal (Cast_of o t c) b))))))))

front_cast_decided : (size fuel : ℕ) → Searches size fuel → (ks : List Kind) → length ks ≡ size → (l : ℕ) → (a : ℕ)
    → weight size a + front_rank l ≤ suc fuel
    → (Goal : Front → ℕ → Type 0)
    → ((t : Front) → (e : ℕ) → HoldsFront ks l t a e → Within size a e → Dec (Goal t e))
    → Dec (Front_cast_plan ks l a Goal)
front_cast_decided size fuel searches ks long l a left Goal found =
    and_then (dec_number l 15) (λ x0.
    at_place a (
    and_then (dec_kind (kind_at ks a) OpenParen refl) (λ x2.
    and_then (dec_bool (casts_at ks a) true) (λ x3.
    searches.naming ks long false (a + 1) (next size fuel a (a + 1) (front_rank l) 11 (inside_kind ks size a long OpenParen refl x2) (omega arith) (omega arith) left) _ (λ t c x4 w4.
    and_then (dec_kind (kind_at ks c) CloseParen refl) (λ x5.
    at_place (c + 1) (
    and_then (dec_not (dec_kind (kind_at ks (c + 1)) OpenBrace refl)) (λ x7.
    found (Cast_of a t c) (c + 1) (x0, refl, x2, x3, x4, x5, refl, x7) (record { forth = omega (arith, w4.forth); inside = (inside_kind ks size a long OpenParen refl x2) })))))))))

abbrev Front_choice_plan : List Kind → ℕ → ℕ → (Front → ℕ → Type 0) → Type 0
Front_choice_plan ks l a Goal =
    (l ≡ 3)
    × ((t : Tree) × (q : ℕ) × Reads ks 4 t a q
    × ((kind_at ks q ≡ Question)
    × ((e : Tree) × (c : ℕ) × Reads ks 1 e (q + 1) c
    × ((kind_at ks c ≡ Colon)
    × ((b : ℕ) × (b ≡ c + 1)
    × (Goal (Choice_of t q e c) b))))))

front_choice_decided : (size fuel : ℕ) → Searches size fuel → (ks : List Kind) → length ks ≡ size → (l : ℕ) → (a : ℕ)
    → weight size a + front_rank l ≤ suc fuel
    → (Goal : Front → ℕ → Type 0)
    → ((t : Front) → (e : ℕ) → HoldsFront ks l t a e → Within size a e → Dec (Goal t e))
    → Dec (Front_choice_plan ks l a Goal)
front_choice_decided size fuel searches ks long l a left Goal found =
    and_then (dec_number l 3) (λ x0.
    searches.tree ks long 4 a (stays size fuel a a (front_rank l) (tree_rank 4) (omega arith) (omega (arith, x0)) left) _ (λ t q x1 w1.
    and_then (dec_kind (kind_at ks q) Question refl) (λ x2.
    searches.tree ks long 1 (q + 1) (next size fuel a (q + 1) (front_rank l) (tree_rank 1) w1.inside (omega (arith, w1.forth)) (omega arith) left) _ (λ e c x3 w3.
    and_then (dec_kind (kind_at ks c) Colon refl) (λ x4.
    at_place (c + 1) (
    found (Choice_of t q e c) (c + 1) (x0, x1.0, x1.1, x2, x3.0, x3.1, x4, refl) (record { forth = omega (arith, w1.forth, w3.forth); inside = w1.inside })))))))

abbrev Front_left_plan : List Kind → ℕ → ℕ → (Front → ℕ → Type 0) → Type 0
Front_left_plan ks l a Goal =
    (l ≡ 2)
    × ((t : Tree) × (o : ℕ) × Reads ks 15 t a o
    × ((level_at ks o ≡ 2)
    × ((b : ℕ) × (b ≡ o + 1)
    × (Goal (Left_of t o) b))))

front_left_decided : (size fuel : ℕ) → Searches size fuel → (ks : List Kind) → length ks ≡ size → (l : ℕ) → (a : ℕ)
    → weight size a + front_rank l ≤ suc fuel
    → (Goal : Front → ℕ → Type 0)
    → ((t : Front) → (e : ℕ) → HoldsFront ks l t a e → Within size a e → Dec (Goal t e))
    → Dec (Front_left_plan ks l a Goal)
front_left_decided size fuel searches ks long l a left Goal found =
    and_then (dec_number l 2) (λ x0.
    searches.tree ks long 15 a (stays size fuel a a (front_rank l) (tree_rank 15) (omega arith) (omega (arith, x0)) left) _ (λ t o x1 w1.
    and_then (dec_number (level_at ks o) 2) (λ x2.
    at_place (o + 1) (
    found (Left_of t o) (o + 1) (x0, x1.0, x1.1, x2, refl) (record { forth = omega (arith, w1.forth); inside = w1.inside })))))

no_front : (ks : List Kind) → (l : ℕ) → (a : ℕ) → (Goal : Front → ℕ → Type 0)
    → (Front_operator_plan ks l a Goal → ⊥)
    → (Front_cast_plan ks l a Goal → ⊥)
    → (Front_choice_plan ks l a Goal → ⊥)
    → (Front_left_plan ks l a Goal → ⊥)
    → (t : Front) → (e : ℕ) → HoldsFront ks l t a e → Goal t e → ⊥
no_front ks l a Goal n0 n1 n2 n3 (Operator_of o) b h p0 = n0 (h.0, (o, h.1, (h.2, (b, h.3, p0))))
no_front ks l a Goal n0 n1 n2 n3 (Cast_of o t c) b h p0 = n1 (h.0, (o, h.1, (h.2, (h.3, (t, c, h.4, (h.5, (b, h.6, (h.7, p0))))))))
no_front ks l a Goal n0 n1 n2 n3 (Choice_of t q e c) b h p0 = n2 (h.0, (t, q, (h.1, h.2), (h.3, (e, c, (h.4, h.5), (h.6, (b, h.7, p0))))))
no_front ks l a Goal n0 n1 n2 n3 (Left_of t o) b h p0 = n3 (h.0, (t, o, (h.1, h.2), (h.3, (b, h.4, p0))))

pub front : (size fuel : ℕ) → Searches size fuel → (ks : List Kind) → length ks ≡ size → (l : ℕ) → (a : ℕ)
    → weight size a + front_rank l ≤ suc fuel
    → Search Front (λ t e. HoldsFront ks l t a e) (λ t e. Within size a e)
front size fuel searches ks long l a left Goal found =
    first (front_operator_decided size fuel searches ks long l a left Goal found) (λ z. ((Operator_of z.1.0), z.1.2.1.0, (z.0, z.1.1, z.1.2.0, z.1.2.1.1), z.1.2.1.2)) (λ n0.
    first (front_cast_decided size fuel searches ks long l a left Goal found) (λ z. ((Cast_of z.1.0 z.1.2.1.1.0 z.1.2.1.1.1), z.1.2.1.1.3.1.0, (z.0, z.1.1, z.1.2.0, z.1.2.1.0, z.1.2.1.1.2, z.1.2.1.1.3.0, z.1.2.1.1.3.1.1, z.1.2.1.1.3.1.2.0), z.1.2.1.1.3.1.2.1)) (λ n1.
    first (front_choice_decided size fuel searches ks long l a left Goal found) (λ z. ((Choice_of z.1.0 z.1.1 z.1.3.1.0 z.1.3.1.1), z.1.3.1.3.1.0, (z.0, z.1.2.0, z.1.2.1, z.1.3.0, z.1.3.1.2.0, z.1.3.1.2.1, z.1.3.1.3.0, z.1.3.1.3.1.1), z.1.3.1.3.1.2)) (λ n2.
    first (front_left_decided size fuel searches ks long l a left Goal found) (λ z. ((Left_of z.1.0 z.1.1), z.1.3.1.0, (z.0, z.1.2.0, z.1.2.1, z.1.3.0, z.1.3.1.1), z.1.3.1.2)) (λ n3.
    no (λ z. no_front ks l a Goal n0 n1 n2 n3 z.0 z.1 z.2 z.3)))))

abbrev Fronts_none_before_plan : List Kind → ℕ → ℕ → (Fronts → ℕ → Type 0) → Type 0
Fronts_none_before_plan ks l a Goal =
    (b : ℕ) × (b ≡ a)
    × (Goal None_before b)

fronts_none_before_decided : (size fuel : ℕ) → Searches size fuel → (ks : List Kind) → length ks ≡ size → (l : ℕ) → (a : ℕ)
    → weight size a + fronts_rank l ≤ suc fuel
    → (Goal : Fronts → ℕ → Type 0)
    → ((t : Fronts) → (e : ℕ) → HoldFronts ks l t a e → a ≤ e → Dec (Goal t e))
    → Dec (Fronts_none_before_plan ks l a Goal)
fronts_none_before_decided size fuel searches ks long l a left Goal found =
    at_place a (
    found None_before a refl (omega arith))

abbrev Fronts_front_then_plan : List Kind → ℕ → ℕ → (Fronts → ℕ → Type 0) → Type 0
Fronts_front_then_plan ks l a Goal =
    (x : Front) × (m : ℕ) × HoldsFront ks l x a m
    × ((xs : Fronts) × (b : ℕ) × HoldFronts ks l xs m b
    × (Goal (Front_then x xs) b))

fronts_front_then_decided : (size fuel : ℕ) → Searches size fuel → (ks : List Kind) → length ks ≡ size → (l : ℕ) → (a : ℕ)
    → weight size a + fronts_rank l ≤ suc fuel
    → (Goal : Fronts → ℕ → Type 0)
    → ((t : Fronts) → (e : ℕ) → HoldFronts ks l t a e → a ≤ e → Dec (Goal t e))
    → Dec (Fronts_front_then_plan ks l a Goal)
fronts_front_then_decided size fuel searches ks long l a left Goal found =
    searches.front ks long l a (stays size fuel a a (fronts_rank l) (front_rank l) (omega arith) (omega arith) left) _ (λ x m x0 w0.
    searches.fronts ks long l m (next size fuel a m (fronts_rank l) (fronts_rank l) w0.inside (omega (arith, w0.forth)) (omega arith) left) _ (λ xs b x1 w1.
    found (Front_then x xs) b (m, x0, x1) (omega (arith, w0.forth, w1))))

no_fronts : (ks : List Kind) → (l : ℕ) → (a : ℕ) → (Goal : Fronts → ℕ → Type 0)
    → (Fronts_none_before_plan ks l a Goal → ⊥)
    → (Fronts_front_then_plan ks l a Goal → ⊥)
    → (t : Fronts) → (e : ℕ) → HoldFronts ks l t a e → Goal t e → ⊥
no_fronts ks l a Goal n0 n1 None_before b h p0 = n0 (b, h, p0)
no_fronts ks l a Goal n0 n1 (Front_then x xs) b h p0 = n1 (x, h.0, h.1, (xs, b, h.2, p0))

pub fronts : (size fuel : ℕ) → Searches size fuel → (ks : List Kind) → length ks ≡ size → (l : ℕ) → (a : ℕ)
    → weight size a + fronts_rank l ≤ suc fuel
    → Search Fronts (λ t e. HoldFronts ks l t a e) (λ t e. a ≤ e)
fronts size fuel searches ks long l a left Goal found =
    first (fronts_none_before_decided size fuel searches ks long l a left Goal found) (λ z. (None_before, z.0, z.1, z.2)) (λ n0.
    first (fronts_front_then_decided size fuel searches ks long l a left Goal found) (λ z. ((Front_then z.0 z.3.0), z.3.1, (z.1, z.2, z.3.2), z.3.3)) (λ n1.
    no (λ z. no_fronts ks l a Goal n0 n1 z.0 z.1 z.2 z.3)))
