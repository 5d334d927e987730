-- Expressions.
use Rattle.std.proofs.Common.{◌≡◌, refl, sym, subst, ℕ, suc, ◌+◌, ◌≤◌, arith, List, length, true, false}
use Rattle.std.proofs.Math.Decide.{dec_le}
use Rattle.tree_data.specs.Trees.{Tree, Name_of, Constant_of, Text_of, Paren_of, Postfix_of, Unary_of, Binary_of, Conditional_of, Assign_of, Of_type, Compound_of, Operand_of, Index_of, Call_of, Call_with_of, Member_of, Step_of, Behinds, None_behind, Behind_then, Operator_of, Cast_of, Choice_of, Left_of, Fronts, None_before, Front_then, Braces, Generic_of, Offset_of, Associations, Naming}
use Rattle.c_parser.specs.declared.kinds.Kind.{Kind}
use Rattle.c_parser.specs.declared.kinds.Kind.TheVariants.{CloseParen, Comma, Constant, Generic, Identifier, OffsetOf, OpenBrace, OpenParen, Text}
use Rattle.c_parser.specs.Grammar.{IsMore, IsAny, IsBefore, AreSteps, goes_on}
use Rattle.c_parser.specs.Kinds.{kind_at, level_at, is_size, is_word}
use Rattle.c_parser.specs.Levels.{IsBinary, behinds_level, fronts_level, rank}
use Rattle.c_parser.specs.Reading.{HoldTexts, HoldBehinds, HoldFronts, HoldBraces, HoldAssociations, HoldsNaming, Reads}
use Rattle.item_readings.specs.Search.Deciding.{and_then, at_place, first, dec_not, dec_bool, dec_number, dec_kind, dec_more, dec_any, dec_before, dec_steps, dec_binary}
use Rattle.item_readings.specs.Search.Searches.{Search, Within, weight, tree_rank, fronts_rank, Searches, next, stays, before, inside_kind, inside_test}

fronts_most : (fs : Fronts) → fronts_level fs ≤ 15
fronts_most None_before = omega arith
fronts_most (Front_then (Operator_of o) fs) = omega arith
fronts_most (Front_then (Cast_of o t c) fs) = omega arith
fronts_most (Front_then (Choice_of t q e c) fs) = omega arith
fronts_most (Front_then (Left_of t o) fs) = omega arith

abbrev Tree_name_plan : List Kind → ℕ → ℕ → (Tree → ℕ → Type 0) → Type 0
Tree_name_plan ks r a Goal =
    (r ≤ 17)
    × ((n : ℕ) × (n ≡ a)
    × ((kind_at ks a ≡ Identifier)
    × ((b : ℕ) × (b ≡ a + 1)
    × (Goal (Name_of n) b))))

tree_name_decided : (size fuel : ℕ) → Searches size fuel → (ks : List Kind) → length ks ≡ size → (r : ℕ) → (a : ℕ)
    → weight size a + tree_rank r ≤ suc fuel
    → (Goal : Tree → ℕ → Type 0)
    → ((t : Tree) → (e : ℕ) → Reads ks r t a e → Within size a e → Dec (Goal t e))
    → Dec (Tree_name_plan ks r a Goal)
tree_name_decided size fuel searches ks long r a left Goal found =
    and_then (dec_le r 17) (λ x0.
    at_place a (
    and_then (dec_kind (kind_at ks a) Identifier refl) (λ x2.
    at_place (a + 1) (
    found (Name_of a) (a + 1) (x0, (refl, x2, refl)) (record { forth = omega arith; inside = (inside_kind ks size a long Identifier refl x2) })))))

abbrev Tree_constant_plan : List Kind → ℕ → ℕ → (Tree → ℕ → Type 0) → Type 0
Tree_constant_plan ks r a Goal =
    (r ≤ 17)
    × ((n : ℕ) × (n ≡ a)
    × ((kind_at ks a ≡ Constant)
    × ((b : ℕ) × (b ≡ a + 1)
    × (Goal (Constant_of n) b))))

tree_constant_decided : (size fuel : ℕ) → Searches size fuel → (ks : List Kind) → length ks ≡ size → (r : ℕ) → (a : ℕ)
    → weight size a + tree_rank r ≤ suc fuel
    → (Goal : Tree → ℕ → Type 0)
    → ((t : Tree) → (e : ℕ) → Reads ks r t a e → Within size a e → Dec (Goal t e))
    → Dec (Tree_constant_plan ks r a Goal)
tree_constant_decided size fuel searches ks long r a left Goal found =
    and_then (dec_le r 17) (λ x0.
    at_place a (
    and_then (dec_kind (kind_at ks a) Constant refl) (λ x2.
    at_place (a + 1) (
    found (Constant_of a) (a + 1) (x0, (refl, x2, refl)) (record { forth = omega arith; inside = (inside_kind ks size a long Constant refl x2) })))))

abbrev Tree_text_plan : List Kind → ℕ → ℕ → (Tree → ℕ → Type 0) → Type 0
Tree_text_plan ks r a Goal =
    (r ≤ 17)
    × ((kind_at ks a ≡ Text)
    × ((ns : List ℕ) × (b : ℕ) × HoldTexts ks ns a b
    × (Goal (Text_of ns) b)))

tree_text_decided : (size fuel : ℕ) → Searches size fuel → (ks : List Kind) → length ks ≡ size → (r : ℕ) → (a : ℕ)
    → weight size a + tree_rank r ≤ suc fuel
    → (Goal : Tree → ℕ → Type 0)
    → ((t : Tree) → (e : ℕ) → Reads ks r t a e → Within size a e → Dec (Goal t e))
    → Dec (Tree_text_plan ks r a Goal)
tree_text_decided size fuel searches ks long r a left Goal found =
    and_then (dec_le r 17) (λ x0.
    and_then (dec_kind (kind_at ks a) Text refl) (λ x1.
    searches.texts ks long a (stays size fuel a a (tree_rank r) 1 (omega arith) (omega (arith, x0)) left) _ (λ ns b x2 w2.
    found (Text_of ns) b (x0, (x1, x2)) (record { forth = omega (arith, w2.0, w2.1 x1); inside = (inside_kind ks size a long Text refl x1) }))))

abbrev Tree_paren_plan : List Kind → ℕ → ℕ → (Tree → ℕ → Type 0) → Type 0
Tree_paren_plan ks r a Goal =
    (r ≤ 17)
    × ((o : ℕ) × (o ≡ a)
    × ((kind_at ks a ≡ OpenParen)
    × ((t : Tree) × (c : ℕ) × Reads ks 1 t (a + 1) c
    × ((kind_at ks c ≡ CloseParen)
    × ((b : ℕ) × (b ≡ c + 1)
    × (Goal (Paren_of o t c) b))))))

tree_paren_decided : (size fuel : ℕ) → Searches size fuel → (ks : List Kind) → length ks ≡ size → (r : ℕ) → (a : ℕ)
    → weight size a + tree_rank r ≤ suc fuel
    → (Goal : Tree → ℕ → Type 0)
    → ((t : Tree) → (e : ℕ) → Reads ks r t a e → Within size a e → Dec (Goal t e))
    → Dec (Tree_paren_plan ks r a Goal)
tree_paren_decided size fuel searches ks long r a left Goal found =
    and_then (dec_le r 17) (λ x0.
    at_place a (
    and_then (dec_kind (kind_at ks a) OpenParen refl) (λ x2.
    searches.tree ks long 1 (a + 1) (next size fuel a (a + 1) (tree_rank r) (tree_rank 1) (inside_kind ks size a long OpenParen refl x2) (omega arith) (omega arith) left) _ (λ t c x3 w3.
    and_then (dec_kind (kind_at ks c) CloseParen refl) (λ x4.
    at_place (c + 1) (
    found (Paren_of a t c) (c + 1) (x0, (refl, x2, x3.0, x3.1, x4, refl)) (record { forth = omega (arith, w3.forth); inside = (inside_kind ks size a long OpenParen refl x2) })))))))

abbrev Tree_postfix_plan : List Kind → ℕ → ℕ → (Tree → ℕ → Type 0) → Type 0
Tree_postfix_plan ks r a Goal =
    (r ≤ 16)
    × ((f : Tree) × (m : ℕ) × Reads ks 17 f a m
    × ((bs : Behinds) × (b : ℕ) × HoldBehinds ks 16 bs m b
    × ((IsMore bs)
    × ((goes_on f ≡ true)
    × (Goal (Postfix_of f bs) b)))))

tree_postfix_decided : (size fuel : ℕ) → Searches size fuel → (ks : List Kind) → length ks ≡ size → (r : ℕ) → (a : ℕ)
    → weight size a + tree_rank r ≤ suc fuel
    → (Goal : Tree → ℕ → Type 0)
    → ((t : Tree) → (e : ℕ) → Reads ks r t a e → Within size a e → Dec (Goal t e))
    → Dec (Tree_postfix_plan ks r a Goal)
tree_postfix_decided size fuel searches ks long r a left Goal found =
    and_then (dec_le r 16) (λ x0.
    searches.tree ks long 17 a (stays size fuel a a (tree_rank r) (tree_rank 17) (omega arith) (omega (arith, x0)) left) _ (λ f m x1 w1.
    searches.behinds ks long 16 m (next size fuel a m (tree_rank r) 2 w1.inside (omega (arith, w1.forth)) (omega arith) left) _ (λ bs b x2 w2.
    and_then (dec_more bs) (λ x3.
    and_then (dec_bool (goes_on f) true) (λ x4.
    found (Postfix_of f bs) b (x0, (m, x3, x1.0, x1.1, x2, x4)) (record { forth = omega (arith, w1.forth, w2); inside = w1.inside }))))))

abbrev Tree_unary_plan : List Kind → ℕ → ℕ → (Tree → ℕ → Type 0) → Type 0
Tree_unary_plan ks r a Goal =
    (r ≤ 15)
    × ((fs : Fronts) × (m : ℕ) × HoldFronts ks 15 fs a m
    × ((IsBefore fs)
    × ((t : Tree) × (b : ℕ) × Reads ks 16 t m b
    × ((r ≤ fronts_level fs)
    × (Goal (Unary_of fs t) b)))))

tree_unary_decided : (size fuel : ℕ) → Searches size fuel → (ks : List Kind) → length ks ≡ size → (r : ℕ) → (a : ℕ)
    → weight size a + tree_rank r ≤ suc fuel
    → (Goal : Tree → ℕ → Type 0)
    → ((t : Tree) → (e : ℕ) → Reads ks r t a e → Within size a e → Dec (Goal t e))
    → Dec (Tree_unary_plan ks r a Goal)
tree_unary_decided size fuel searches ks long r a left Goal found =
    and_then (dec_le r 15) (λ x0.
    searches.fronts ks long 15 a (stays size fuel a a (tree_rank r) (fronts_rank 15) (omega arith) (omega (arith, x0)) left) _ (λ fs m x1 w1.
    and_then (dec_before fs) (λ x2.
    searches.tree ks long 16 m (stays size fuel a m (tree_rank r) (tree_rank 16) (omega (arith, w1)) (omega (arith, x0)) left) _ (λ t b x3 w3.
    and_then (dec_le r (fronts_level fs)) (λ x4.
    found (Unary_of fs t) b (x4, (m, x2, x1, x3.0, x3.1)) (record { forth = omega (arith, w1, w3.forth); inside = (before a m size (omega (arith, w1)) w3.inside) }))))))

-- the operator behind the first operand tells the level
abbrev Tree_binary_plan : List Kind → ℕ → ℕ → (Tree → ℕ → Type 0) → Type 0
Tree_binary_plan ks r a Goal =
    (r ≤ 13)
    × ((f : Tree) × (m : ℕ) × Reads ks (r + 1) f a m
    × ((bs : Behinds) × (b : ℕ) × HoldBehinds ks (level_at ks m) bs m b
    × ((IsMore bs)
    × ((IsBinary (behinds_level ks bs))
    × ((behinds_level ks bs + 1 ≤ rank ks f)
    × ((level_at ks m ≡ behinds_level ks bs)
    × ((r ≤ behinds_level ks bs)
    × (Goal (Binary_of f bs) b))))))))

level_here : (ks : List Kind) → (bs : Behinds) → (m b : ℕ) → IsMore bs → IsBinary (behinds_level ks bs)
    → HoldBehinds ks (behinds_level ks bs) bs m b → level_at ks m ≡ behinds_level ks bs
level_here ks None_behind m b more low h = absurd more
level_here ks (Behind_then (Operand_of o t) bs) m b more low h = h.1.2
level_here ks (Behind_then (Index_of o t c) bs) m b more low h = absurd (omega (arith, low.1))
level_here ks (Behind_then (Call_of o c) bs) m b more low h = absurd (omega (arith, low.1))
level_here ks (Behind_then (Call_with_of o t xs c) bs) m b more low h = absurd (omega (arith, low.1))
level_here ks (Behind_then (Member_of o n) bs) m b more low h = absurd (omega (arith, low.1))
level_here ks (Behind_then (Step_of o) bs) m b more low h = absurd (omega (arith, low.1))

tree_binary_made : (ks : List Kind) → (r a : ℕ) → (Goal : Tree → ℕ → Type 0) → Tree_binary_plan ks r a Goal
    → (t : Tree) × (e : ℕ) × Reads ks r t a e × Goal t e
tree_binary_made ks r a Goal (x0, (f, m, x1, (bs, b, x2, (x3, (x4, (x5, (x6, (x7, p0)))))))) =
    (Binary_of f bs, b, (x7, (m, x3, x4, x5, x1.1, subst (λ l. HoldBehinds ks l bs m b) x6 x2)), p0)

tree_binary_kept : (ks : List Kind) → (r a : ℕ) → (Goal : Tree → ℕ → Type 0) → (f : Tree) → (bs : Behinds) → (b : ℕ)
    → Reads ks r (Binary_of f bs) a b → Goal (Binary_of f bs) b → Tree_binary_plan ks r a Goal
tree_binary_kept ks r a Goal f bs b h p0 =
    let same : level_at ks h.1.0 ≡ behinds_level ks bs = level_here ks bs h.1.0 b h.1.1 h.1.2 h.1.5 in (
      omega (arith, h.0, h.1.2.1),
      (
        f,
        h.1.0,
        (omega (arith, h.0, h.1.3), h.1.4),
        (
          bs,
          b,
          subst (λ l. HoldBehinds ks l bs h.1.0 b) (sym same) h.1.5,
          (h.1.1, (h.1.2, (h.1.3, (same, (h.0, p0))))),
        ),
      ),
    )

tree_binary_decided : (size fuel : ℕ) → Searches size fuel → (ks : List Kind) → length ks ≡ size → (r : ℕ) → (a : ℕ)
    → weight size a + tree_rank r ≤ suc fuel
    → (Goal : Tree → ℕ → Type 0)
    → ((t : Tree) → (e : ℕ) → Reads ks r t a e → Within size a e → Dec (Goal t e))
    → Dec (Tree_binary_plan ks r a Goal)
tree_binary_decided size fuel searches ks long r a left Goal found =
    and_then (dec_le r 13) (λ x0.
    searches.tree ks long (r + 1) a (stays size fuel a a (tree_rank r) (tree_rank (r + 1)) (omega arith) (omega (arith, x0)) left) _ (λ f m x1 w1.
    searches.behinds ks long (level_at ks m) m (next size fuel a m (tree_rank r) 2 w1.inside (omega (arith, w1.forth)) (omega arith) left) _ (λ bs b x2 w2.
    and_then (dec_more bs) (λ x3.
    and_then (dec_binary (behinds_level ks bs)) (λ x4.
    and_then (dec_le (behinds_level ks bs + 1) (rank ks f)) (λ x5.
    and_then (dec_number (level_at ks m) (behinds_level ks bs)) (λ x6.
    and_then (dec_le r (behinds_level ks bs)) (λ x7.
    found (Binary_of f bs) b (x7, (m, x3, x4, x5, x1.1, subst (λ l. HoldBehinds ks l bs m b) x6 x2))
    (record { forth = omega (arith, w1.forth, w2); inside = w1.inside })))))))))

abbrev Tree_conditional_plan : List Kind → ℕ → ℕ → (Tree → ℕ → Type 0) → Type 0
Tree_conditional_plan ks r a Goal =
    (r ≤ 3)
    × ((fs : Fronts) × (m : ℕ) × HoldFronts ks 3 fs a m
    × ((IsBefore fs)
    × ((t : Tree) × (b : ℕ) × Reads ks 4 t m b
    × (Goal (Conditional_of fs t) b))))

tree_conditional_decided : (size fuel : ℕ) → Searches size fuel → (ks : List Kind) → length ks ≡ size → (r : ℕ) → (a : ℕ)
    → weight size a + tree_rank r ≤ suc fuel
    → (Goal : Tree → ℕ → Type 0)
    → ((t : Tree) → (e : ℕ) → Reads ks r t a e → Within size a e → Dec (Goal t e))
    → Dec (Tree_conditional_plan ks r a Goal)
tree_conditional_decided size fuel searches ks long r a left Goal found =
    and_then (dec_le r 3) (λ x0.
    searches.fronts ks long 3 a (stays size fuel a a (tree_rank r) (fronts_rank 3) (omega arith) (omega (arith, x0)) left) _ (λ fs m x1 w1.
    and_then (dec_before fs) (λ x2.
    searches.tree ks long 4 m (stays size fuel a m (tree_rank r) (tree_rank 4) (omega (arith, w1)) (omega (arith, x0)) left) _ (λ t b x3 w3.
    found (Conditional_of fs t) b (x0, (m, x2, x1, x3.0, x3.1)) (record { forth = omega (arith, w1, w3.forth); inside = (before a m size (omega (arith, w1)) w3.inside) })))))

abbrev Tree_assign_plan : List Kind → ℕ → ℕ → (Tree → ℕ → Type 0) → Type 0
Tree_assign_plan ks r a Goal =
    (r ≤ 2)
    × ((fs : Fronts) × (m : ℕ) × HoldFronts ks 2 fs a m
    × ((IsBefore fs)
    × ((t : Tree) × (b : ℕ) × Reads ks 3 t m b
    × (Goal (Assign_of fs t) b))))

tree_assign_decided : (size fuel : ℕ) → Searches size fuel → (ks : List Kind) → length ks ≡ size → (r : ℕ) → (a : ℕ)
    → weight size a + tree_rank r ≤ suc fuel
    → (Goal : Tree → ℕ → Type 0)
    → ((t : Tree) → (e : ℕ) → Reads ks r t a e → Within size a e → Dec (Goal t e))
    → Dec (Tree_assign_plan ks r a Goal)
tree_assign_decided size fuel searches ks long r a left Goal found =
    and_then (dec_le r 2) (λ x0.
    searches.fronts ks long 2 a (stays size fuel a a (tree_rank r) (fronts_rank 2) (omega arith) (omega (arith, x0)) left) _ (λ fs m x1 w1.
    and_then (dec_before fs) (λ x2.
    searches.tree ks long 3 m (stays size fuel a m (tree_rank r) (tree_rank 3) (omega (arith, w1)) (omega (arith, x0)) left) _ (λ t b x3 w3.
    found (Assign_of fs t) b (x0, (m, x2, x1, x3.0, x3.1)) (record { forth = omega (arith, w1, w3.forth); inside = (before a m size (omega (arith, w1)) w3.inside) })))))

abbrev Tree_of_type_plan : List Kind → ℕ → ℕ → (Tree → ℕ → Type 0) → Type 0
Tree_of_type_plan ks r a Goal =
    (r ≤ 17)
    × ((k : ℕ) × (k ≡ a)
    × ((is_size (kind_at ks a) ≡ true)
    × ((o : ℕ) × (o ≡ a + 1)
    × ((kind_at ks o ≡ OpenParen)
    × ((t : Naming) × (c : ℕ) × HoldsNaming ks false t (o + 1) c
    × ((kind_at ks c ≡ CloseParen)
    × ((b : ℕ) × (b ≡ c + 1)
    × ((kind_at ks b ≡ OpenBrace → ⊥)
    × (Goal (Of_type k o t c) b)))))))))

tree_of_type_decided : (size fuel : ℕ) → Searches size fuel → (ks : List Kind) → length ks ≡ size → (r : ℕ) → (a : ℕ)
    → weight size a + tree_rank r ≤ suc fuel
    → (Goal : Tree → ℕ → Type 0)
    → ((t : Tree) → (e : ℕ) → Reads ks r t a e → Within size a e → Dec (Goal t e))
    → Dec (Tree_of_type_plan ks r a Goal)
tree_of_type_decided size fuel searches ks long r a left Goal found =
    and_then (dec_le r 17) (λ x0.
    at_place a (
    and_then (dec_bool (is_size (kind_at ks a)) true) (λ x2.
    at_place (a + 1) (
    and_then (dec_kind (kind_at ks (a + 1)) OpenParen refl) (λ x4.
    searches.naming ks long false ((a + 1) + 1) (next size fuel a ((a + 1) + 1) (tree_rank r) 11 (inside_test ks size a long is_size refl x2) (omega arith) (omega arith) left) _ (λ t c x5 w5.
    and_then (dec_kind (kind_at ks c) CloseParen refl) (λ x6.
    at_place (c + 1) (
    and_then (dec_not (dec_kind (kind_at ks (c + 1)) OpenBrace refl)) (λ x8.
    found (Of_type a (a + 1) t c) (c + 1) (x0, (refl, x2, refl, x4, x5, x6, refl, x8)) (record { forth = omega (arith, w5.forth); inside = (inside_test ks size a long is_size refl x2) }))))))))))

abbrev Tree_compound_plan : List Kind → ℕ → ℕ → (Tree → ℕ → Type 0) → Type 0
Tree_compound_plan ks r a Goal =
    (r ≤ 17)
    × ((o : ℕ) × (o ≡ a)
    × ((kind_at ks a ≡ OpenParen)
    × ((t : Naming) × (c : ℕ) × HoldsNaming ks false t (a + 1) c
    × ((kind_at ks c ≡ CloseParen)
    × ((i : Braces) × (b : ℕ) × HoldBraces ks i (c + 1) b
    × (Goal (Compound_of o t c i) b))))))

tree_compound_decided : (size fuel : ℕ) → Searches size fuel → (ks : List Kind) → length ks ≡ size → (r : ℕ) → (a : ℕ)
    → weight size a + tree_rank r ≤ suc fuel
    → (Goal : Tree → ℕ → Type 0)
    → ((t : Tree) → (e : ℕ) → Reads ks r t a e → Within size a e → Dec (Goal t e))
    → Dec (Tree_compound_plan ks r a Goal)
tree_compound_decided size fuel searches ks long r a left Goal found =
    and_then (dec_le r 17) (λ x0.
    at_place a (
    and_then (dec_kind (kind_at ks a) OpenParen refl) (λ x2.
    searches.naming ks long false (a + 1) (next size fuel a (a + 1) (tree_rank r) 11 (inside_kind ks size a long OpenParen refl x2) (omega arith) (omega arith) left) _ (λ t c x3 w3.
    and_then (dec_kind (kind_at ks c) CloseParen refl) (λ x4.
    searches.braces ks long (c + 1) (next size fuel a (c + 1) (tree_rank r) 1 (inside_kind ks size a long OpenParen refl x2) (omega (arith, w3.forth)) (omega arith) left) _ (λ i b x5 w5.
    found (Compound_of a t c i) b (x0, (refl, x2, x3, x4, x5)) (record { forth = omega (arith, w3.forth, w5.forth); inside = (inside_kind ks size a long OpenParen refl x2) })))))))

abbrev Tree_generic_plan : List Kind → ℕ → ℕ → (Tree → ℕ → Type 0) → Type 0
Tree_generic_plan ks r a Goal =
    (r ≤ 17)
    × ((k : ℕ) × (k ≡ a)
    × ((kind_at ks a ≡ Generic)
    × ((o : ℕ) × (o ≡ a + 1)
    × ((kind_at ks o ≡ OpenParen)
    × ((t : Tree) × (m : ℕ) × Reads ks 2 t (o + 1) m
    × ((gs : Associations) × (c : ℕ) × HoldAssociations ks gs m c
    × ((IsAny gs)
    × ((kind_at ks c ≡ CloseParen)
    × ((b : ℕ) × (b ≡ c + 1)
    × (Goal (Generic_of k o t gs c) b))))))))))

tree_generic_decided : (size fuel : ℕ) → Searches size fuel → (ks : List Kind) → length ks ≡ size → (r : ℕ) → (a : ℕ)
    → weight size a + tree_rank r ≤ suc fuel
    → (Goal : Tree → ℕ → Type 0)
    → ((t : Tree) → (e : ℕ) → Reads ks r t a e → Within size a e → Dec (Goal t e))
    → Dec (Tree_generic_plan ks r a Goal)
tree_generic_decided size fuel searches ks long r a left Goal found =
    and_then (dec_le r 17) (λ x0.
    at_place a (
    and_then (dec_kind (kind_at ks a) Generic refl) (λ x2.
    at_place (a + 1) (
    and_then (dec_kind (kind_at ks (a + 1)) OpenParen refl) (λ x4.
    searches.tree ks long 2 ((a + 1) + 1) (next size fuel a ((a + 1) + 1) (tree_rank r) (tree_rank 2) (inside_kind ks size a long Generic refl x2) (omega arith) (omega arith) left) _ (λ t m x5 w5.
    searches.associations ks long m (next size fuel a m (tree_rank r) 1 (inside_kind ks size a long Generic refl x2) (omega (arith, w5.forth)) (omega arith) left) _ (λ gs c x6 w6.
    and_then (dec_any gs) (λ x7.
    and_then (dec_kind (kind_at ks c) CloseParen refl) (λ x8.
    at_place (c + 1) (
    found (Generic_of a (a + 1) t gs c) (c + 1) (x0, (m, refl, x2, refl, x4, x5.0, x5.1, x7, x6, x8, refl)) (record { forth = omega (arith, w5.forth, w6); inside = (inside_kind ks size a long Generic refl x2) })))))))))))

abbrev Tree_offset_plan : List Kind → ℕ → ℕ → (Tree → ℕ → Type 0) → Type 0
Tree_offset_plan ks r a Goal =
    (r ≤ 17)
    × ((k : ℕ) × (k ≡ a)
    × ((kind_at ks a ≡ OffsetOf)
    × ((o : ℕ) × (o ≡ a + 1)
    × ((kind_at ks o ≡ OpenParen)
    × ((t : Naming) × (m : ℕ) × HoldsNaming ks false t (o + 1) m
    × ((kind_at ks m ≡ Comma)
    × ((n : ℕ) × (n ≡ m + 1)
    × ((is_word (kind_at ks n) ≡ true)
    × ((bs : Behinds) × (c : ℕ) × HoldBehinds ks 16 bs (n + 1) c
    × ((AreSteps ks bs)
    × ((kind_at ks c ≡ CloseParen)
    × ((b : ℕ) × (b ≡ c + 1)
    × (Goal (Offset_of k o t m n bs c) b)))))))))))))

tree_offset_decided : (size fuel : ℕ) → Searches size fuel → (ks : List Kind) → length ks ≡ size → (r : ℕ) → (a : ℕ)
    → weight size a + tree_rank r ≤ suc fuel
    → (Goal : Tree → ℕ → Type 0)
    → ((t : Tree) → (e : ℕ) → Reads ks r t a e → Within size a e → Dec (Goal t e))
    → Dec (Tree_offset_plan ks r a Goal)
tree_offset_decided size fuel searches ks long r a left Goal found =
    and_then (dec_le r 17) (λ x0.
    at_place a (
    and_then (dec_kind (kind_at ks a) OffsetOf refl) (λ x2.
    at_place (a + 1) (
    and_then (dec_kind (kind_at ks (a + 1)) OpenParen refl) (λ x4.
    searches.naming ks long false ((a + 1) + 1) (next size fuel a ((a + 1) + 1) (tree_rank r) 11 (inside_kind ks size a long OffsetOf refl x2) (omega arith) (omega arith) left) _ (λ t m x5 w5.
    and_then (dec_kind (kind_at ks m) Comma refl) (λ x6.
    at_place (m + 1) (
    and_then (dec_bool (is_word (kind_at ks (m + 1))) true) (λ x8.
    searches.behinds ks long 16 ((m + 1) + 1) (next size fuel a ((m + 1) + 1) (tree_rank r) 2 (inside_kind ks size a long OffsetOf refl x2) (omega (arith, w5.forth)) (omega arith) left) _ (λ bs c x9 w9.
    and_then (dec_steps ks bs) (λ x10.
    and_then (dec_kind (kind_at ks c) CloseParen refl) (λ x11.
    at_place (c + 1) (
    found (Offset_of a (a + 1) t m (m + 1) bs c) (c + 1) (x0, (refl, x2, refl, x4, x5, x6, refl, x8, x10, x9, x11, refl)) (record { forth = omega (arith, w5.forth, w9); inside = (inside_kind ks size a long OffsetOf refl x2) }))))))))))))))

no_tree : (ks : List Kind) → (r : ℕ) → (a : ℕ) → (Goal : Tree → ℕ → Type 0)
    → (Tree_name_plan ks r a Goal → ⊥)
    → (Tree_constant_plan ks r a Goal → ⊥)
    → (Tree_text_plan ks r a Goal → ⊥)
    → (Tree_paren_plan ks r a Goal → ⊥)
    → (Tree_postfix_plan ks r a Goal → ⊥)
    → (Tree_unary_plan ks r a Goal → ⊥)
    → (Tree_binary_plan ks r a Goal → ⊥)
    → (Tree_conditional_plan ks r a Goal → ⊥)
    → (Tree_assign_plan ks r a Goal → ⊥)
    → (Tree_of_type_plan ks r a Goal → ⊥)
    → (Tree_compound_plan ks r a Goal → ⊥)
    → (Tree_generic_plan ks r a Goal → ⊥)
    → (Tree_offset_plan ks r a Goal → ⊥)
    → (t : Tree) → (e : ℕ) → Reads ks r t a e → Goal t e → ⊥
no_tree ks r a Goal n0 n1 n2 n3 n4 n5 n6 n7 n8 n9 n10 n11 n12 (Name_of n) b h p0 = n0 (h.0, (n, h.1.0, (h.1.1, (b, h.1.2, p0))))
no_tree ks r a Goal n0 n1 n2 n3 n4 n5 n6 n7 n8 n9 n10 n11 n12 (Constant_of n) b h p0 = n1 (h.0, (n, h.1.0, (h.1.1, (b, h.1.2, p0))))
no_tree ks r a Goal n0 n1 n2 n3 n4 n5 n6 n7 n8 n9 n10 n11 n12 (Text_of ns) b h p0 = n2 (h.0, (h.1.0, (ns, b, h.1.1, p0)))
no_tree ks r a Goal n0 n1 n2 n3 n4 n5 n6 n7 n8 n9 n10 n11 n12 (Paren_of o t c) b h p0 = n3 (h.0, (o, h.1.0, (h.1.1, (t, c, (h.1.2, h.1.3), (h.1.4, (b, h.1.5, p0))))))
no_tree ks r a Goal n0 n1 n2 n3 n4 n5 n6 n7 n8 n9 n10 n11 n12 (Postfix_of f bs) b h p0 = n4 (h.0, (f, h.1.0, (h.1.2, h.1.3), (bs, b, h.1.4, (h.1.1, (h.1.5, p0)))))
no_tree ks r a Goal n0 n1 n2 n3 n4 n5 n6 n7 n8 n9 n10 n11 n12 (Unary_of fs t) b h p0 = n5 (omega (arith, h.0, fronts_most fs), (fs, h.1.0, h.1.2, (h.1.1, (t, b, (h.1.3, h.1.4), (h.0, p0)))))
no_tree ks r a Goal n0 n1 n2 n3 n4 n5 n6 n7 n8 n9 n10 n11 n12 (Binary_of f bs) b h p0 = n6 (tree_binary_kept ks r a Goal f bs b h p0)
no_tree ks r a Goal n0 n1 n2 n3 n4 n5 n6 n7 n8 n9 n10 n11 n12 (Conditional_of fs t) b h p0 = n7 (h.0, (fs, h.1.0, h.1.2, (h.1.1, (t, b, (h.1.3, h.1.4), p0))))
no_tree ks r a Goal n0 n1 n2 n3 n4 n5 n6 n7 n8 n9 n10 n11 n12 (Assign_of fs t) b h p0 = n8 (h.0, (fs, h.1.0, h.1.2, (h.1.1, (t, b, (h.1.3, h.1.4), p0))))
no_tree ks r a Goal n0 n1 n2 n3 n4 n5 n6 n7 n8 n9 n10 n11 n12 (Of_type k o t c) b h p0 = n9 (h.0, (k, h.1.0, (h.1.1, (o, h.1.2, (h.1.3, (t, c, h.1.4, (h.1.5, (b, h.1.6, (h.1.7, p0)))))))))
no_tree ks r a Goal n0 n1 n2 n3 n4 n5 n6 n7 n8 n9 n10 n11 n12 (Compound_of o t c i) b h p0 = n10 (h.0, (o, h.1.0, (h.1.1, (t, c, h.1.2, (h.1.3, (i, b, h.1.4, p0))))))
no_tree ks r a Goal n0 n1 n2 n3 n4 n5 n6 n7 n8 n9 n10 n11 n12 (Generic_of k o t gs c) b h p0 = n11 (h.0, (k, h.1.1, (h.1.2, (o, h.1.3, (h.1.4, (t, h.1.0, (h.1.5, h.1.6), (gs, c, h.1.8, (h.1.7, (h.1.9, (b, h.1.10, p0))))))))))
no_tree ks r a Goal n0 n1 n2 n3 n4 n5 n6 n7 n8 n9 n10 n11 n12 (Offset_of k o t m n bs c) b h p0 = n12 (h.0, (k, h.1.0, (h.1.1, (o, h.1.2, (h.1.3, (t, m, h.1.4, (h.1.5, (n, h.1.6, (h.1.7, (bs, c, h.1.9, (h.1.8, (h.1.10, (b, h.1.11, p0)))))))))))))

pub tree : (size fuel : ℕ) → Searches size fuel → (ks : List Kind) → length ks ≡ size → (r : ℕ) → (a : ℕ)
    → weight size a + tree_rank r ≤ suc fuel
    → Search Tree (λ t e. Reads ks r t a e) (λ t e. Within size a e)
tree size fuel searches ks long r a left Goal found =
    first (tree_name_decided size fuel searches ks long r a left Goal found) (λ z. ((Name_of z.1.0), z.1.2.1.0, (z.0, (z.1.1, z.1.2.0, z.1.2.1.1)), z.1.2.1.2)) (λ n0.
    first (tree_constant_decided size fuel searches ks long r a left Goal found) (λ z. ((Constant_of z.1.0), z.1.2.1.0, (z.0, (z.1.1, z.1.2.0, z.1.2.1.1)), z.1.2.1.2)) (λ n1.
    first (tree_text_decided size fuel searches ks long r a left Goal found) (λ z. ((Text_of z.1.1.0), z.1.1.1, (z.0, (z.1.0, z.1.1.2)), z.1.1.3)) (λ n2.
    first (tree_paren_decided size fuel searches ks long r a left Goal found) (λ z. ((Paren_of z.1.0 z.1.2.1.0 z.1.2.1.1), z.1.2.1.3.1.0, (z.0, (z.1.1, z.1.2.0, z.1.2.1.2.0, z.1.2.1.2.1, z.1.2.1.3.0, z.1.2.1.3.1.1)), z.1.2.1.3.1.2)) (λ n3.
    first (tree_postfix_decided size fuel searches ks long r a left Goal found) (λ z. ((Postfix_of z.1.0 z.1.3.0), z.1.3.1, (z.0, (z.1.1, z.1.3.3.0, z.1.2.0, z.1.2.1, z.1.3.2, z.1.3.3.1.0)), z.1.3.3.1.1)) (λ n4.
    first (tree_unary_decided size fuel searches ks long r a left Goal found) (λ z. ((Unary_of z.1.0 z.1.3.1.0), z.1.3.1.1, (z.1.3.1.3.0, (z.1.1, z.1.3.0, z.1.2, z.1.3.1.2.0, z.1.3.1.2.1)), z.1.3.1.3.1)) (λ n5.
    first (tree_binary_decided size fuel searches ks long r a left Goal found) (λ z. tree_binary_made ks r a Goal z) (λ n6.
    first (tree_conditional_decided size fuel searches ks long r a left Goal found) (λ z. ((Conditional_of z.1.0 z.1.3.1.0), z.1.3.1.1, (z.0, (z.1.1, z.1.3.0, z.1.2, z.1.3.1.2.0, z.1.3.1.2.1)), z.1.3.1.3)) (λ n7.
    first (tree_assign_decided size fuel searches ks long r a left Goal found) (λ z. ((Assign_of z.1.0 z.1.3.1.0), z.1.3.1.1, (z.0, (z.1.1, z.1.3.0, z.1.2, z.1.3.1.2.0, z.1.3.1.2.1)), z.1.3.1.3)) (λ n8.
    first (tree_of_type_decided size fuel searches ks long r a left Goal found) (λ z. ((Of_type z.1.0 z.1.2.1.0 z.1.2.1.2.1.0 z.1.2.1.2.1.1), z.1.2.1.2.1.3.1.0, (z.0, (z.1.1, z.1.2.0, z.1.2.1.1, z.1.2.1.2.0, z.1.2.1.2.1.2, z.1.2.1.2.1.3.0, z.1.2.1.2.1.3.1.1, z.1.2.1.2.1.3.1.2.0)), z.1.2.1.2.1.3.1.2.1)) (λ n9.
    first (tree_compound_decided size fuel searches ks long r a left Goal found) (λ z. ((Compound_of z.1.0 z.1.2.1.0 z.1.2.1.1 z.1.2.1.3.1.0), z.1.2.1.3.1.1, (z.0, (z.1.1, z.1.2.0, z.1.2.1.2, z.1.2.1.3.0, z.1.2.1.3.1.2)), z.1.2.1.3.1.3)) (λ n10.
    first (tree_generic_decided size fuel searches ks long r a left Goal found) (λ z. ((Generic_of z.1.0 z.1.2.1.0 z.1.2.1.2.1.0 z.1.2.1.2.1.3.0 z.1.2.1.2.1.3.1), z.1.2.1.2.1.3.3.1.1.0, (z.0, (z.1.2.1.2.1.1, z.1.1, z.1.2.0, z.1.2.1.1, z.1.2.1.2.0, z.1.2.1.2.1.2.0, z.1.2.1.2.1.2.1, z.1.2.1.2.1.3.3.0, z.1.2.1.2.1.3.2, z.1.2.1.2.1.3.3.1.0, z.1.2.1.2.1.3.3.1.1.1)), z.1.2.1.2.1.3.3.1.1.2)) (λ n11.
    first (tree_offset_decided size fuel searches ks long r a left Goal found) (λ z. ((Offset_of z.1.0 z.1.2.1.0 z.1.2.1.2.1.0 z.1.2.1.2.1.1 z.1.2.1.2.1.3.1.0 z.1.2.1.2.1.3.1.2.1.0 z.1.2.1.2.1.3.1.2.1.1), z.1.2.1.2.1.3.1.2.1.3.1.1.0, (z.0, (z.1.1, z.1.2.0, z.1.2.1.1, z.1.2.1.2.0, z.1.2.1.2.1.2, z.1.2.1.2.1.3.0, z.1.2.1.2.1.3.1.1, z.1.2.1.2.1.3.1.2.0, z.1.2.1.2.1.3.1.2.1.3.0, z.1.2.1.2.1.3.1.2.1.2, z.1.2.1.2.1.3.1.2.1.3.1.0, z.1.2.1.2.1.3.1.2.1.3.1.1.1)), z.1.2.1.2.1.3.1.2.1.3.1.1.2)) (λ n12.
    no (λ z. no_tree ks r a Goal n0 n1 n2 n3 n4 n5 n6 n7 n8 n9 n10 n11 n12 z.0 z.1 z.2 z.3))))))))))))))
