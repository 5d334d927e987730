-- Members (ISO C11 6.7.2.1) and static assertions (6.7.10).
use Rattle.std.proofs.Common.{◌≡◌, refl, ℕ, suc, ◌+◌, ◌<◌, ◌≤◌, not, arith, List, length, Bool, true, false}
use Rattle.tree_data.specs.Trees.{Tree, Specifyings, Declaring, Member, Bare_of, Fields_of, Asserted_of, Members, No_members, Member_then, Field, Declared_of, Bits_of, Padding_of, Fields, No_fields, Field_then, Assertion, Assertion_of}
use Rattle.c_parser.specs.declared.kinds.Kind.{Kind}
use Rattle.c_parser.specs.declared.kinds.Kind.TheVariants.{Assert, CloseParen, Colon, Comma, OpenParen, Semicolon}
use Rattle.c_parser.specs.declared.kinds.Site.TheVariants.{OfMember}
use Rattle.c_parser.specs.Grammar.{AreSome, MayStand, all_admitted, typed_by}
use Rattle.c_parser.specs.Kinds.{kind_at}
use Rattle.c_parser.specs.Reading.{HoldTexts, HoldSpecifyings, HoldsMember, HoldMembers, HoldsField, HoldFields, HoldsAssertion, HoldsDeclarator, Reads}
use Rattle.item_readings.specs.Search.Deciding.{and_then, at_place, first, dec_bool, dec_less, dec_kind, dec_some}
use Rattle.item_readings.specs.Search.Searches.{Search, Within, weight, tree_rank, Searches, next, stays, inside_kind}

abbrev Member_bare_plan : List Kind → ℕ → (Member → ℕ → Type 0) → Type 0
Member_bare_plan ks a Goal =
    (ss : Specifyings) × (e : ℕ) × HoldSpecifyings ks false ss a e
    × ((AreSome ss)
    × ((MayStand ks OfMember ss)
    × ((kind_at ks e ≡ Semicolon)
    × ((b : ℕ) × (b ≡ e + 1)
    × (Goal (Bare_of ss e) b)))))

member_bare_decided : (size fuel : ℕ) → Searches size fuel → (ks : List Kind) → length ks ≡ size → (a : ℕ)
    → weight size a + 16 ≤ suc fuel
    → (Goal : Member → ℕ → Type 0)
    → ((t : Member) → (e : ℕ) → HoldsMember ks t a e → Within size a e → Dec (Goal t e))
    → Dec (Member_bare_plan ks a Goal)
member_bare_decided size fuel searches ks long a left Goal found =
    searches.specifyings ks long false a (stays size fuel a a 16 2 (omega arith) (omega arith) left) _ (λ ss e x0 w0.
    and_then (dec_some ss) (λ x1.
    and_then (dec_bool (all_admitted ks OfMember ss) true) (λ x2.
    and_then (dec_kind (kind_at ks e) Semicolon refl) (λ x3.
    at_place (e + 1) (
    found (Bare_of ss e) (e + 1) (x1, x0, x2, x3, refl) (record { forth = omega (arith, w0.0, (w0.1 x1).forth); inside = ((w0.1 x1).inside) }))))))

abbrev Member_fields_plan : List Kind → ℕ → (Member → ℕ → Type 0) → Type 0
Member_fields_plan ks a Goal =
    (ss : Specifyings) × (m : ℕ) × HoldSpecifyings ks false ss a m
    × ((AreSome ss)
    × ((MayStand ks OfMember ss)
    × ((f : Field) × (n : ℕ) × HoldsField ks (not (typed_by ks false ss)) f m n
    × ((fs : Fields) × (e : ℕ) × HoldFields ks fs n e
    × ((kind_at ks e ≡ Semicolon)
    × ((b : ℕ) × (b ≡ e + 1)
    × (Goal (Fields_of ss f fs e) b)))))))

member_fields_decided : (size fuel : ℕ) → Searches size fuel → (ks : List Kind) → length ks ≡ size → (a : ℕ)
    → weight size a + 16 ≤ suc fuel
    → (Goal : Member → ℕ → Type 0)
    → ((t : Member) → (e : ℕ) → HoldsMember ks t a e → Within size a e → Dec (Goal t e))
    → Dec (Member_fields_plan ks a Goal)
member_fields_decided size fuel searches ks long a left Goal found =
    searches.specifyings ks long false a (stays size fuel a a 16 2 (omega arith) (omega arith) left) _ (λ ss m x0 w0.
    and_then (dec_some ss) (λ x1.
    and_then (dec_bool (all_admitted ks OfMember ss) true) (λ x2.
    searches.field ks long (not (typed_by ks false ss)) m (next size fuel a m 16 12 ((w0.1 x1).inside) (omega (arith, w0.0, (w0.1 x1).forth)) (omega arith) left) _ (λ f n x3 w3.
    searches.fields ks long n (next size fuel a n 16 1 ((w0.1 x1).inside) (omega (arith, w0.0, (w0.1 x1).forth, w3.forth)) (omega arith) left) _ (λ fs e x4 w4.
    and_then (dec_kind (kind_at ks e) Semicolon refl) (λ x5.
    at_place (e + 1) (
    found (Fields_of ss f fs e) (e + 1) (m, n, x1, x0, x2, x3, x4, x5, refl) (record { forth = omega (arith, w0.0, (w0.1 x1).forth, w3.forth, w4); inside = ((w0.1 x1).inside) }))))))))

abbrev Member_asserted_plan : List Kind → ℕ → (Member → ℕ → Type 0) → Type 0
Member_asserted_plan ks a Goal =
    (x : Assertion) × (b : ℕ) × HoldsAssertion ks x a b
    × (Goal (Asserted_of x) b)

member_asserted_decided : (size fuel : ℕ) → Searches size fuel → (ks : List Kind) → length ks ≡ size → (a : ℕ)
    → weight size a + 16 ≤ suc fuel
    → (Goal : Member → ℕ → Type 0)
    → ((t : Member) → (e : ℕ) → HoldsMember ks t a e → Within size a e → Dec (Goal t e))
    → Dec (Member_asserted_plan ks a Goal)
member_asserted_decided size fuel searches ks long a left Goal found =
    searches.assertion ks long a (stays size fuel a a 16 1 (omega arith) (omega arith) left) _ (λ x b x0 w0.
    found (Asserted_of x) b x0 (record { forth = omega (arith, w0.forth); inside = w0.inside }))

no_member : (ks : List Kind) → (a : ℕ) → (Goal : Member → ℕ → Type 0)
    → (Member_bare_plan ks a Goal → ⊥)
    → (Member_fields_plan ks a Goal → ⊥)
    → (Member_asserted_plan ks a Goal → ⊥)
    → (t : Member) → (e : ℕ) → HoldsMember ks t a e → Goal t e → ⊥
no_member ks a Goal n0 n1 n2 (Bare_of ss e) b h p0 = n0 (ss, e, h.1, (h.0, (h.2, (h.3, (b, h.4, p0)))))
no_member ks a Goal n0 n1 n2 (Fields_of ss f fs e) b h p0 = n1 (ss, h.0, h.3, (h.2, (h.4, (f, h.1, h.5, (fs, e, h.6, (h.7, (b, h.8, p0)))))))
no_member ks a Goal n0 n1 n2 (Asserted_of x) b h p0 = n2 (x, b, h, p0)

pub member : (size fuel : ℕ) → Searches size fuel → (ks : List Kind) → length ks ≡ size → (a : ℕ)
    → weight size a + 16 ≤ suc fuel
    → Search Member (λ t e. HoldsMember ks t a e) (λ t e. Within size a e)
member size fuel searches ks long a left Goal found =
    first (member_bare_decided size fuel searches ks long a left Goal found) (λ z. ((Bare_of z.0 z.1), z.3.1.1.1.0, (z.3.0, z.2, z.3.1.0, z.3.1.1.0, z.3.1.1.1.1), z.3.1.1.1.2)) (λ n0.
    first (member_fields_decided size fuel searches ks long a left Goal found) (λ z. ((Fields_of z.0 z.3.1.1.0 z.3.1.1.3.0 z.3.1.1.3.1), z.3.1.1.3.3.1.0, (z.1, z.3.1.1.1, z.3.0, z.2, z.3.1.0, z.3.1.1.2, z.3.1.1.3.2, z.3.1.1.3.3.0, z.3.1.1.3.3.1.1), z.3.1.1.3.3.1.2)) (λ n1.
    first (member_asserted_decided size fuel searches ks long a left Goal found) (λ z. ((Asserted_of z.0), z.1, z.2, z.3)) (λ n2.
    no (λ z. no_member ks a Goal n0 n1 n2 z.0 z.1 z.2 z.3))))

abbrev Members_no_members_plan : List Kind → ℕ → (Members → ℕ → Type 0) → Type 0
Members_no_members_plan ks a Goal =
    (b : ℕ) × (b ≡ a)
    × (Goal No_members b)

members_no_members_decided : (size fuel : ℕ) → Searches size fuel → (ks : List Kind) → length ks ≡ size → (a : ℕ)
    → weight size a + 17 ≤ suc fuel
    → (Goal : Members → ℕ → Type 0)
    → ((t : Members) → (e : ℕ) → HoldMembers ks t a e → a ≤ e → Dec (Goal t e))
    → Dec (Members_no_members_plan ks a Goal)
members_no_members_decided size fuel searches ks long a left Goal found =
    at_place a (
    found No_members a refl (omega arith))

abbrev Members_member_then_plan : List Kind → ℕ → (Members → ℕ → Type 0) → Type 0
Members_member_then_plan ks a Goal =
    (x : Member) × (m : ℕ) × HoldsMember ks x a m
    × ((xs : Members) × (b : ℕ) × HoldMembers ks xs m b
    × (Goal (Member_then x xs) b))

members_member_then_decided : (size fuel : ℕ) → Searches size fuel → (ks : List Kind) → length ks ≡ size → (a : ℕ)
    → weight size a + 17 ≤ suc fuel
    → (Goal : Members → ℕ → Type 0)
    → ((t : Members) → (e : ℕ) → HoldMembers ks t a e → a ≤ e → Dec (Goal t e))
    → Dec (Members_member_then_plan ks a Goal)
members_member_then_decided size fuel searches ks long a left Goal found =
    searches.member ks long a (stays size fuel a a 17 16 (omega arith) (omega arith) left) _ (λ x m x0 w0.
    searches.members ks long m (next size fuel a m 17 17 w0.inside (omega (arith, w0.forth)) (omega arith) left) _ (λ xs b x1 w1.
    found (Member_then x xs) b (m, x0, x1) (omega (arith, w0.forth, w1))))

no_members : (ks : List Kind) → (a : ℕ) → (Goal : Members → ℕ → Type 0)
    → (Members_no_members_plan ks a Goal → ⊥)
    → (Members_member_then_plan ks a Goal → ⊥)
    → (t : Members) → (e : ℕ) → HoldMembers ks t a e → Goal t e → ⊥
no_members ks a Goal n0 n1 No_members b h p0 = n0 (b, h, p0)
no_members ks a Goal n0 n1 (Member_then x xs) b h p0 = n1 (x, h.0, h.1, (xs, b, h.2, p0))

pub members : (size fuel : ℕ) → Searches size fuel → (ks : List Kind) → length ks ≡ size → (a : ℕ)
    → weight size a + 17 ≤ suc fuel
    → Search Members (λ t e. HoldMembers ks t a e) (λ t e. a ≤ e)
members size fuel searches ks long a left Goal found =
    first (members_no_members_decided size fuel searches ks long a left Goal found) (λ z. (No_members, z.0, z.1, z.2)) (λ n0.
    first (members_member_then_decided size fuel searches ks long a left Goal found) (λ z. ((Member_then z.0 z.3.0), z.3.1, (z.1, z.2, z.3.2), z.3.3)) (λ n1.
    no (λ z. no_members ks a Goal n0 n1 z.0 z.1 z.2 z.3)))

abbrev Field_declared_plan : List Kind → Bool → ℕ → (Field → ℕ → Type 0) → Type 0
Field_declared_plan ks plain a Goal =
    (d : Declaring) × (b : ℕ) × HoldsDeclarator ks plain d a b
    × (Goal (Declared_of d) b)

field_declared_decided : (size fuel : ℕ) → Searches size fuel → (ks : List Kind) → length ks ≡ size → (plain : Bool) → (a : ℕ)
    → weight size a + 12 ≤ suc fuel
    → (Goal : Field → ℕ → Type 0)
    → ((t : Field) → (e : ℕ) → HoldsField ks plain t a e → Within size a e → Dec (Goal t e))
    → Dec (Field_declared_plan ks plain a Goal)
field_declared_decided size fuel searches ks long plain a left Goal found =
    searches.declarator ks long plain a (stays size fuel a a 12 11 (omega arith) (omega arith) left) _ (λ d b x0 w0.
    found (Declared_of d) b x0 (record { forth = omega (arith, w0.forth); inside = w0.inside }))

abbrev Field_bits_plan : List Kind → Bool → ℕ → (Field → ℕ → Type 0) → Type 0
Field_bits_plan ks plain a Goal =
    (d : Declaring) × (c : ℕ) × HoldsDeclarator ks plain d a c
    × ((kind_at ks c ≡ Colon)
    × ((w : Tree) × (b : ℕ) × Reads ks 3 w (c + 1) b
    × (Goal (Bits_of d c w) b)))

field_bits_decided : (size fuel : ℕ) → Searches size fuel → (ks : List Kind) → length ks ≡ size → (plain : Bool) → (a : ℕ)
    → weight size a + 12 ≤ suc fuel
    → (Goal : Field → ℕ → Type 0)
    → ((t : Field) → (e : ℕ) → HoldsField ks plain t a e → Within size a e → Dec (Goal t e))
    → Dec (Field_bits_plan ks plain a Goal)
field_bits_decided size fuel searches ks long plain a left Goal found =
    searches.declarator ks long plain a (stays size fuel a a 12 11 (omega arith) (omega arith) left) _ (λ d c x0 w0.
    and_then (dec_kind (kind_at ks c) Colon refl) (λ x1.
    searches.tree ks long 3 (c + 1) (next size fuel a (c + 1) 12 (tree_rank 3) w0.inside (omega (arith, w0.forth)) (omega arith) left) _ (λ w b x2 w2.
    found (Bits_of d c w) b (x0, x1, x2.0, x2.1) (record { forth = omega (arith, w0.forth, w2.forth); inside = w0.inside }))))

abbrev Field_padding_plan : List Kind → Bool → ℕ → (Field → ℕ → Type 0) → Type 0
Field_padding_plan ks plain a Goal =
    (c : ℕ) × (c ≡ a)
    × ((kind_at ks a ≡ Colon)
    × ((w : Tree) × (b : ℕ) × Reads ks 3 w (a + 1) b
    × (Goal (Padding_of c w) b)))

field_padding_decided : (size fuel : ℕ) → Searches size fuel → (ks : List Kind) → length ks ≡ size → (plain : Bool) → (a : ℕ)
    → weight size a + 12 ≤ suc fuel
    → (Goal : Field → ℕ → Type 0)
    → ((t : Field) → (e : ℕ) → HoldsField ks plain t a e → Within size a e → Dec (Goal t e))
    → Dec (Field_padding_plan ks plain a Goal)
field_padding_decided size fuel searches ks long plain a left Goal found =
    at_place a (
    and_then (dec_kind (kind_at ks a) Colon refl) (λ x1.
    searches.tree ks long 3 (a + 1) (next size fuel a (a + 1) 12 (tree_rank 3) (inside_kind ks size a long Colon refl x1) (omega arith) (omega arith) left) _ (λ w b x2 w2.
    found (Padding_of a w) b (refl, x1, x2.0, x2.1) (record { forth = omega (arith, w2.forth); inside = (inside_kind ks size a long Colon refl x1) }))))

no_field : (ks : List Kind) → (plain : Bool) → (a : ℕ) → (Goal : Field → ℕ → Type 0)
    → (Field_declared_plan ks plain a Goal → ⊥)
    → (Field_bits_plan ks plain a Goal → ⊥)
    → (Field_padding_plan ks plain a Goal → ⊥)
    → (t : Field) → (e : ℕ) → HoldsField ks plain t a e → Goal t e → ⊥
no_field ks plain a Goal n0 n1 n2 (Declared_of d) b h p0 = n0 (d, b, h, p0)
no_field ks plain a Goal n0 n1 n2 (Bits_of d c w) b h p0 = n1 (d, c, h.0, (h.1, (w, b, (h.2, h.3), p0)))
no_field ks plain a Goal n0 n1 n2 (Padding_of c w) b h p0 = n2 (c, h.0, (h.1, (w, b, (h.2, h.3), p0)))

pub field : (size fuel : ℕ) → Searches size fuel → (ks : List Kind) → length ks ≡ size → (plain : Bool) → (a : ℕ)
    → weight size a + 12 ≤ suc fuel
    → Search Field (λ t e. HoldsField ks plain t a e) (λ t e. Within size a e)
field size fuel searches ks long plain a left Goal found =
    first (field_declared_decided size fuel searches ks long plain a left Goal found) (λ z. ((Declared_of z.0), z.1, z.2, z.3)) (λ n0.
    first (field_bits_decided size fuel searches ks long plain a left Goal found) (λ z. ((Bits_of z.0 z.1 z.3.1.0), z.3.1.1, (z.2, z.3.0, z.3.1.2.0, z.3.1.2.1), z.3.1.3)) (λ n1.
    first (field_padding_decided size fuel searches ks long plain a left Goal found) (λ z. ((Padding_of z.0 z.2.1.0), z.2.1.1, (z.1, z.2.0, z.2.1.2.0, z.2.1.2.1), z.2.1.3)) (λ n2.
    no (λ z. no_field ks plain a Goal n0 n1 n2 z.0 z.1 z.2 z.3))))

abbrev Fields_no_fields_plan : List Kind → ℕ → (Fields → ℕ → Type 0) → Type 0
Fields_no_fields_plan ks a Goal =
    (b : ℕ) × (b ≡ a)
    × (Goal No_fields b)

fields_no_fields_decided : (size fuel : ℕ) → Searches size fuel → (ks : List Kind) → length ks ≡ size → (a : ℕ)
    → weight size a + 1 ≤ suc fuel
    → (Goal : Fields → ℕ → Type 0)
    → ((t : Fields) → (e : ℕ) → HoldFields ks t a e → a ≤ e → Dec (Goal t e))
    → Dec (Fields_no_fields_plan ks a Goal)
fields_no_fields_decided size fuel searches ks long a left Goal found =
    at_place a (
    found No_fields a refl (omega arith))

abbrev Fields_field_then_plan : List Kind → ℕ → (Fields → ℕ → Type 0) → Type 0
Fields_field_then_plan ks a Goal =
    (o : ℕ) × (o ≡ a)
    × ((kind_at ks a ≡ Comma)
    × ((f : Field) × (m : ℕ) × HoldsField ks false f (a + 1) m
    × ((fs : Fields) × (b : ℕ) × HoldFields ks fs m b
    × (Goal (Field_then o f fs) b))))

fields_field_then_decided : (size fuel : ℕ) → Searches size fuel → (ks : List Kind) → length ks ≡ size → (a : ℕ)
    → weight size a + 1 ≤ suc fuel
    → (Goal : Fields → ℕ → Type 0)
    → ((t : Fields) → (e : ℕ) → HoldFields ks t a e → a ≤ e → Dec (Goal t e))
    → Dec (Fields_field_then_plan ks a Goal)
fields_field_then_decided size fuel searches ks long a left Goal found =
    at_place a (
    and_then (dec_kind (kind_at ks a) Comma refl) (λ x1.
    searches.field ks long false (a + 1) (next size fuel a (a + 1) 1 12 (inside_kind ks size a long Comma refl x1) (omega arith) (omega arith) left) _ (λ f m x2 w2.
    searches.fields ks long m (next size fuel a m 1 1 (inside_kind ks size a long Comma refl x1) (omega (arith, w2.forth)) (omega arith) left) _ (λ fs b x3 w3.
    found (Field_then a f fs) b (m, refl, x1, x2, x3) (omega (arith, w2.forth, w3))))))

no_fields : (ks : List Kind) → (a : ℕ) → (Goal : Fields → ℕ → Type 0)
    → (Fields_no_fields_plan ks a Goal → ⊥)
    → (Fields_field_then_plan ks a Goal → ⊥)
    → (t : Fields) → (e : ℕ) → HoldFields ks t a e → Goal t e → ⊥
no_fields ks a Goal n0 n1 No_fields b h p0 = n0 (b, h, p0)
no_fields ks a Goal n0 n1 (Field_then o f fs) b h p0 = n1 (o, h.1, (h.2, (f, h.0, h.3, (fs, b, h.4, p0))))

pub fields : (size fuel : ℕ) → Searches size fuel → (ks : List Kind) → length ks ≡ size → (a : ℕ)
    → weight size a + 1 ≤ suc fuel
    → Search Fields (λ t e. HoldFields ks t a e) (λ t e. a ≤ e)
fields size fuel searches ks long a left Goal found =
    first (fields_no_fields_decided size fuel searches ks long a left Goal found) (λ z. (No_fields, z.0, z.1, z.2)) (λ n0.
    first (fields_field_then_decided size fuel searches ks long a left Goal found) (λ z. ((Field_then z.0 z.2.1.0 z.2.1.3.0), z.2.1.3.1, (z.2.1.1, z.1, z.2.0, z.2.1.2, z.2.1.3.2), z.2.1.3.3)) (λ n1.
    no (λ z. no_fields ks a Goal n0 n1 z.0 z.1 z.2 z.3)))

abbrev Assertion_assertion_plan : List Kind → ℕ → (Assertion → ℕ → Type 0) → Type 0
Assertion_assertion_plan ks a Goal =
    (k : ℕ) × (k ≡ a)
    × ((kind_at ks a ≡ Assert)
    × ((o : ℕ) × (o ≡ a + 1)
    × ((kind_at ks o ≡ OpenParen)
    × ((t : Tree) × (c : ℕ) × Reads ks 3 t (o + 1) c
    × ((kind_at ks c ≡ Comma)
    × ((ns : List ℕ) × (p : ℕ) × HoldTexts ks ns (c + 1) p
    × ((c + 1 < p)
    × ((kind_at ks p ≡ CloseParen)
    × ((e : ℕ) × (e ≡ p + 1)
    × ((kind_at ks e ≡ Semicolon)
    × ((b : ℕ) × (b ≡ e + 1)
    × (Goal (Assertion_of k o t c ns p e) b))))))))))))

assertion_assertion_decided : (size fuel : ℕ) → Searches size fuel → (ks : List Kind) → length ks ≡ size → (a : ℕ)
    → weight size a + 1 ≤ suc fuel
    → (Goal : Assertion → ℕ → Type 0)
    → ((t : Assertion) → (e : ℕ) → HoldsAssertion ks t a e → Within size a e → Dec (Goal t e))
    → Dec (Assertion_assertion_plan ks a Goal)
assertion_assertion_decided size fuel searches ks long a left Goal found =
    at_place a (
    and_then (dec_kind (kind_at ks a) Assert refl) (λ x1.
    at_place (a + 1) (
    and_then (dec_kind (kind_at ks (a + 1)) OpenParen refl) (λ x3.
    searches.tree ks long 3 ((a + 1) + 1) (next size fuel a ((a + 1) + 1) 1 (tree_rank 3) (inside_kind ks size a long Assert refl x1) (omega arith) (omega arith) left) _ (λ t c x4 w4.
    and_then (dec_kind (kind_at ks c) Comma refl) (λ x5.
    searches.texts ks long (c + 1) (next size fuel a (c + 1) 1 1 (inside_kind ks size a long Assert refl x1) (omega (arith, w4.forth)) (omega arith) left) _ (λ ns p x6 w6.
    and_then (dec_less (c + 1) p) (λ x7.
    and_then (dec_kind (kind_at ks p) CloseParen refl) (λ x8.
    at_place (p + 1) (
    and_then (dec_kind (kind_at ks (p + 1)) Semicolon refl) (λ x10.
    at_place ((p + 1) + 1) (
    found (Assertion_of a (a + 1) t c ns p (p + 1)) ((p + 1) + 1) (refl, x1, refl, x3, x4.0, x4.1, x5, x7, x6, x8, refl, x10, refl) (record { forth = omega (arith, w4.forth, w6.0); inside = (inside_kind ks size a long Assert refl x1) })))))))))))))

no_assertion : (ks : List Kind) → (a : ℕ) → (Goal : Assertion → ℕ → Type 0)
    → (Assertion_assertion_plan ks a Goal → ⊥)
    → (t : Assertion) → (e : ℕ) → HoldsAssertion ks t a e → Goal t e → ⊥
no_assertion ks a Goal n0 (Assertion_of k o t c ns p e) b h p0 = n0 (k, h.0, (h.1, (o, h.2, (h.3, (t, c, (h.4, h.5), (h.6, (ns, p, h.8, (h.7, (h.9, (e, h.10, (h.11, (b, h.12, p0))))))))))))

pub assertion : (size fuel : ℕ) → Searches size fuel → (ks : List Kind) → length ks ≡ size → (a : ℕ)
    → weight size a + 1 ≤ suc fuel
    → Search Assertion (λ t e. HoldsAssertion ks t a e) (λ t e. Within size a e)
assertion size fuel searches ks long a left Goal found =
    first (assertion_assertion_decided size fuel searches ks long a left Goal found) (λ z. ((Assertion_of z.0 z.2.1.0 z.2.1.2.1.0 z.2.1.2.1.1 z.2.1.2.1.3.1.0 z.2.1.2.1.3.1.1 z.2.1.2.1.3.1.3.1.1.0), z.2.1.2.1.3.1.3.1.1.2.1.0, (z.1, z.2.0, z.2.1.1, z.2.1.2.0, z.2.1.2.1.2.0, z.2.1.2.1.2.1, z.2.1.2.1.3.0, z.2.1.2.1.3.1.3.0, z.2.1.2.1.3.1.2, z.2.1.2.1.3.1.3.1.0, z.2.1.2.1.3.1.3.1.1.1, z.2.1.2.1.3.1.3.1.1.2.0, z.2.1.2.1.3.1.3.1.1.2.1.1), z.2.1.2.1.3.1.3.1.1.2.1.2)) (λ n0.
    no (λ z. no_assertion ks a Goal n0 z.0 z.1 z.2 z.3))
