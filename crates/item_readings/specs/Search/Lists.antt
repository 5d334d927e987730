-- Lists within declarators and expressions, and what may be left out.
use Rattle.std.proofs.Common.{◌≡◌, refl, ℕ, suc, ◌+◌, ◌≤◌, arith, List, [], ◌∷◌, length, true, Option, None, Some}
use Rattle.c_parser.specs.declared.kinds.Kind.{Kind}
use Rattle.c_parser.specs.declared.kinds.Kind.TheVariants.{Comma, Identifier, Star, Text}
use Rattle.c_parser.specs.Kinds.{kind_at, is_word, qualifies_at}
use Rattle.c_parser.specs.Reading.{HoldTexts, HoldsComma, HoldsTag, HoldQualifiers, HoldNames, HoldPointers}
use Rattle.item_readings.specs.Search.Deciding.{and_then, at_place, first, dec_not, dec_bool, dec_kind}
use Rattle.item_readings.specs.Search.Searches.{Search, AheadTexts, weight, Searches, next, inside_kind, inside_qualifies_at}

abbrev Texts_none_plan : List Kind → ℕ → (List ℕ → ℕ → Type 0) → Type 0
Texts_none_plan ks a Goal =
    (b : ℕ) × (b ≡ a)
    × ((kind_at ks a ≡ Text → ⊥)
    × (Goal [] b))

texts_none_decided : (size fuel : ℕ) → Searches size fuel → (ks : List Kind) → length ks ≡ size → (a : ℕ)
    → weight size a + 1 ≤ suc fuel
    → (Goal : List ℕ → ℕ → Type 0)
    → ((t : List ℕ) → (e : ℕ) → HoldTexts ks t a e → AheadTexts size ks a e → Dec (Goal t e))
    → Dec (Texts_none_plan ks a Goal)
texts_none_decided size fuel searches ks long a left Goal found =
    at_place a (
    and_then (dec_not (dec_kind (kind_at ks a) Text refl)) (λ x1.
    found [] a (refl, x1) (omega arith, λ k. absurd (x1 k))))

abbrev Texts_more_plan : List Kind → ℕ → (List ℕ → ℕ → Type 0) → Type 0
Texts_more_plan ks a Goal =
    (n : ℕ) × (n ≡ a)
    × ((kind_at ks a ≡ Text)
    × ((ns : List ℕ) × (b : ℕ) × HoldTexts ks ns (a + 1) b
    × (Goal (n ∷ ns) b)))

texts_more_decided : (size fuel : ℕ) → Searches size fuel → (ks : List Kind) → length ks ≡ size → (a : ℕ)
    → weight size a + 1 ≤ suc fuel
    → (Goal : List ℕ → ℕ → Type 0)
    → ((t : List ℕ) → (e : ℕ) → HoldTexts ks t a e → AheadTexts size ks a e → Dec (Goal t e))
    → Dec (Texts_more_plan ks a Goal)
texts_more_decided size fuel searches ks long a left Goal found =
    at_place a (
    and_then (dec_kind (kind_at ks a) Text refl) (λ x1.
    searches.texts ks long (a + 1) (next size fuel a (a + 1) 1 1 (inside_kind ks size a long Text refl x1) (omega arith) (omega arith) left) _ (λ ns b x2 w2.
    found (a ∷ ns) b (refl, x1, x2) (omega (arith, w2.0), λ k. omega (arith, w2.0)))))

no_texts : (ks : List Kind) → (a : ℕ) → (Goal : List ℕ → ℕ → Type 0)
    → (Texts_none_plan ks a Goal → ⊥)
    → (Texts_more_plan ks a Goal → ⊥)
    → (t : List ℕ) → (e : ℕ) → HoldTexts ks t a e → Goal t e → ⊥
no_texts ks a Goal n0 n1 [] b h p0 = n0 (b, h.0, (h.1, p0))
no_texts ks a Goal n0 n1 (n ∷ ns) b h p0 = n1 (n, h.0, (h.1, (ns, b, h.2, p0)))

pub texts : (size fuel : ℕ) → Searches size fuel → (ks : List Kind) → length ks ≡ size → (a : ℕ)
    → weight size a + 1 ≤ suc fuel
    → Search (List ℕ) (λ t e. HoldTexts ks t a e) (λ t e. AheadTexts size ks a e)
texts size fuel searches ks long a left Goal found =
    first (texts_none_decided size fuel searches ks long a left Goal found) (λ z. ([], z.0, (z.1, z.2.0), z.2.1)) (λ n0.
    first (texts_more_decided size fuel searches ks long a left Goal found) (λ z. ((z.0 ∷ z.2.1.0), z.2.1.1, (z.1, z.2.0, z.2.1.2), z.2.1.3)) (λ n1.
    no (λ z. no_texts ks a Goal n0 n1 z.0 z.1 z.2 z.3)))

abbrev Comma_none_plan : List Kind → ℕ → (Option ℕ → ℕ → Type 0) → Type 0
Comma_none_plan ks a Goal =
    (b : ℕ) × (b ≡ a)
    × (Goal None b)

comma_none_decided : (size fuel : ℕ) → Searches size fuel → (ks : List Kind) → length ks ≡ size → (a : ℕ)
    → weight size a + 1 ≤ suc fuel
    → (Goal : Option ℕ → ℕ → Type 0)
    → ((t : Option ℕ) → (e : ℕ) → HoldsComma ks t a e → a ≤ e → Dec (Goal t e))
    → Dec (Comma_none_plan ks a Goal)
comma_none_decided size fuel searches ks long a left Goal found =
    at_place a (
    found None a refl (omega arith))

abbrev Comma_some_plan : List Kind → ℕ → (Option ℕ → ℕ → Type 0) → Type 0
Comma_some_plan ks a Goal =
    (o : ℕ) × (o ≡ a)
    × ((kind_at ks a ≡ Comma)
    × ((b : ℕ) × (b ≡ a + 1)
    × (Goal (Some o) b)))

comma_some_decided : (size fuel : ℕ) → Searches size fuel → (ks : List Kind) → length ks ≡ size → (a : ℕ)
    → weight size a + 1 ≤ suc fuel
    → (Goal : Option ℕ → ℕ → Type 0)
    → ((t : Option ℕ) → (e : ℕ) → HoldsComma ks t a e → a ≤ e → Dec (Goal t e))
    → Dec (Comma_some_plan ks a Goal)
comma_some_decided size fuel searches ks long a left Goal found =
    at_place a (
    and_then (dec_kind (kind_at ks a) Comma refl) (λ x1.
    at_place (a + 1) (
    found (Some a) (a + 1) (refl, x1, refl) (omega arith))))

no_comma : (ks : List Kind) → (a : ℕ) → (Goal : Option ℕ → ℕ → Type 0)
    → (Comma_none_plan ks a Goal → ⊥)
    → (Comma_some_plan ks a Goal → ⊥)
    → (t : Option ℕ) → (e : ℕ) → HoldsComma ks t a e → Goal t e → ⊥
no_comma ks a Goal n0 n1 None b h p0 = n0 (b, h, p0)
no_comma ks a Goal n0 n1 (Some o) b h p0 = n1 (o, h.0, (h.1, (b, h.2, p0)))

pub comma : (size fuel : ℕ) → Searches size fuel → (ks : List Kind) → length ks ≡ size → (a : ℕ)
    → weight size a + 1 ≤ suc fuel
    → Search (Option ℕ) (λ t e. HoldsComma ks t a e) (λ t e. a ≤ e)
comma size fuel searches ks long a left Goal found =
    first (comma_none_decided size fuel searches ks long a left Goal found) (λ z. (None, z.0, z.1, z.2)) (λ n0.
    first (comma_some_decided size fuel searches ks long a left Goal found) (λ z. ((Some z.0), z.2.1.0, (z.1, z.2.0, z.2.1.1), z.2.1.2)) (λ n1.
    no (λ z. no_comma ks a Goal n0 n1 z.0 z.1 z.2 z.3)))

abbrev Tag_none_plan : List Kind → ℕ → (Option ℕ → ℕ → Type 0) → Type 0
Tag_none_plan ks a Goal =
    (b : ℕ) × (b ≡ a)
    × (Goal None b)

tag_none_decided : (size fuel : ℕ) → Searches size fuel → (ks : List Kind) → length ks ≡ size → (a : ℕ)
    → weight size a + 1 ≤ suc fuel
    → (Goal : Option ℕ → ℕ → Type 0)
    → ((t : Option ℕ) → (e : ℕ) → HoldsTag ks t a e → a ≤ e → Dec (Goal t e))
    → Dec (Tag_none_plan ks a Goal)
tag_none_decided size fuel searches ks long a left Goal found =
    at_place a (
    found None a refl (omega arith))

abbrev Tag_some_plan : List Kind → ℕ → (Option ℕ → ℕ → Type 0) → Type 0
Tag_some_plan ks a Goal =
    (n : ℕ) × (n ≡ a)
    × ((is_word (kind_at ks a) ≡ true)
    × ((b : ℕ) × (b ≡ a + 1)
    × (Goal (Some n) b)))

tag_some_decided : (size fuel : ℕ) → Searches size fuel → (ks : List Kind) → length ks ≡ size → (a : ℕ)
    → weight size a + 1 ≤ suc fuel
    → (Goal : Option ℕ → ℕ → Type 0)
    → ((t : Option ℕ) → (e : ℕ) → HoldsTag ks t a e → a ≤ e → Dec (Goal t e))
    → Dec (Tag_some_plan ks a Goal)
tag_some_decided size fuel searches ks long a left Goal found =
    at_place a (
    and_then (dec_bool (is_word (kind_at ks a)) true) (λ x1.
    at_place (a + 1) (
    found (Some a) (a + 1) (refl, x1, refl) (omega arith))))

no_tag : (ks : List Kind) → (a : ℕ) → (Goal : Option ℕ → ℕ → Type 0)
    → (Tag_none_plan ks a Goal → ⊥)
    → (Tag_some_plan ks a Goal → ⊥)
    → (t : Option ℕ) → (e : ℕ) → HoldsTag ks t a e → Goal t e → ⊥
no_tag ks a Goal n0 n1 None b h p0 = n0 (b, h, p0)
no_tag ks a Goal n0 n1 (Some n) b h p0 = n1 (n, h.0, (h.1, (b, h.2, p0)))

pub tag : (size fuel : ℕ) → Searches size fuel → (ks : List Kind) → length ks ≡ size → (a : ℕ)
    → weight size a + 1 ≤ suc fuel
    → Search (Option ℕ) (λ t e. HoldsTag ks t a e) (λ t e. a ≤ e)
tag size fuel searches ks long a left Goal found =
    first (tag_none_decided size fuel searches ks long a left Goal found) (λ z. (None, z.0, z.1, z.2)) (λ n0.
    first (tag_some_decided size fuel searches ks long a left Goal found) (λ z. ((Some z.0), z.2.1.0, (z.1, z.2.0, z.2.1.1), z.2.1.2)) (λ n1.
    no (λ z. no_tag ks a Goal n0 n1 z.0 z.1 z.2 z.3)))

abbrev Qualifiers_none_plan : List Kind → ℕ → (List ℕ → ℕ → Type 0) → Type 0
Qualifiers_none_plan ks a Goal =
    (b : ℕ) × (b ≡ a)
    × (Goal [] b)

qualifiers_none_decided : (size fuel : ℕ) → Searches size fuel → (ks : List Kind) → length ks ≡ size → (a : ℕ)
    → weight size a + 1 ≤ suc fuel
    → (Goal : List ℕ → ℕ → Type 0)
    → ((t : List ℕ) → (e : ℕ) → HoldQualifiers ks t a e → a ≤ e → Dec (Goal t e))
    → Dec (Qualifiers_none_plan ks a Goal)
qualifiers_none_decided size fuel searches ks long a left Goal found =
    at_place a (
    found [] a refl (omega arith))

abbrev Qualifiers_more_plan : List Kind → ℕ → (List ℕ → ℕ → Type 0) → Type 0
Qualifiers_more_plan ks a Goal =
    (n : ℕ) × (n ≡ a)
    × ((qualifies_at ks a ≡ true)
    × ((ns : List ℕ) × (b : ℕ) × HoldQualifiers ks ns (a + 1) b
    × (Goal (n ∷ ns) b)))

qualifiers_more_decided : (size fuel : ℕ) → Searches size fuel → (ks : List Kind) → length ks ≡ size → (a : ℕ)
    → weight size a + 1 ≤ suc fuel
    → (Goal : List ℕ → ℕ → Type 0)
    → ((t : List ℕ) → (e : ℕ) → HoldQualifiers ks t a e → a ≤ e → Dec (Goal t e))
    → Dec (Qualifiers_more_plan ks a Goal)
qualifiers_more_decided size fuel searches ks long a left Goal found =
    at_place a (
    and_then (dec_bool (qualifies_at ks a) true) (λ x1.
    searches.qualifiers ks long (a + 1) (next size fuel a (a + 1) 1 1 (inside_qualifies_at ks size a long x1) (omega arith) (omega arith) left) _ (λ ns b x2 w2.
    found (a ∷ ns) b (refl, x1, x2) (omega (arith, w2)))))

no_qualifiers : (ks : List Kind) → (a : ℕ) → (Goal : List ℕ → ℕ → Type 0)
    → (Qualifiers_none_plan ks a Goal → ⊥)
    → (Qualifiers_more_plan ks a Goal → ⊥)
    → (t : List ℕ) → (e : ℕ) → HoldQualifiers ks t a e → Goal t e → ⊥
no_qualifiers ks a Goal n0 n1 [] b h p0 = n0 (b, h, p0)
no_qualifiers ks a Goal n0 n1 (n ∷ ns) b h p0 = n1 (n, h.0, (h.1, (ns, b, h.2, p0)))

pub qualifiers : (size fuel : ℕ) → Searches size fuel → (ks : List Kind) → length ks ≡ size → (a : ℕ)
    → weight size a + 1 ≤ suc fuel
    → Search (List ℕ) (λ t e. HoldQualifiers ks t a e) (λ t e. a ≤ e)
qualifiers size fuel searches ks long a left Goal found =
    first (qualifiers_none_decided size fuel searches ks long a left Goal found) (λ z. ([], z.0, z.1, z.2)) (λ n0.
    first (qualifiers_more_decided size fuel searches ks long a left Goal found) (λ z. ((z.0 ∷ z.2.1.0), z.2.1.1, (z.1, z.2.0, z.2.1.2), z.2.1.3)) (λ n1.
    no (λ z. no_qualifiers ks a Goal n0 n1 z.0 z.1 z.2 z.3)))

abbrev Names_none_plan : List Kind → ℕ → (List (ℕ × ℕ) → ℕ → Type 0) → Type 0
Names_none_plan ks a Goal =
    (b : ℕ) × (b ≡ a)
    × (Goal [] b)

names_none_decided : (size fuel : ℕ) → Searches size fuel → (ks : List Kind) → length ks ≡ size → (a : ℕ)
    → weight size a + 1 ≤ suc fuel
    → (Goal : List (ℕ × ℕ) → ℕ → Type 0)
    → ((t : List (ℕ × ℕ)) → (e : ℕ) → HoldNames ks t a e → a ≤ e → Dec (Goal t e))
    → Dec (Names_none_plan ks a Goal)
names_none_decided size fuel searches ks long a left Goal found =
    at_place a (
    found [] a refl (omega arith))

abbrev Names_more_plan : List Kind → ℕ → (List (ℕ × ℕ) → ℕ → Type 0) → Type 0
Names_more_plan ks a Goal =
    (x : ℕ) × (x ≡ a)
    × ((kind_at ks a ≡ Comma)
    × ((y : ℕ) × (y ≡ a + 1)
    × ((kind_at ks (a + 1) ≡ Identifier)
    × ((ps : List (ℕ × ℕ)) × (b : ℕ) × HoldNames ks ps ((a + 1) + 1) b
    × (Goal ((x, y) ∷ ps) b)))))

names_more_decided : (size fuel : ℕ) → Searches size fuel → (ks : List Kind) → length ks ≡ size → (a : ℕ)
    → weight size a + 1 ≤ suc fuel
    → (Goal : List (ℕ × ℕ) → ℕ → Type 0)
    → ((t : List (ℕ × ℕ)) → (e : ℕ) → HoldNames ks t a e → a ≤ e → Dec (Goal t e))
    → Dec (Names_more_plan ks a Goal)
names_more_decided size fuel searches ks long a left Goal found =
    at_place a (
    and_then (dec_kind (kind_at ks a) Comma refl) (λ x1.
    at_place (a + 1) (
    and_then (dec_kind (kind_at ks (a + 1)) Identifier refl) (λ x3.
    searches.names ks long ((a + 1) + 1) (next size fuel a ((a + 1) + 1) 1 1 (inside_kind ks size a long Comma refl x1) (omega arith) (omega arith) left) _ (λ ps b x4 w4.
    found ((a, (a + 1)) ∷ ps) b (refl, x1, refl, x3, x4) (omega (arith, w4)))))))

no_names : (ks : List Kind) → (a : ℕ) → (Goal : List (ℕ × ℕ) → ℕ → Type 0)
    → (Names_none_plan ks a Goal → ⊥)
    → (Names_more_plan ks a Goal → ⊥)
    → (t : List (ℕ × ℕ)) → (e : ℕ) → HoldNames ks t a e → Goal t e → ⊥
no_names ks a Goal n0 n1 [] b h p0 = n0 (b, h, p0)
no_names ks a Goal n0 n1 (p ∷ ps) b h p0 = n1 (p.0, h.0, (h.1, (p.1, h.2, (h.3, (ps, b, h.4, p0)))))

pub names : (size fuel : ℕ) → Searches size fuel → (ks : List Kind) → length ks ≡ size → (a : ℕ)
    → weight size a + 1 ≤ suc fuel
    → Search (List (ℕ × ℕ)) (λ t e. HoldNames ks t a e) (λ t e. a ≤ e)
names size fuel searches ks long a left Goal found =
    first (names_none_decided size fuel searches ks long a left Goal found) (λ z. ([], z.0, z.1, z.2)) (λ n0.
    first (names_more_decided size fuel searches ks long a left Goal found) (λ z. (((z.0, z.2.1.0) ∷ z.2.1.2.1.0), z.2.1.2.1.1, (z.1, z.2.0, z.2.1.1, z.2.1.2.0, z.2.1.2.1.2), z.2.1.2.1.3)) (λ n1.
    no (λ z. no_names ks a Goal n0 n1 z.0 z.1 z.2 z.3)))

abbrev Pointers_none_plan : List Kind → ℕ → (List (ℕ × List ℕ) → ℕ → Type 0) → Type 0
Pointers_none_plan ks a Goal =
    (b : ℕ) × (b ≡ a)
    × (Goal [] b)

pointers_none_decided : (size fuel : ℕ) → Searches size fuel → (ks : List Kind) → length ks ≡ size → (a : ℕ)
    → weight size a + 2 ≤ suc fuel
    → (Goal : List (ℕ × List ℕ) → ℕ → Type 0)
    → ((t : List (ℕ × List ℕ)) → (e : ℕ) → HoldPointers ks t a e → a ≤ e → Dec (Goal t e))
    → Dec (Pointers_none_plan ks a Goal)
pointers_none_decided size fuel searches ks long a left Goal found =
    at_place a (
    found [] a refl (omega arith))

abbrev Pointers_more_plan : List Kind → ℕ → (List (ℕ × List ℕ) → ℕ → Type 0) → Type 0
Pointers_more_plan ks a Goal =
    (x : ℕ) × (x ≡ a)
    × ((kind_at ks a ≡ Star)
    × ((y : List ℕ) × (m : ℕ) × HoldQualifiers ks y (a + 1) m
    × ((ps : List (ℕ × List ℕ)) × (b : ℕ) × HoldPointers ks ps m b
    × (Goal ((x, y) ∷ ps) b))))

pointers_more_decided : (size fuel : ℕ) → Searches size fuel → (ks : List Kind) → length ks ≡ size → (a : ℕ)
    → weight size a + 2 ≤ suc fuel
    → (Goal : List (ℕ × List ℕ) → ℕ → Type 0)
    → ((t : List (ℕ × List ℕ)) → (e : ℕ) → HoldPointers ks t a e → a ≤ e → Dec (Goal t e))
    → Dec (Pointers_more_plan ks a Goal)
pointers_more_decided size fuel searches ks long a left Goal found =
    at_place a (
    and_then (dec_kind (kind_at ks a) Star refl) (λ x1.
    searches.qualifiers ks long (a + 1) (next size fuel a (a + 1) 2 1 (inside_kind ks size a long Star refl x1) (omega arith) (omega arith) left) _ (λ y m x2 w2.
    searches.pointers ks long m (next size fuel a m 2 2 (inside_kind ks size a long Star refl x1) (omega (arith, w2)) (omega arith) left) _ (λ ps b x3 w3.
    found ((a, y) ∷ ps) b (m, refl, x1, x2, x3) (omega (arith, w2, w3))))))

no_pointers : (ks : List Kind) → (a : ℕ) → (Goal : List (ℕ × List ℕ) → ℕ → Type 0)
    → (Pointers_none_plan ks a Goal → ⊥)
    → (Pointers_more_plan ks a Goal → ⊥)
    → (t : List (ℕ × List ℕ)) → (e : ℕ) → HoldPointers ks t a e → Goal t e → ⊥
no_pointers ks a Goal n0 n1 [] b h p0 = n0 (b, h, p0)
no_pointers ks a Goal n0 n1 (p ∷ ps) b h p0 = n1 (p.0, h.1, (h.2, (p.1, h.0, h.3, (ps, b, h.4, p0))))

pub pointers : (size fuel : ℕ) → Searches size fuel → (ks : List Kind) → length ks ≡ size → (a : ℕ)
    → weight size a + 2 ≤ suc fuel
    → Search (List (ℕ × List ℕ)) (λ t e. HoldPointers ks t a e) (λ t e. a ≤ e)
pointers size fuel searches ks long a left Goal found =
    first (pointers_none_decided size fuel searches ks long a left Goal found) (λ z. ([], z.0, z.1, z.2)) (λ n0.
    first (pointers_more_decided size fuel searches ks long a left Goal found) (λ z. (((z.0, z.2.1.0) ∷ z.2.1.3.0), z.2.1.3.1, (z.2.1.1, z.1, z.2.0, z.2.1.2, z.2.1.3.2), z.2.1.3.3)) (λ n1.
    no (λ z. no_pointers ks a Goal n0 n1 z.0 z.1 z.2 z.3)))
