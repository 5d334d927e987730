-- Declarators (ISO C11 6.7.6, 6.7.7).
use Rattle.std.proofs.Common.{◌≡◌, refl, ℕ, suc, ◌+◌, ◌≤◌, arith, List, length, Bool, true, false}
use Rattle.tree_data.specs.Trees.{Specifyings, Naming, Type_of, Declaring, Declaring_of, Named_of, Grouping, No_group, Group_of, Derivings}
use Rattle.c_parser.specs.declared.kinds.Kind.{Kind}
use Rattle.c_parser.specs.declared.kinds.Kind.TheVariants.{CloseParen, OpenParen}
use Rattle.c_parser.specs.declared.kinds.Named.{Named}
use Rattle.c_parser.specs.Declarators.{IsWritten, MayDerive}
use Rattle.c_parser.specs.Grammar.{AreSome, MayStand, all_admitted, typed_by}
use Rattle.c_parser.specs.Kinds.{kind_at, may_name, named_by, grouped, behind_pointers, site_of, names_it, plain_behind}
use Rattle.c_parser.specs.Reading.{HoldPointers, HoldSpecifyings, HoldsDeclarator, HoldsDirect, HoldsNaming, HoldsDeclaring, HoldsGrouping, HoldDerivings}
use Rattle.item_readings.specs.Search.Deciding.{and_then, at_place, first, dec_bool, dec_kind, dec_some, dec_written, dec_derive}
use Rattle.item_readings.specs.Search.Searches.{Search, Within, weight, Searches, next, stays, before, inside_kind, inside_names_it}

abbrev Declarator_declaring_plan : List Kind → Bool → ℕ → (Declaring → ℕ → Type 0) → Type 0
Declarator_declaring_plan ks plain a Goal =
    (ps : List (ℕ × List ℕ)) × (m : ℕ) × HoldPointers ks ps a m
    × ((g : Grouping) × (n : ℕ) × HoldsDirect ks (plain_behind plain ps) g m n
    × ((ds : Derivings) × (b : ℕ) × HoldDerivings ks ds n b
    × (Goal (Declaring_of ps g ds) b)))

declarator_declaring_decided : (size fuel : ℕ) → Searches size fuel → (ks : List Kind) → length ks ≡ size → (plain : Bool) → (a : ℕ)
    → weight size a + 11 ≤ suc fuel
    → (Goal : Declaring → ℕ → Type 0)
    → ((t : Declaring) → (e : ℕ) → HoldsDeclarator ks plain t a e → Within size a e → Dec (Goal t e))
    → Dec (Declarator_declaring_plan ks plain a Goal)
declarator_declaring_decided size fuel searches ks long plain a left Goal found =
    searches.pointers ks long a (stays size fuel a a 11 2 (omega arith) (omega arith) left) _ (λ ps m x0 w0.
    searches.direct ks long (plain_behind plain ps) m (stays size fuel a m 11 1 (omega (arith, w0)) (omega arith) left) _ (λ g n x1 w1.
    searches.derivings ks long n (next size fuel a n 11 2 (before a m size (omega (arith, w0)) w1.inside) (omega (arith, w0, w1.forth)) (omega arith) left) _ (λ ds b x2 w2.
    found (Declaring_of ps g ds) b (m, n, x0, x1, x2) (record { forth = omega (arith, w0, w1.forth, w2); inside = (before a m size (omega (arith, w0)) w1.inside) }))))

no_declarator : (ks : List Kind) → (plain : Bool) → (a : ℕ) → (Goal : Declaring → ℕ → Type 0)
    → (Declarator_declaring_plan ks plain a Goal → ⊥)
    → (t : Declaring) → (e : ℕ) → HoldsDeclarator ks plain t a e → Goal t e → ⊥
no_declarator ks plain a Goal n0 (Declaring_of ps g ds) b h p0 = n0 (ps, h.0, h.2, (g, h.1, h.3, (ds, b, h.4, p0)))

pub declarator : (size fuel : ℕ) → Searches size fuel → (ks : List Kind) → length ks ≡ size → (plain : Bool) → (a : ℕ)
    → weight size a + 11 ≤ suc fuel
    → Search Declaring (λ t e. HoldsDeclarator ks plain t a e) (λ t e. Within size a e)
declarator size fuel searches ks long plain a left Goal found =
    first (declarator_declaring_decided size fuel searches ks long plain a left Goal found) (λ z. ((Declaring_of z.0 z.3.0 z.3.3.0), z.3.3.1, (z.1, z.3.1, z.2, z.3.2, z.3.3.2), z.3.3.3)) (λ n0.
    no (λ z. no_declarator ks plain a Goal n0 z.0 z.1 z.2 z.3))

abbrev Direct_named_plan : List Kind → Bool → ℕ → (Grouping → ℕ → Type 0) → Type 0
Direct_named_plan ks plain a Goal =
    (n : ℕ) × (n ≡ a)
    × ((names_it plain (kind_at ks a) ≡ true)
    × ((b : ℕ) × (b ≡ a + 1)
    × (Goal (Named_of n) b)))

direct_named_decided : (size fuel : ℕ) → Searches size fuel → (ks : List Kind) → length ks ≡ size → (plain : Bool) → (a : ℕ)
    → weight size a + 1 ≤ suc fuel
    → (Goal : Grouping → ℕ → Type 0)
    → ((t : Grouping) → (e : ℕ) → HoldsDirect ks plain t a e → Within size a e → Dec (Goal t e))
    → Dec (Direct_named_plan ks plain a Goal)
direct_named_decided size fuel searches ks long plain a left Goal found =
    at_place a (
    and_then (dec_bool (names_it plain (kind_at ks a)) true) (λ x1.
    at_place (a + 1) (
    found (Named_of a) (a + 1) (refl, x1, refl) (record { forth = omega arith; inside = (inside_names_it ks size a long plain x1) }))))

abbrev Direct_group_plan : List Kind → Bool → ℕ → (Grouping → ℕ → Type 0) → Type 0
Direct_group_plan ks plain a Goal =
    (o : ℕ) × (o ≡ a)
    × ((kind_at ks a ≡ OpenParen)
    × ((d : Declaring) × (c : ℕ) × HoldsDeclarator ks false d (a + 1) c
    × ((kind_at ks c ≡ CloseParen)
    × ((b : ℕ) × (b ≡ c + 1)
    × (Goal (Group_of o d c) b)))))

direct_group_decided : (size fuel : ℕ) → Searches size fuel → (ks : List Kind) → length ks ≡ size → (plain : Bool) → (a : ℕ)
    → weight size a + 1 ≤ suc fuel
    → (Goal : Grouping → ℕ → Type 0)
    → ((t : Grouping) → (e : ℕ) → HoldsDirect ks plain t a e → Within size a e → Dec (Goal t e))
    → Dec (Direct_group_plan ks plain a Goal)
direct_group_decided size fuel searches ks long plain a left Goal found =
    at_place a (
    and_then (dec_kind (kind_at ks a) OpenParen refl) (λ x1.
    searches.declarator ks long false (a + 1) (next size fuel a (a + 1) 1 11 (inside_kind ks size a long OpenParen refl x1) (omega arith) (omega arith) left) _ (λ d c x2 w2.
    and_then (dec_kind (kind_at ks c) CloseParen refl) (λ x3.
    at_place (c + 1) (
    found (Group_of a d c) (c + 1) (refl, x1, x2, x3, refl) (record { forth = omega (arith, w2.forth); inside = (inside_kind ks size a long OpenParen refl x1) }))))))

no_direct : (ks : List Kind) → (plain : Bool) → (a : ℕ) → (Goal : Grouping → ℕ → Type 0)
    → (Direct_named_plan ks plain a Goal → ⊥)
    → (Direct_group_plan ks plain a Goal → ⊥)
    → (t : Grouping) → (e : ℕ) → HoldsDirect ks plain t a e → Goal t e → ⊥
no_direct ks plain a Goal n0 n1 No_group b h p0 = absurd h
no_direct ks plain a Goal n0 n1 (Named_of n) b h p0 = n0 (n, h.0, (h.1, (b, h.2, p0)))
no_direct ks plain a Goal n0 n1 (Group_of o d c) b h p0 = n1 (o, h.0, (h.1, (d, c, h.2, (h.3, (b, h.4, p0)))))

pub direct : (size fuel : ℕ) → Searches size fuel → (ks : List Kind) → length ks ≡ size → (plain : Bool) → (a : ℕ)
    → weight size a + 1 ≤ suc fuel
    → Search Grouping (λ t e. HoldsDirect ks plain t a e) (λ t e. Within size a e)
direct size fuel searches ks long plain a left Goal found =
    first (direct_named_decided size fuel searches ks long plain a left Goal found) (λ z. ((Named_of z.0), z.2.1.0, (z.1, z.2.0, z.2.1.1), z.2.1.2)) (λ n0.
    first (direct_group_decided size fuel searches ks long plain a left Goal found) (λ z. ((Group_of z.0 z.2.1.0 z.2.1.1), z.2.1.3.1.0, (z.1, z.2.0, z.2.1.2, z.2.1.3.0, z.2.1.3.1.1), z.2.1.3.1.2)) (λ n1.
    no (λ z. no_direct ks plain a Goal n0 n1 z.0 z.1 z.2 z.3)))

abbrev Naming_type_plan : List Kind → Bool → ℕ → (Naming → ℕ → Type 0) → Type 0
Naming_type_plan ks named a Goal =
    (ss : Specifyings) × (m : ℕ) × HoldSpecifyings ks false ss a m
    × ((AreSome ss)
    × ((d : Declaring) × (b : ℕ) × HoldsDeclaring ks (named_by named (typed_by ks false ss)) d m b
    × ((MayStand ks (site_of named) ss)
    × (Goal (Type_of ss d) b))))

naming_type_decided : (size fuel : ℕ) → Searches size fuel → (ks : List Kind) → length ks ≡ size → (named : Bool) → (a : ℕ)
    → weight size a + 11 ≤ suc fuel
    → (Goal : Naming → ℕ → Type 0)
    → ((t : Naming) → (e : ℕ) → HoldsNaming ks named t a e → Within size a e → Dec (Goal t e))
    → Dec (Naming_type_plan ks named a Goal)
naming_type_decided size fuel searches ks long named a left Goal found =
    searches.specifyings ks long false a (stays size fuel a a 11 2 (omega arith) (omega arith) left) _ (λ ss m x0 w0.
    and_then (dec_some ss) (λ x1.
    searches.declaring ks long (named_by named (typed_by ks false ss)) m (next size fuel a m 11 10 ((w0.1 x1).inside) (omega (arith, w0.0, (w0.1 x1).forth)) (omega arith) left) _ (λ d b x2 w2.
    and_then (dec_bool (all_admitted ks (site_of named) ss) true) (λ x3.
    found (Type_of ss d) b (m, x1, x0, x2, x3) (record { forth = omega (arith, w0.0, (w0.1 x1).forth, w2); inside = ((w0.1 x1).inside) })))))

no_naming : (ks : List Kind) → (named : Bool) → (a : ℕ) → (Goal : Naming → ℕ → Type 0)
    → (Naming_type_plan ks named a Goal → ⊥)
    → (t : Naming) → (e : ℕ) → HoldsNaming ks named t a e → Goal t e → ⊥
no_naming ks named a Goal n0 (Type_of ss d) b h p0 = n0 (ss, h.0, h.2, (h.1, (d, b, h.3, (h.4, p0))))

pub naming : (size fuel : ℕ) → Searches size fuel → (ks : List Kind) → length ks ≡ size → (named : Bool) → (a : ℕ)
    → weight size a + 11 ≤ suc fuel
    → Search Naming (λ t e. HoldsNaming ks named t a e) (λ t e. Within size a e)
naming size fuel searches ks long named a left Goal found =
    first (naming_type_decided size fuel searches ks long named a left Goal found) (λ z. ((Type_of z.0 z.3.1.0), z.3.1.1, (z.1, z.3.0, z.2, z.3.1.2, z.3.1.3.0), z.3.1.3.1)) (λ n0.
    no (λ z. no_naming ks named a Goal n0 z.0 z.1 z.2 z.3))

abbrev Declaring_declaring_plan : List Kind → Named → ℕ → (Declaring → ℕ → Type 0) → Type 0
Declaring_declaring_plan ks named a Goal =
    (ps : List (ℕ × List ℕ)) × (m : ℕ) × HoldPointers ks ps a m
    × ((g : Grouping) × (n : ℕ) × HoldsGrouping ks (behind_pointers named ps) g m n
    × ((ds : Derivings) × (b : ℕ) × HoldDerivings ks ds n b
    × ((MayDerive g ds)
    × (Goal (Declaring_of ps g ds) b))))

declaring_declaring_decided : (size fuel : ℕ) → Searches size fuel → (ks : List Kind) → length ks ≡ size → (named : Named) → (a : ℕ)
    → weight size a + 10 ≤ suc fuel
    → (Goal : Declaring → ℕ → Type 0)
    → ((t : Declaring) → (e : ℕ) → HoldsDeclaring ks named t a e → a ≤ e → Dec (Goal t e))
    → Dec (Declaring_declaring_plan ks named a Goal)
declaring_declaring_decided size fuel searches ks long named a left Goal found =
    searches.pointers ks long a (stays size fuel a a 10 2 (omega arith) (omega arith) left) _ (λ ps m x0 w0.
    searches.grouping ks long (behind_pointers named ps) m (stays size fuel a m 10 1 (omega (arith, w0)) (omega arith) left) _ (λ g n x1 w1.
    searches.derivings ks long n (stays size fuel a n 10 2 (omega (arith, w0, w1)) (omega arith) left) _ (λ ds b x2 w2.
    and_then (dec_derive g ds) (λ x3.
    found (Declaring_of ps g ds) b (m, n, x0, x1, x2, x3) (omega (arith, w0, w1, w2))))))

no_declaring : (ks : List Kind) → (named : Named) → (a : ℕ) → (Goal : Declaring → ℕ → Type 0)
    → (Declaring_declaring_plan ks named a Goal → ⊥)
    → (t : Declaring) → (e : ℕ) → HoldsDeclaring ks named t a e → Goal t e → ⊥
no_declaring ks named a Goal n0 (Declaring_of ps g ds) b h p0 = n0 (ps, h.0, h.2, (g, h.1, h.3, (ds, b, h.4, (h.5, p0))))

pub declaring : (size fuel : ℕ) → Searches size fuel → (ks : List Kind) → length ks ≡ size → (named : Named) → (a : ℕ)
    → weight size a + 10 ≤ suc fuel
    → Search Declaring (λ t e. HoldsDeclaring ks named t a e) (λ t e. a ≤ e)
declaring size fuel searches ks long named a left Goal found =
    first (declaring_declaring_decided size fuel searches ks long named a left Goal found) (λ z. ((Declaring_of z.0 z.3.0 z.3.3.0), z.3.3.1, (z.1, z.3.1, z.2, z.3.2, z.3.3.2, z.3.3.3.0), z.3.3.3.1)) (λ n0.
    no (λ z. no_declaring ks named a Goal n0 z.0 z.1 z.2 z.3))

abbrev Grouping_no_group_plan : List Kind → Named → ℕ → (Grouping → ℕ → Type 0) → Type 0
Grouping_no_group_plan ks named a Goal =
    (b : ℕ) × (b ≡ a)
    × (Goal No_group b)

grouping_no_group_decided : (size fuel : ℕ) → Searches size fuel → (ks : List Kind) → length ks ≡ size → (named : Named) → (a : ℕ)
    → weight size a + 1 ≤ suc fuel
    → (Goal : Grouping → ℕ → Type 0)
    → ((t : Grouping) → (e : ℕ) → HoldsGrouping ks named t a e → a ≤ e → Dec (Goal t e))
    → Dec (Grouping_no_group_plan ks named a Goal)
grouping_no_group_decided size fuel searches ks long named a left Goal found =
    at_place a (
    found No_group a refl (omega arith))

abbrev Grouping_named_plan : List Kind → Named → ℕ → (Grouping → ℕ → Type 0) → Type 0
Grouping_named_plan ks named a Goal =
    (n : ℕ) × (n ≡ a)
    × ((may_name named (kind_at ks a) ≡ true)
    × ((b : ℕ) × (b ≡ a + 1)
    × (Goal (Named_of n) b)))

grouping_named_decided : (size fuel : ℕ) → Searches size fuel → (ks : List Kind) → length ks ≡ size → (named : Named) → (a : ℕ)
    → weight size a + 1 ≤ suc fuel
    → (Goal : Grouping → ℕ → Type 0)
    → ((t : Grouping) → (e : ℕ) → HoldsGrouping ks named t a e → a ≤ e → Dec (Goal t e))
    → Dec (Grouping_named_plan ks named a Goal)
grouping_named_decided size fuel searches ks long named a left Goal found =
    at_place a (
    and_then (dec_bool (may_name named (kind_at ks a)) true) (λ x1.
    at_place (a + 1) (
    found (Named_of a) (a + 1) (refl, x1, refl) (omega arith))))

abbrev Grouping_group_plan : List Kind → Named → ℕ → (Grouping → ℕ → Type 0) → Type 0
Grouping_group_plan ks named a Goal =
    (o : ℕ) × (o ≡ a)
    × ((kind_at ks a ≡ OpenParen)
    × ((d : Declaring) × (c : ℕ) × HoldsDeclaring ks (grouped named) d (a + 1) c
    × ((IsWritten d)
    × ((kind_at ks c ≡ CloseParen)
    × ((b : ℕ) × (b ≡ c + 1)
    × (Goal (Group_of o d c) b))))))

grouping_group_decided : (size fuel : ℕ) → Searches size fuel → (ks : List Kind) → length ks ≡ size → (named : Named) → (a : ℕ)
    → weight size a + 1 ≤ suc fuel
    → (Goal : Grouping → ℕ → Type 0)
    → ((t : Grouping) → (e : ℕ) → HoldsGrouping ks named t a e → a ≤ e → Dec (Goal t e))
    → Dec (Grouping_group_plan ks named a Goal)
grouping_group_decided size fuel searches ks long named a left Goal found =
    at_place a (
    and_then (dec_kind (kind_at ks a) OpenParen refl) (λ x1.
    searches.declaring ks long (grouped named) (a + 1) (next size fuel a (a + 1) 1 10 (inside_kind ks size a long OpenParen refl x1) (omega arith) (omega arith) left) _ (λ d c x2 w2.
    and_then (dec_written d) (λ x3.
    and_then (dec_kind (kind_at ks c) CloseParen refl) (λ x4.
    at_place (c + 1) (
    found (Group_of a d c) (c + 1) (refl, x1, x3, x2, x4, refl) (omega (arith, w2))))))))

no_grouping : (ks : List Kind) → (named : Named) → (a : ℕ) → (Goal : Grouping → ℕ → Type 0)
    → (Grouping_no_group_plan ks named a Goal → ⊥)
    → (Grouping_named_plan ks named a Goal → ⊥)
    → (Grouping_group_plan ks named a Goal → ⊥)
    → (t : Grouping) → (e : ℕ) → HoldsGrouping ks named t a e → Goal t e → ⊥
no_grouping ks named a Goal n0 n1 n2 No_group b h p0 = n0 (b, h, p0)
no_grouping ks named a Goal n0 n1 n2 (Named_of n) b h p0 = n1 (n, h.0, (h.1, (b, h.2, p0)))
no_grouping ks named a Goal n0 n1 n2 (Group_of o d c) b h p0 = n2 (o, h.0, (h.1, (d, c, h.3, (h.2, (h.4, (b, h.5, p0))))))

pub grouping : (size fuel : ℕ) → Searches size fuel → (ks : List Kind) → length ks ≡ size → (named : Named) → (a : ℕ)
    → weight size a + 1 ≤ suc fuel
    → Search Grouping (λ t e. HoldsGrouping ks named t a e) (λ t e. a ≤ e)
grouping size fuel searches ks long named a left Goal found =
    first (grouping_no_group_decided size fuel searches ks long named a left Goal found) (λ z. (No_group, z.0, z.1, z.2)) (λ n0.
    first (grouping_named_decided size fuel searches ks long named a left Goal found) (λ z. ((Named_of z.0), z.2.1.0, (z.1, z.2.0, z.2.1.1), z.2.1.2)) (λ n1.
    first (grouping_group_decided size fuel searches ks long named a left Goal found) (λ z. ((Group_of z.0 z.2.1.0 z.2.1.1), z.2.1.3.1.1.0, (z.1, z.2.0, z.2.1.3.0, z.2.1.2, z.2.1.3.1.0, z.2.1.3.1.1.1), z.2.1.3.1.1.2)) (λ n2.
    no (λ z. no_grouping ks named a Goal n0 n1 n2 z.0 z.1 z.2 z.3))))
