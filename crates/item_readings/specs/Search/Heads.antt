-- Searches for heads (ISO C11 6.7, 6.9).
use Rattle.std.proofs.Common.{◌≡◌, refl, ap, subst, ◌∙◌, ℕ, zero, suc, ◌+◌, ◌-◌, ◌<◌, ◌≤◌, arith, List, [], ◌∷◌, ◌++◌, length, not, Bool, true, false, Option, None, Some, if◌then◌else◌}
use Rattle.std.proofs.lemmas.List.{length-map}
use Rattle.tree_data.specs.Trees.{Declaring, Specifyings, Initial, Assertion, Heading, Declares_of, Asserts_of}
use Rattle.c_parser.specs.declared.kinds.Kind.{Kind}
use Rattle.c_parser.specs.declared.kinds.Kind.TheVariants.{Comma, OpenBrace, Semicolon, TypeName}
use Rattle.c_parser.specs.Declarators.{name_of}
use Rattle.c_parser.specs.Enumerations.{enumerates, settle, settle_on}
use Rattle.c_parser.specs.Grammar.{AreSome, spell_specifyings, spell_assertion}
use Rattle.c_parser.specs.Heads.{Leading, named, past, HoldsValue, HoldsOne, HoldOthers, freely, HoldAll, past_all, is_alone, Closes, leading_of, HoldsHead, past_head, spell_all}
use Rattle.c_parser.specs.Kinds.{kind_at, is_equals}
use Rattle.c_parser.specs.Parts.{HoldsDeclaration, is_declaration}
use Rattle.c_parser.specs.Reading.{HoldsInitial, HoldSpecifyings, HoldsAssertion}
use Rattle.c_parser.specs.Scopes.{shade}
use Rattle.c_parser.specs.Words.{Words, shown, shown_from, declared, declared_as, past_one, past_numbers}
use Rattle.item_readings.specs.Search.Deciding.{map_dec, and_then, first, dec_bool, dec_kind, dec_some}
use Rattle.item_readings.specs.Search.AllParts.{any_initial, any_specifyings, any_declarator, any_assertion}
use Rattle.item_readings.specs.Search.Searches.{Search, Within, inside_kind}

-- behind a declarator the tokens are as many
declared_kinds : (w : Words) → (typedef : Bool) → (k : Kind) → (declared_as w typedef k).kinds ≡ w.kinds
declared_kinds w typedef (TypeName n) = refl
declared_kinds w typedef _ = refl

named_kinds : (w : Words) → (typedef : Bool) → (o : Option ℕ) → (named w typedef o).kinds ≡ w.kinds
named_kinds w typedef None = refl
named_kinds w typedef (Some n) = declared_kinds w typedef (kind_at w.kinds n)

past_kinds : (w : Words) → (s : Leading) → (d : Declaring) → (past w s d).kinds ≡ w.kinds
past_kinds w s d = named_kinds w s.typedef (name_of d)

past_all_kinds : (w : Words) → (s : Leading) → (ds : List (Declaring × Option Initial)) → (past_all w s ds).kinds ≡ w.kinds
past_all_kinds w s [] = refl
past_all_kinds w s (p ∷ ps) = past_all_kinds (past w s p.0) s ps ∙ past_kinds w s p.0

one_kinds : (b : Bool) → (w v : Words) → v.kinds ≡ w.kinds → (if b then v else w).kinds ≡ w.kinds
one_kinds true w v e = e
one_kinds false w v e = refl

pub past_numbers_kinds : (w : Words) → (ns : List ℕ) → (past_numbers w ns).kinds ≡ w.kinds
past_numbers_kinds w [] = refl
past_numbers_kinds w (n ∷ ns) =
    past_numbers_kinds (past_one w n) ns
    ∙ one_kinds (enumerates w.kinds n) w (declared w false n) (declared_kinds w false (kind_at w.kinds n))

pub past_head_kinds : (w : Words) → (h : Heading) → (past_head w h).kinds ≡ w.kinds
past_head_kinds w (Declares_of ss ds body) =
    past_numbers_kinds (past_all w (leading_of (shown w) ss) ds) (spell_specifyings ss ++ spell_all ds)
    ∙ past_all_kinds w (leading_of (shown w) ss) ds
past_head_kinds w (Asserts_of x) = past_numbers_kinds w (spell_assertion x)

pub shown_long : (w : Words) → (size : ℕ) → length w.kinds ≡ size → length (shown w) ≡ size
shown_long w size long = length-map w.kinds (shade w.hidden) ∙ long

settled_length : (kinds : List Kind) → (from at : ℕ) → (ks : List Kind) → length (settle_on kinds from at ks) ≡ length ks
settled_length kinds from at [] = refl
settled_length kinds from at (k ∷ ks) = ap suc (settled_length kinds from (at + 1) ks)

-- for a part that begins at a place
from_length : (w : Words) → (from : ℕ) → length (shown_from w from) ≡ length w.kinds
unfolding settle
from_length w from = settled_length (shown w) from 0 (shown w) ∙ length-map w.kinds (shade w.hidden)

-- = initializer, or nothing
abbrev Value_plan : List Kind → ℕ → (Option Initial → ℕ → Type 0) → Type 0
Value_plan ks a Goal =
    (is_equals (kind_at ks a) ≡ true)
    × ((i : Initial) × (b : ℕ) × HoldsInitial ks i (a + 1) b × Goal (Some i) b)

value_decided : (ks : List Kind) → (a : ℕ) → (Goal : Option Initial → ℕ → Type 0)
    → ((t : Option Initial) → (e : ℕ) → HoldsValue ks t a e → a ≤ e → Dec (Goal t e)) → Dec (Value_plan ks a Goal)
value_decided ks a Goal found =
    and_then (dec_bool (is_equals (kind_at ks a)) true) (λ x0.
    any_initial ks (a + 1) _ (λ i b x1 w1. found (Some i) b (x0, x1) (omega (arith, w1.forth))))

no_value_found : (ks : List Kind) → (a : ℕ) → (Goal : Option Initial → ℕ → Type 0) → (Goal None a → ⊥) → (Value_plan ks a Goal → ⊥)
    → (t : Option Initial) → (e : ℕ) → HoldsValue ks t a e → Goal t e → ⊥
no_value_found ks a Goal n0 n1 None b h p0 = n0 (subst (λ x. Goal None x) h p0)
no_value_found ks a Goal n0 n1 (Some i) b h p0 = n1 (h.0, (i, b, h.1, p0))

value : (ks : List Kind) → (a : ℕ) → Search (Option Initial) (λ t e. HoldsValue ks t a e) (λ t e. a ≤ e)
value ks a Goal found =
    first (found None a refl (omega arith)) (λ p. (None, a, refl, p)) (λ n0.
    first (value_decided ks a Goal found) (λ z. (Some z.1.0, z.1.1, (z.0, z.1.2), z.1.3)) (λ n1.
    no (λ z. no_value_found ks a Goal n0 n1 z.0 z.1 z.2 z.3)))

-- a declarator, with its initializer
one : (w : Words) → (o : ℕ) → (s : Leading) → (a : ℕ)
    → Search (Declaring × Option Initial) (λ p e. HoldsOne w o s p.0 p.1 a e) (λ p e. Within (length (shown_from w o)) a e)
one w o s a Goal found =
    map_dec (λ z. ((z.0, z.3.0), z.3.1, (z.1, z.2, z.3.2), z.3.3)) (λ z. (z.0.0, z.2.0, z.2.1, (z.0.1, z.1, z.2.2, z.3)))
    (any_declarator (shown_from w o) (not s.typed) a
    (λ d m. (i : Option Initial) × (b : ℕ) × HoldsValue (shown_from (past w s d) o) i m b × Goal (d, i) b)
    (λ d m x w1. value (shown_from (past w s d) o) m (λ i b. Goal (d, i) b)
    (λ i b y w2. found (d, i) b (m, x, y) (record { forth = omega (arith, w1.forth, w2); inside = w1.inside }))))

-- those behind the first
abbrev Others_plan : Words → ℕ → Leading → ℕ → (List (Declaring × Option Initial) → ℕ → Type 0) → Type 0
Others_plan w o s a Goal =
    (kind_at w.kinds a ≡ Comma)
    × ((p : Declaring × Option Initial) × (m : ℕ) × HoldsOne w o s p.0 p.1 (a + 1) m
    × ((ps : List (Declaring × Option Initial)) × (b : ℕ) × HoldOthers (past w s p.0) o s ps m b × Goal (p ∷ ps) b))

no_others : (w : Words) → (o : ℕ) → (s : Leading) → (a : ℕ) → (Goal : List (Declaring × Option Initial) → ℕ → Type 0) → (Goal [] a → ⊥)
    → (Others_plan w o s a Goal → ⊥) → (t : List (Declaring × Option Initial)) → (e : ℕ) → HoldOthers w o s t a e → Goal t e → ⊥
no_others w o s a Goal n0 n1 [] b h p0 = n0 (subst (λ x. Goal [] x) h p0)
no_others w o s a Goal n0 n1 (p ∷ ps) b h p0 = n1 (h.1, (p, h.0, h.2, (ps, b, h.3, p0)))

others : (size fuel : ℕ) → (w : Words) → length w.kinds ≡ size → (o : ℕ) → (s : Leading) → (a : ℕ) → size - a < fuel
    → Search (List (Declaring × Option Initial)) (λ t e. HoldOthers w o s t a e) (λ t e. a ≤ e)
others size zero w long o s a left Goal found = absurd (omega (arith, left))
others size (suc fuel) w long o s a left Goal found =
    first (found [] a refl (omega arith)) (λ p. ([], a, refl, p)) (λ n0.
    first
    (and_then (dec_kind (kind_at w.kinds a) Comma refl) (λ x0.
    one w o s (a + 1)
    (λ p m. (ps : List (Declaring × Option Initial)) × (b : ℕ) × HoldOthers (past w s p.0) o s ps m b × Goal (p ∷ ps) b) (λ p m x1 w1.
    others size fuel (past w s p.0) (ap length (past_kinds w s p.0) ∙ long) o s m
    (omega (arith, left, w1.forth, inside_kind w.kinds size a long Comma refl x0)) (λ ps b. Goal (p ∷ ps) b) (λ ps b x2 w2.
    found (p ∷ ps) b (m, x0, x1, x2) (omega (arith, w1.forth, w2))))))
    (λ z. (z.1.0 ∷ z.1.3.0, z.1.3.1, (z.1.1, z.0, z.1.2, z.1.3.2), z.1.3.3)) (λ n1.
    no (λ z. no_others w o s a Goal n0 n1 z.0 z.1 z.2 z.3)))

abbrev All_plan : Words → ℕ → Leading → ℕ → (List (Declaring × Option Initial) → ℕ → Type 0) → Type 0
All_plan w o s a Goal =
    (p : Declaring × Option Initial) × (m : ℕ) × HoldsOne w o s p.0 p.1 a m
    × ((ps : List (Declaring × Option Initial)) × (b : ℕ) × HoldOthers (past w s p.0) o (freely s) ps m b × Goal (p ∷ ps) b)

no_all : (w : Words) → (o : ℕ) → (s : Leading) → (a : ℕ) → (Goal : List (Declaring × Option Initial) → ℕ → Type 0) → (Goal [] a → ⊥)
    → (All_plan w o s a Goal → ⊥) → (t : List (Declaring × Option Initial)) → (e : ℕ) → HoldAll w o s t a e → Goal t e → ⊥
no_all w o s a Goal n0 n1 [] b h p0 = n0 (subst (λ x. Goal [] x) h p0)
no_all w o s a Goal n0 n1 (p ∷ ps) b h p0 = n1 (p, h.0, h.1, (ps, b, h.2, p0))

-- all of them
every : (w : Words) → (o : ℕ) → (s : Leading) → (a : ℕ) → Search (List (Declaring × Option Initial)) (λ t e. HoldAll w o s t a e) (λ t e. a ≤ e)
every w o s a Goal found =
    first (found [] a refl (omega arith)) (λ p. ([], a, refl, p)) (λ n0.
    first
    (one w o s a
    (λ p m. (ps : List (Declaring × Option Initial)) × (b : ℕ) × HoldOthers (past w s p.0) o (freely s) ps m b × Goal (p ∷ ps) b) (λ p m x1 w1.
    others (length (past w s p.0).kinds) (length (past w s p.0).kinds + 1) (past w s p.0) refl o (freely s) m (omega arith) (λ ps b. Goal (p ∷ ps) b) (λ ps b x2 w2.
    found (p ∷ ps) b (m, x1, x2) (omega (arith, w1.forth, w2)))))
    (λ z. (z.0 ∷ z.3.0, z.3.1, (z.1, z.2, z.3.2), z.3.3)) (λ n1.
    no (λ z. no_all w o s a Goal n0 n1 z.0 z.1 z.2 z.3)))

-- what closes a head
dec_closes : (ks : List Kind) → (ds : List (Declaring × Option Initial)) → (body : Bool) → (n : ℕ) → Dec (Closes ks ds body n)
dec_closes ks ds false n = dec_kind (kind_at ks n) Semicolon refl
dec_closes ks ds true n = and_then (dec_kind (kind_at ks n) OpenBrace refl) (λ x. dec_bool (is_alone ds) true)

neither : (Q : Bool → Type 0) → (Q false → ⊥) → (Q true → ⊥) → (x : Bool) → Q x → ⊥
neither Q n0 n1 false q = n0 q
neither Q n0 n1 true q = n1 q

either : {Q : Bool → Type 0} → Dec (Q false) → Dec (Q true) → Dec ((x : Bool) × Q x)
either (yes p) d = yes (false, p)
either (no n) (yes p) = yes (true, p)
either {Q = Q} (no n) (no m) = no (λ z. neither Q n m z.0 z.1)

abbrev Declares_plan : Words → ℕ → (Heading → ℕ → Type 0) → Type 0
Declares_plan w a Goal =
    (ss : Specifyings) × (m : ℕ) × HoldSpecifyings (shown_from w a) false ss a m
    × ((AreSome ss)
    × ((ds : List (Declaring × Option Initial)) × (n : ℕ) × HoldAll w a (leading_of (shown w) ss) ds m n
    × ((body : Bool) × (Closes w.kinds ds body n × Goal (Declares_of ss ds body) (n + 1)))))

closed : (w : Words) → (a : ℕ) → (Goal : Heading → ℕ → Type 0)
    → ((t : Heading) → (e : ℕ) → HoldsHead w t a e → Within (length w.kinds) a e → Dec (Goal t e))
    → (ss : Specifyings) → (m : ℕ) → HoldSpecifyings (shown_from w a) false ss a m → AreSome ss → Within (length (shown_from w a)) a m
    → (ds : List (Declaring × Option Initial)) → (n : ℕ) → HoldAll w a (leading_of (shown w) ss) ds m n → m ≤ n → (body : Bool)
    → Dec (Closes w.kinds ds body n × Goal (Declares_of ss ds body) (n + 1))
closed w a Goal found ss m x some u ds n y le body =
    and_then (dec_closes w.kinds ds body n) (λ c.
    found (Declares_of ss ds body) (n + 1) (m, n, some, x, y, c, refl)
    (record { forth = omega (arith, u.forth, le); inside = subst (λ i. a < i) (from_length w a) u.inside }))

declares_decided : (w : Words) → (a : ℕ) → (Goal : Heading → ℕ → Type 0)
    → ((t : Heading) → (e : ℕ) → HoldsHead w t a e → Within (length w.kinds) a e → Dec (Goal t e)) → Dec (Declares_plan w a Goal)
declares_decided w a Goal found =
    any_specifyings (shown_from w a) false a _ (λ ss m x0 w0.
    and_then (dec_some ss) (λ x1.
    every w a (leading_of (shown w) ss) m _ (λ ds n x2 w2.
    either (closed w a Goal found ss m x0 x1 (w0.1 x1) ds n x2 w2 false) (closed w a Goal found ss m x0 x1 (w0.1 x1) ds n x2 w2 true))))

abbrev Asserts_plan : Words → ℕ → (Heading → ℕ → Type 0) → Type 0
Asserts_plan w a Goal = (x : Assertion) × (b : ℕ) × HoldsAssertion (shown_from w a) x a b × Goal (Asserts_of x) b

asserts_decided : (w : Words) → (a : ℕ) → (Goal : Heading → ℕ → Type 0)
    → ((t : Heading) → (e : ℕ) → HoldsHead w t a e → Within (length w.kinds) a e → Dec (Goal t e)) → Dec (Asserts_plan w a Goal)
asserts_decided w a Goal found =
    any_assertion (shown_from w a) a _ (λ x b y u.
    found (Asserts_of x) b y (record { forth = u.forth; inside = subst (λ i. a < i) (from_length w a) u.inside }))

no_head_found : (w : Words) → (a : ℕ) → (Goal : Heading → ℕ → Type 0) → (Declares_plan w a Goal → ⊥) → (Asserts_plan w a Goal → ⊥)
    → (t : Heading) → (e : ℕ) → HoldsHead w t a e → Goal t e → ⊥
no_head_found w a Goal n0 n1 (Declares_of ss ds body) b h p0 =
    n0 (ss, h.0, h.3, (h.2, (ds, h.1, h.4, (body, (h.5, subst (λ x. Goal (Declares_of ss ds body) x) h.6 p0)))))
no_head_found w a Goal n0 n1 (Asserts_of x) b h p0 = n1 (x, b, h, p0)

pub any_head : (w : Words) → (a : ℕ) → Search Heading (λ t e. HoldsHead w t a e) (λ t e. Within (length w.kinds) a e)
any_head w a Goal found =
    first (declares_decided w a Goal found)
    (λ z. (Declares_of z.0 z.3.1.0 z.3.1.3.0, z.3.1.1 + 1, (z.1, z.3.1.1, z.3.0, z.2, z.3.1.2, z.3.1.3.1.0, refl), z.3.1.3.1.1)) (λ n0.
    first (asserts_decided w a Goal found) (λ z. (Asserts_of z.0, z.1, z.2, z.3)) (λ n1.
    no (λ z. no_head_found w a Goal n0 n1 z.0 z.1 z.2 z.3)))

pub any_declaration : (w : Words) → (a : ℕ) → Search Heading (λ t e. HoldsDeclaration w t a e) (λ t e. Within (length w.kinds) a e)
any_declaration w a Goal found =
    map_dec (λ z. (z.0, z.1, (z.3.0, z.2), z.3.1)) (λ z. (z.0, z.1, z.2.1, (z.2.0, z.3)))
    (any_head w a (λ d e. (is_declaration d ≡ true) × Goal d e) (λ d e x u.
    and_then (dec_bool (is_declaration d) true) (λ y. found d e (y, x) u)))
