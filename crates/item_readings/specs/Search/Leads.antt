-- What stands in front of a statement (ISO C11 6.8).
use Rattle.std.proofs.Common.{◌≡◌, refl, ℕ, suc, ◌+◌, ◌≤◌, arith, length, true, Option}
use Rattle.tree_data.specs.Trees.{Tree, Heading}
use Rattle.tree_data.specs.Statements.{Statement, Lead, Label_of, Case_of, Default_label_of, If_of, If_else_of, Switch_of, While_of, For_of, For_declaring_of, Leads, No_leads, Lead_then, is_closed}
use Rattle.c_parser.specs.declared.kinds.Kind.TheVariants.{Case, CloseParen, Colon, Default, Else, For, If, OpenParen, Semicolon, Switch, While}
use Rattle.c_parser.specs.Kinds.{is_word}
use Rattle.c_parser.specs.Parts.{HoldsDeclaration, past_tree, past_declaration}
use Rattle.c_parser.specs.Reading.{Reads}
use Rattle.c_parser.specs.Words.{Words, shown, shown_from, kind_in}
use Rattle.stmt_parser.specs.InForce.{past_optional, inside}
use Rattle.stmt_parser.specs.Reading.{HoldsOptional, HoldsTest, HoldsStatement, HoldsLead, HoldLeads}
use Rattle.item_readings.specs.Search.Deciding.{and_then, at_place, first, dec_bool, dec_kind}
use Rattle.item_readings.specs.Search.AllParts.{any_tree}
use Rattle.item_readings.specs.Search.Heads.{shown_long, any_declaration}
use Rattle.item_readings.specs.Search.Searches.{Search, Within, weight, next, stays, inside_kind, inside_test}
use Rattle.item_readings.specs.Search.StatementSearches.{past_tree_long, inside_long, optional, Tested, tested, Searches}

abbrev Lead_label_plan : Words → ℕ → (Lead → ℕ → Type 0) → Type 0
Lead_label_plan w a Goal =
    (n : ℕ) × (n ≡ a)
    × ((is_word (kind_in w a) ≡ true)
    × ((c : ℕ) × (c ≡ a + 1)
    × ((kind_in w c ≡ Colon)
    × ((b : ℕ) × (b ≡ c + 1)
    × (Goal (Label_of n c) b)))))

lead_label_decided : (size fuel : ℕ) → Searches size fuel → (w : Words) → length w.kinds ≡ size → (a : ℕ) → weight size a + 1 ≤ suc fuel
    → (Goal : Lead → ℕ → Type 0)
    → ((t : Lead) → (e : ℕ) → HoldsLead w t a e → Within size a e → Dec (Goal t e)) → Dec (Lead_label_plan w a Goal)
lead_label_decided size fuel searches w long a left Goal found =
    at_place a (
    and_then (dec_bool (is_word (kind_in w a)) true) (λ x1.
    at_place (a + 1) (
    and_then (dec_kind (kind_in w (a + 1)) Colon refl) (λ x3.
    at_place ((a + 1) + 1) (
    found (Label_of a (a + 1)) ((a + 1) + 1) (refl, x1, refl, x3, refl) (record { forth = omega arith; inside = (inside_test (shown w) size a (shown_long w size long) is_word refl x1) }))))))

abbrev Lead_case_plan : Words → ℕ → (Lead → ℕ → Type 0) → Type 0
Lead_case_plan w a Goal =
    (k : ℕ) × (k ≡ a)
    × ((kind_in w a ≡ Case)
    × ((t : Tree) × (c : ℕ) × Reads (shown_from w (a + 1)) 3 t (a + 1) c
    × ((kind_in w c ≡ Colon)
    × ((b : ℕ) × (b ≡ c + 1)
    × (Goal (Case_of k t c) b)))))

lead_case_decided : (size fuel : ℕ) → Searches size fuel → (w : Words) → length w.kinds ≡ size → (a : ℕ) → weight size a + 1 ≤ suc fuel
    → (Goal : Lead → ℕ → Type 0)
    → ((t : Lead) → (e : ℕ) → HoldsLead w t a e → Within size a e → Dec (Goal t e)) → Dec (Lead_case_plan w a Goal)
lead_case_decided size fuel searches w long a left Goal found =
    at_place a (
    and_then (dec_kind (kind_in w a) Case refl) (λ x1.
    any_tree (shown_from w (a + 1)) 3 (a + 1) _ (λ t c x2 u2.
    and_then (dec_kind (kind_in w c) Colon refl) (λ x3.
    at_place (c + 1) (
    found (Case_of a t c) (c + 1) (refl, x1, x2, x3, refl) (record { forth = omega (arith, u2.forth); inside = (inside_kind (shown w) size a (shown_long w size long) Case refl x1) }))))))

abbrev Lead_default_label_plan : Words → ℕ → (Lead → ℕ → Type 0) → Type 0
Lead_default_label_plan w a Goal =
    (k : ℕ) × (k ≡ a)
    × ((kind_in w a ≡ Default)
    × ((c : ℕ) × (c ≡ a + 1)
    × ((kind_in w c ≡ Colon)
    × ((b : ℕ) × (b ≡ c + 1)
    × (Goal (Default_label_of k c) b)))))

lead_default_label_decided : (size fuel : ℕ) → Searches size fuel → (w : Words) → length w.kinds ≡ size → (a : ℕ) → weight size a + 1 ≤ suc fuel
    → (Goal : Lead → ℕ → Type 0)
    → ((t : Lead) → (e : ℕ) → HoldsLead w t a e → Within size a e → Dec (Goal t e)) → Dec (Lead_default_label_plan w a Goal)
lead_default_label_decided size fuel searches w long a left Goal found =
    at_place a (
    and_then (dec_kind (kind_in w a) Default refl) (λ x1.
    at_place (a + 1) (
    and_then (dec_kind (kind_in w (a + 1)) Colon refl) (λ x3.
    at_place ((a + 1) + 1) (
    found (Default_label_of a (a + 1)) ((a + 1) + 1) (refl, x1, refl, x3, refl) (record { forth = omega arith; inside = (inside_kind (shown w) size a (shown_long w size long) Default refl x1) }))))))

abbrev Lead_if_plan : Words → ℕ → (Lead → ℕ → Type 0) → Type 0
Lead_if_plan w a Goal =
    (k : ℕ) × (k ≡ a)
    × ((kind_in w a ≡ If)
    × ((q : Tested) × (b : ℕ) × HoldsTest w q.0 q.1 q.2 (a + 1) b
    × (Goal (If_of k q.0 q.1 q.2) b)))

lead_if_decided : (size fuel : ℕ) → Searches size fuel → (w : Words) → length w.kinds ≡ size → (a : ℕ) → weight size a + 1 ≤ suc fuel
    → (Goal : Lead → ℕ → Type 0)
    → ((t : Lead) → (e : ℕ) → HoldsLead w t a e → Within size a e → Dec (Goal t e)) → Dec (Lead_if_plan w a Goal)
lead_if_decided size fuel searches w long a left Goal found =
    at_place a (
    and_then (dec_kind (kind_in w a) If refl) (λ x1.
    tested w (a + 1) _ (λ q b x2 u2.
    found (If_of a q.0 q.1 q.2) b (refl, x1, x2) (record { forth = omega (arith, u2); inside = (inside_kind (shown w) size a (shown_long w size long) If refl x1) }))))

abbrev Lead_if_else_plan : Words → ℕ → (Lead → ℕ → Type 0) → Type 0
Lead_if_else_plan w a Goal =
    (k : ℕ) × (k ≡ a)
    × ((kind_in w a ≡ If)
    × ((q : Tested) × (m : ℕ) × HoldsTest w q.0 q.1 q.2 (a + 1) m
    × ((s : Statement) × (e : ℕ) × HoldsStatement (past_tree w q.1) s m e
    × ((is_closed s ≡ true)
    × ((kind_in w e ≡ Else)
    × ((b : ℕ) × (b ≡ e + 1)
    × (Goal (If_else_of k q.0 q.1 q.2 s e) b)))))))

lead_if_else_decided : (size fuel : ℕ) → Searches size fuel → (w : Words) → length w.kinds ≡ size → (a : ℕ) → weight size a + 1 ≤ suc fuel
    → (Goal : Lead → ℕ → Type 0)
    → ((t : Lead) → (e : ℕ) → HoldsLead w t a e → Within size a e → Dec (Goal t e)) → Dec (Lead_if_else_plan w a Goal)
lead_if_else_decided size fuel searches w long a left Goal found =
    at_place a (
    and_then (dec_kind (kind_in w a) If refl) (λ x1.
    tested w (a + 1) _ (λ q m x2 u2.
    searches.statement (past_tree w q.1) (past_tree_long w size q.1 long) m (next size fuel a m 1 4 (inside_kind (shown w) size a (shown_long w size long) If refl x1) (omega (arith, u2)) (omega arith) left) _ (λ s e x3 u3.
    and_then (dec_bool (is_closed s) true) (λ x4.
    and_then (dec_kind (kind_in w e) Else refl) (λ x5.
    at_place (e + 1) (
    found (If_else_of a q.0 q.1 q.2 s e) (e + 1) (m, refl, x1, x2, x3, x4, x5, refl) (record { forth = omega (arith, u2, u3.forth); inside = (inside_kind (shown w) size a (shown_long w size long) If refl x1) }))))))))

abbrev Lead_switch_plan : Words → ℕ → (Lead → ℕ → Type 0) → Type 0
Lead_switch_plan w a Goal =
    (k : ℕ) × (k ≡ a)
    × ((kind_in w a ≡ Switch)
    × ((q : Tested) × (b : ℕ) × HoldsTest w q.0 q.1 q.2 (a + 1) b
    × (Goal (Switch_of k q.0 q.1 q.2) b)))

lead_switch_decided : (size fuel : ℕ) → Searches size fuel → (w : Words) → length w.kinds ≡ size → (a : ℕ) → weight size a + 1 ≤ suc fuel
    → (Goal : Lead → ℕ → Type 0)
    → ((t : Lead) → (e : ℕ) → HoldsLead w t a e → Within size a e → Dec (Goal t e)) → Dec (Lead_switch_plan w a Goal)
lead_switch_decided size fuel searches w long a left Goal found =
    at_place a (
    and_then (dec_kind (kind_in w a) Switch refl) (λ x1.
    tested w (a + 1) _ (λ q b x2 u2.
    found (Switch_of a q.0 q.1 q.2) b (refl, x1, x2) (record { forth = omega (arith, u2); inside = (inside_kind (shown w) size a (shown_long w size long) Switch refl x1) }))))

abbrev Lead_while_plan : Words → ℕ → (Lead → ℕ → Type 0) → Type 0
Lead_while_plan w a Goal =
    (k : ℕ) × (k ≡ a)
    × ((kind_in w a ≡ While)
    × ((q : Tested) × (b : ℕ) × HoldsTest w q.0 q.1 q.2 (a + 1) b
    × (Goal (While_of k q.0 q.1 q.2) b)))

lead_while_decided : (size fuel : ℕ) → Searches size fuel → (w : Words) → length w.kinds ≡ size → (a : ℕ) → weight size a + 1 ≤ suc fuel
    → (Goal : Lead → ℕ → Type 0)
    → ((t : Lead) → (e : ℕ) → HoldsLead w t a e → Within size a e → Dec (Goal t e)) → Dec (Lead_while_plan w a Goal)
lead_while_decided size fuel searches w long a left Goal found =
    at_place a (
    and_then (dec_kind (kind_in w a) While refl) (λ x1.
    tested w (a + 1) _ (λ q b x2 u2.
    found (While_of a q.0 q.1 q.2) b (refl, x1, x2) (record { forth = omega (arith, u2); inside = (inside_kind (shown w) size a (shown_long w size long) While refl x1) }))))

abbrev Lead_for_plan : Words → ℕ → (Lead → ℕ → Type 0) → Type 0
Lead_for_plan w a Goal =
    (k : ℕ) × (k ≡ a)
    × ((kind_in w a ≡ For)
    × ((o : ℕ) × (o ≡ a + 1)
    × ((kind_in w o ≡ OpenParen)
    × ((x : Option Tree) × (m : ℕ) × HoldsOptional w x (o + 1) m
    × ((kind_in w m ≡ Semicolon)
    × ((y : Option Tree) × (n : ℕ) × HoldsOptional (past_optional w x) y (m + 1) n
    × ((kind_in w n ≡ Semicolon)
    × ((z : Option Tree) × (c : ℕ) × HoldsOptional (past_optional (past_optional w x) y) z (n + 1) c
    × ((kind_in w c ≡ CloseParen)
    × ((b : ℕ) × (b ≡ c + 1)
    × (Goal (For_of k o x m y n z c) b)))))))))))

lead_for_decided : (size fuel : ℕ) → Searches size fuel → (w : Words) → length w.kinds ≡ size → (a : ℕ) → weight size a + 1 ≤ suc fuel
    → (Goal : Lead → ℕ → Type 0)
    → ((t : Lead) → (e : ℕ) → HoldsLead w t a e → Within size a e → Dec (Goal t e)) → Dec (Lead_for_plan w a Goal)
lead_for_decided size fuel searches w long a left Goal found =
    at_place a (
    and_then (dec_kind (kind_in w a) For refl) (λ x1.
    at_place (a + 1) (
    and_then (dec_kind (kind_in w (a + 1)) OpenParen refl) (λ x3.
    optional w ((a + 1) + 1) _ (λ x m x4 u4.
    and_then (dec_kind (kind_in w m) Semicolon refl) (λ x5.
    optional (past_optional w x) (m + 1) _ (λ y n x6 u6.
    and_then (dec_kind (kind_in w n) Semicolon refl) (λ x7.
    optional (past_optional (past_optional w x) y) (n + 1) _ (λ z c x8 u8.
    and_then (dec_kind (kind_in w c) CloseParen refl) (λ x9.
    at_place (c + 1) (
    found (For_of a (a + 1) x m y n z c) (c + 1) (refl, x1, refl, x3, x4, x5, x6, x7, x8, x9, refl) (record { forth = omega (arith, u4, u6, u8); inside = (inside_kind (shown w) size a (shown_long w size long) For refl x1) }))))))))))))

abbrev Lead_for_declaring_plan : Words → ℕ → (Lead → ℕ → Type 0) → Type 0
Lead_for_declaring_plan w a Goal =
    (k : ℕ) × (k ≡ a)
    × ((kind_in w a ≡ For)
    × ((o : ℕ) × (o ≡ a + 1)
    × ((kind_in w o ≡ OpenParen)
    × ((d : Heading) × (m : ℕ) × HoldsDeclaration w d (o + 1) m
    × ((y : Option Tree) × (n : ℕ) × HoldsOptional (past_declaration w d) y m n
    × ((kind_in w n ≡ Semicolon)
    × ((z : Option Tree) × (c : ℕ) × HoldsOptional (past_optional (past_declaration w d) y) z (n + 1) c
    × ((kind_in w c ≡ CloseParen)
    × ((b : ℕ) × (b ≡ c + 1)
    × (Goal (For_declaring_of k o d y n z c) b))))))))))

lead_for_declaring_decided : (size fuel : ℕ) → Searches size fuel → (w : Words) → length w.kinds ≡ size → (a : ℕ) → weight size a + 1 ≤ suc fuel
    → (Goal : Lead → ℕ → Type 0)
    → ((t : Lead) → (e : ℕ) → HoldsLead w t a e → Within size a e → Dec (Goal t e)) → Dec (Lead_for_declaring_plan w a Goal)
lead_for_declaring_decided size fuel searches w long a left Goal found =
    at_place a (
    and_then (dec_kind (kind_in w a) For refl) (λ x1.
    at_place (a + 1) (
    and_then (dec_kind (kind_in w (a + 1)) OpenParen refl) (λ x3.
    any_declaration w ((a + 1) + 1) _ (λ d m x4 u4.
    optional (past_declaration w d) m _ (λ y n x5 u5.
    and_then (dec_kind (kind_in w n) Semicolon refl) (λ x6.
    optional (past_optional (past_declaration w d) y) (n + 1) _ (λ z c x7 u7.
    and_then (dec_kind (kind_in w c) CloseParen refl) (λ x8.
    at_place (c + 1) (
    found (For_declaring_of a (a + 1) d y n z c) (c + 1) (m, refl, x1, refl, x3, x4, x5, x6, x7, x8, refl) (record { forth = omega (arith, u4.forth, u5, u7); inside = (inside_kind (shown w) size a (shown_long w size long) For refl x1) })))))))))))

no_lead : (w : Words) → (a : ℕ) → (Goal : Lead → ℕ → Type 0)
    → (Lead_label_plan w a Goal → ⊥)
    → (Lead_case_plan w a Goal → ⊥)
    → (Lead_default_label_plan w a Goal → ⊥)
    → (Lead_if_plan w a Goal → ⊥)
    → (Lead_if_else_plan w a Goal → ⊥)
    → (Lead_switch_plan w a Goal → ⊥)
    → (Lead_while_plan w a Goal → ⊥)
    → (Lead_for_plan w a Goal → ⊥)
    → (Lead_for_declaring_plan w a Goal → ⊥)
    → (t : Lead) → (e : ℕ) → HoldsLead w t a e → Goal t e → ⊥
no_lead w a Goal n0 n1 n2 n3 n4 n5 n6 n7 n8 (Label_of n c) b h p0 = n0 (n, h.0, (h.1, (c, h.2, (h.3, (b, h.4, p0)))))
no_lead w a Goal n0 n1 n2 n3 n4 n5 n6 n7 n8 (Case_of k t c) b h p0 = n1 (k, h.0, (h.1, (t, c, h.2, (h.3, (b, h.4, p0)))))
no_lead w a Goal n0 n1 n2 n3 n4 n5 n6 n7 n8 (Default_label_of k c) b h p0 = n2 (k, h.0, (h.1, (c, h.2, (h.3, (b, h.4, p0)))))
no_lead w a Goal n0 n1 n2 n3 n4 n5 n6 n7 n8 (If_of k o t c) b h p0 = n3 (k, h.0, (h.1, ((o, t, c), b, h.2, p0)))
no_lead w a Goal n0 n1 n2 n3 n4 n5 n6 n7 n8 (If_else_of k o t c s e) b h p0 = n4 (k, h.1, (h.2, ((o, t, c), h.0, h.3, (s, e, h.4, (h.5, (h.6, (b, h.7, p0)))))))
no_lead w a Goal n0 n1 n2 n3 n4 n5 n6 n7 n8 (Switch_of k o t c) b h p0 = n5 (k, h.0, (h.1, ((o, t, c), b, h.2, p0)))
no_lead w a Goal n0 n1 n2 n3 n4 n5 n6 n7 n8 (While_of k o t c) b h p0 = n6 (k, h.0, (h.1, ((o, t, c), b, h.2, p0)))
no_lead w a Goal n0 n1 n2 n3 n4 n5 n6 n7 n8 (For_of k o x m y n z c) b h p0 = n7 (k, h.0, (h.1, (o, h.2, (h.3, (x, m, h.4, (h.5, (y, n, h.6, (h.7, (z, c, h.8, (h.9, (b, h.10, p0)))))))))))
no_lead w a Goal n0 n1 n2 n3 n4 n5 n6 n7 n8 (For_declaring_of k o d y n z c) b h p0 = n8 (k, h.1, (h.2, (o, h.3, (h.4, (d, h.0, h.5, (y, n, h.6, (h.7, (z, c, h.8, (h.9, (b, h.10, p0))))))))))

pub lead : (size fuel : ℕ) → Searches size fuel → (w : Words) → length w.kinds ≡ size → (a : ℕ) → weight size a + 1 ≤ suc fuel
    → Search Lead (λ t e. HoldsLead w t a e) (λ t e. Within size a e)
lead size fuel searches w long a left Goal found =
    first (lead_label_decided size fuel searches w long a left Goal found) (λ z. ((Label_of z.0 z.2.1.0), z.2.1.2.1.0, (z.1, z.2.0, z.2.1.1, z.2.1.2.0, z.2.1.2.1.1), z.2.1.2.1.2)) (λ n0.
    first (lead_case_decided size fuel searches w long a left Goal found) (λ z. ((Case_of z.0 z.2.1.0 z.2.1.1), z.2.1.3.1.0, (z.1, z.2.0, z.2.1.2, z.2.1.3.0, z.2.1.3.1.1), z.2.1.3.1.2)) (λ n1.
    first (lead_default_label_decided size fuel searches w long a left Goal found) (λ z. ((Default_label_of z.0 z.2.1.0), z.2.1.2.1.0, (z.1, z.2.0, z.2.1.1, z.2.1.2.0, z.2.1.2.1.1), z.2.1.2.1.2)) (λ n2.
    first (lead_if_decided size fuel searches w long a left Goal found) (λ z. ((If_of z.0 z.2.1.0.0 z.2.1.0.1 z.2.1.0.2), z.2.1.1, (z.1, z.2.0, z.2.1.2), z.2.1.3)) (λ n3.
    first (lead_if_else_decided size fuel searches w long a left Goal found) (λ z. ((If_else_of z.0 z.2.1.0.0 z.2.1.0.1 z.2.1.0.2 z.2.1.3.0 z.2.1.3.1), z.2.1.3.3.1.1.0, (z.2.1.1, z.1, z.2.0, z.2.1.2, z.2.1.3.2, z.2.1.3.3.0, z.2.1.3.3.1.0, z.2.1.3.3.1.1.1), z.2.1.3.3.1.1.2)) (λ n4.
    first (lead_switch_decided size fuel searches w long a left Goal found) (λ z. ((Switch_of z.0 z.2.1.0.0 z.2.1.0.1 z.2.1.0.2), z.2.1.1, (z.1, z.2.0, z.2.1.2), z.2.1.3)) (λ n5.
    first (lead_while_decided size fuel searches w long a left Goal found) (λ z. ((While_of z.0 z.2.1.0.0 z.2.1.0.1 z.2.1.0.2), z.2.1.1, (z.1, z.2.0, z.2.1.2), z.2.1.3)) (λ n6.
    first (lead_for_decided size fuel searches w long a left Goal found) (λ z. ((For_of z.0 z.2.1.0 z.2.1.2.1.0 z.2.1.2.1.1 z.2.1.2.1.3.1.0 z.2.1.2.1.3.1.1 z.2.1.2.1.3.1.3.1.0 z.2.1.2.1.3.1.3.1.1), z.2.1.2.1.3.1.3.1.3.1.0, (z.1, z.2.0, z.2.1.1, z.2.1.2.0, z.2.1.2.1.2, z.2.1.2.1.3.0, z.2.1.2.1.3.1.2, z.2.1.2.1.3.1.3.0, z.2.1.2.1.3.1.3.1.2, z.2.1.2.1.3.1.3.1.3.0, z.2.1.2.1.3.1.3.1.3.1.1), z.2.1.2.1.3.1.3.1.3.1.2)) (λ n7.
    first (lead_for_declaring_decided size fuel searches w long a left Goal found) (λ z. ((For_declaring_of z.0 z.2.1.0 z.2.1.2.1.0 z.2.1.2.1.3.0 z.2.1.2.1.3.1 z.2.1.2.1.3.3.1.0 z.2.1.2.1.3.3.1.1), z.2.1.2.1.3.3.1.3.1.0, (z.2.1.2.1.1, z.1, z.2.0, z.2.1.1, z.2.1.2.0, z.2.1.2.1.2, z.2.1.2.1.3.2, z.2.1.2.1.3.3.0, z.2.1.2.1.3.3.1.2, z.2.1.2.1.3.3.1.3.0, z.2.1.2.1.3.3.1.3.1.1), z.2.1.2.1.3.3.1.3.1.2)) (λ n8.
    no (λ z. no_lead w a Goal n0 n1 n2 n3 n4 n5 n6 n7 n8 z.0 z.1 z.2 z.3))))))))))

abbrev Leads_no_leads_plan : Words → ℕ → (Leads → ℕ → Type 0) → Type 0
Leads_no_leads_plan w a Goal =
    (b : ℕ) × (b ≡ a)
    × (Goal No_leads b)

leads_no_leads_decided : (size fuel : ℕ) → Searches size fuel → (w : Words) → length w.kinds ≡ size → (a : ℕ) → weight size a + 2 ≤ suc fuel
    → (Goal : Leads → ℕ → Type 0)
    → ((t : Leads) → (e : ℕ) → HoldLeads w t a e → a ≤ e → Dec (Goal t e)) → Dec (Leads_no_leads_plan w a Goal)
leads_no_leads_decided size fuel searches w long a left Goal found =
    at_place a (
    found No_leads a refl (omega arith))

abbrev Leads_lead_then_plan : Words → ℕ → (Leads → ℕ → Type 0) → Type 0
Leads_lead_then_plan w a Goal =
    (l : Lead) × (m : ℕ) × HoldsLead w l a m
    × ((ls : Leads) × (b : ℕ) × HoldLeads (inside w l) ls m b
    × (Goal (Lead_then l ls) b))

leads_lead_then_decided : (size fuel : ℕ) → Searches size fuel → (w : Words) → length w.kinds ≡ size → (a : ℕ) → weight size a + 2 ≤ suc fuel
    → (Goal : Leads → ℕ → Type 0)
    → ((t : Leads) → (e : ℕ) → HoldLeads w t a e → a ≤ e → Dec (Goal t e)) → Dec (Leads_lead_then_plan w a Goal)
leads_lead_then_decided size fuel searches w long a left Goal found =
    searches.lead w long a (stays size fuel a a 2 1 (omega arith) (omega arith) left) _ (λ l m x0 u0.
    searches.leads (inside w l) (inside_long w size l long) m (next size fuel a m 2 2 u0.inside (omega (arith, u0.forth)) (omega arith) left) _ (λ ls b x1 u1.
    found (Lead_then l ls) b (m, x0, x1) (omega (arith, u0.forth, u1))))

no_leads : (w : Words) → (a : ℕ) → (Goal : Leads → ℕ → Type 0)
    → (Leads_no_leads_plan w a Goal → ⊥)
    → (Leads_lead_then_plan w a Goal → ⊥)
    → (t : Leads) → (e : ℕ) → HoldLeads w t a e → Goal t e → ⊥
no_leads w a Goal n0 n1 No_leads b h p0 = n0 (b, h, p0)
no_leads w a Goal n0 n1 (Lead_then l ls) b h p0 = n1 (l, h.0, h.1, (ls, b, h.2, p0))

pub leads : (size fuel : ℕ) → Searches size fuel → (w : Words) → length w.kinds ≡ size → (a : ℕ) → weight size a + 2 ≤ suc fuel
    → Search Leads (λ t e. HoldLeads w t a e) (λ t e. a ≤ e)
leads size fuel searches w long a left Goal found =
    first (leads_no_leads_decided size fuel searches w long a left Goal found) (λ z. (No_leads, z.0, z.1, z.2)) (λ n0.
    first (leads_lead_then_decided size fuel searches w long a left Goal found) (λ z. ((Lead_then z.0 z.3.0), z.3.1, (z.1, z.2, z.3.2), z.3.3)) (λ n1.
    no (λ z. no_leads w a Goal n0 n1 z.0 z.1 z.2 z.3)))
