-- Statements and the items of blocks (ISO C11 6.8).
use Rattle.std.proofs.Common.{◌≡◌, refl, subst, ℕ, suc, ◌+◌, ◌<◌, ◌≤◌, arith, length, true, Option}
use Rattle.tree_data.specs.Trees.{Tree, Heading}
use Rattle.tree_data.specs.Statements.{Statement, Statement_of, Core, Block_of, Expression_of, Goto_of, Continue_of, Break_of, Return_of, Do_of, Leads, Item, Declared_of, Stated_of, Items, No_items, Item_then}
use Rattle.c_parser.specs.declared.kinds.Kind.TheVariants.{Break, CloseBrace, Continue, Do, Goto, OpenBrace, Return, Semicolon, While}
use Rattle.c_parser.specs.Kinds.{is_word}
use Rattle.c_parser.specs.Parts.{HoldsDeclaration}
use Rattle.c_parser.specs.Words.{Words, shown, kind_in}
use Rattle.stmt_parser.specs.InForce.{inside, all_inside, past_item}
use Rattle.stmt_parser.specs.Reading.{HoldsOptional, HoldsTest, HoldsStatement, HoldsCore, HoldLeads, HoldsItem, HoldItems}
use Rattle.item_readings.specs.Search.Deciding.{and_then, at_place, first, dec_bool, dec_kind}
use Rattle.item_readings.specs.Search.Heads.{shown_long, any_declaration}
use Rattle.item_readings.specs.Search.Searches.{Search, Within, weight, next, stays, before, inside_kind}
use Rattle.item_readings.specs.Search.StatementSearches.{all_inside_long, past_item_long, optional, Tested, tested, Searches}

abbrev Core_block_plan : Words → ℕ → (Core → ℕ → Type 0) → Type 0
Core_block_plan w a Goal =
    (o : ℕ) × (o ≡ a)
    × ((kind_in w a ≡ OpenBrace)
    × ((is : Items) × (c : ℕ) × HoldItems w is (a + 1) c
    × ((kind_in w c ≡ CloseBrace)
    × ((b : ℕ) × (b ≡ c + 1)
    × (Goal (Block_of o is c) b)))))

core_block_decided : (size fuel : ℕ) → Searches size fuel → (w : Words) → length w.kinds ≡ size → (a : ℕ) → weight size a + 1 ≤ suc fuel
    → (Goal : Core → ℕ → Type 0)
    → ((t : Core) → (e : ℕ) → HoldsCore w t a e → Within size a e → Dec (Goal t e)) → Dec (Core_block_plan w a Goal)
core_block_decided size fuel searches w long a left Goal found =
    at_place a (
    and_then (dec_kind (kind_in w a) OpenBrace refl) (λ x1.
    searches.items w long (a + 1) (next size fuel a (a + 1) 1 6 (inside_kind (shown w) size a (shown_long w size long) OpenBrace refl x1) (omega arith) (omega arith) left) _ (λ is c x2 u2.
    and_then (dec_kind (kind_in w c) CloseBrace refl) (λ x3.
    at_place (c + 1) (
    found (Block_of a is c) (c + 1) (refl, x1, x2, x3, refl) (record { forth = omega (arith, u2); inside = (inside_kind (shown w) size a (shown_long w size long) OpenBrace refl x1) }))))))

abbrev Core_expression_plan : Words → ℕ → (Core → ℕ → Type 0) → Type 0
Core_expression_plan w a Goal =
    (e : Option Tree) × (m : ℕ) × HoldsOptional w e a m
    × ((kind_in w m ≡ Semicolon)
    × ((b : ℕ) × (b ≡ m + 1)
    × (Goal (Expression_of e m) b)))

core_expression_decided : (size fuel : ℕ) → Searches size fuel → (w : Words) → length w.kinds ≡ size → (a : ℕ) → weight size a + 1 ≤ suc fuel
    → (Goal : Core → ℕ → Type 0)
    → ((t : Core) → (e : ℕ) → HoldsCore w t a e → Within size a e → Dec (Goal t e)) → Dec (Core_expression_plan w a Goal)
core_expression_decided size fuel searches w long a left Goal found =
    optional w a _ (λ e m x0 u0.
    and_then (dec_kind (kind_in w m) Semicolon refl) (λ x1.
    at_place (m + 1) (
    found (Expression_of e m) (m + 1) (x0, x1, refl) (record { forth = omega (arith, u0); inside = (before a m size (omega (arith, u0)) (inside_kind (shown w) size m (shown_long w size long) Semicolon refl x1)) }))))

abbrev Core_goto_plan : Words → ℕ → (Core → ℕ → Type 0) → Type 0
Core_goto_plan w a Goal =
    (k : ℕ) × (k ≡ a)
    × ((kind_in w a ≡ Goto)
    × ((n : ℕ) × (n ≡ a + 1)
    × ((is_word (kind_in w n) ≡ true)
    × ((m : ℕ) × (m ≡ n + 1)
    × ((kind_in w m ≡ Semicolon)
    × ((b : ℕ) × (b ≡ m + 1)
    × (Goal (Goto_of k n m) b)))))))

core_goto_decided : (size fuel : ℕ) → Searches size fuel → (w : Words) → length w.kinds ≡ size → (a : ℕ) → weight size a + 1 ≤ suc fuel
    → (Goal : Core → ℕ → Type 0)
    → ((t : Core) → (e : ℕ) → HoldsCore w t a e → Within size a e → Dec (Goal t e)) → Dec (Core_goto_plan w a Goal)
core_goto_decided size fuel searches w long a left Goal found =
    at_place a (
    and_then (dec_kind (kind_in w a) Goto refl) (λ x1.
    at_place (a + 1) (
    and_then (dec_bool (is_word (kind_in w (a + 1))) true) (λ x3.
    at_place ((a + 1) + 1) (
    and_then (dec_kind (kind_in w ((a + 1) + 1)) Semicolon refl) (λ x5.
    at_place (((a + 1) + 1) + 1) (
    found (Goto_of a (a + 1) ((a + 1) + 1)) (((a + 1) + 1) + 1) (refl, x1, refl, x3, refl, x5, refl) (record { forth = omega arith; inside = (inside_kind (shown w) size a (shown_long w size long) Goto refl x1) }))))))))

abbrev Core_continue_plan : Words → ℕ → (Core → ℕ → Type 0) → Type 0
Core_continue_plan w a Goal =
    (k : ℕ) × (k ≡ a)
    × ((kind_in w a ≡ Continue)
    × ((m : ℕ) × (m ≡ a + 1)
    × ((kind_in w m ≡ Semicolon)
    × ((b : ℕ) × (b ≡ m + 1)
    × (Goal (Continue_of k m) b)))))

core_continue_decided : (size fuel : ℕ) → Searches size fuel → (w : Words) → length w.kinds ≡ size → (a : ℕ) → weight size a + 1 ≤ suc fuel
    → (Goal : Core → ℕ → Type 0)
    → ((t : Core) → (e : ℕ) → HoldsCore w t a e → Within size a e → Dec (Goal t e)) → Dec (Core_continue_plan w a Goal)
core_continue_decided size fuel searches w long a left Goal found =
    at_place a (
    and_then (dec_kind (kind_in w a) Continue refl) (λ x1.
    at_place (a + 1) (
    and_then (dec_kind (kind_in w (a + 1)) Semicolon refl) (λ x3.
    at_place ((a + 1) + 1) (
    found (Continue_of a (a + 1)) ((a + 1) + 1) (refl, x1, refl, x3, refl) (record { forth = omega arith; inside = (inside_kind (shown w) size a (shown_long w size long) Continue refl x1) }))))))

abbrev Core_break_plan : Words → ℕ → (Core → ℕ → Type 0) → Type 0
Core_break_plan w a Goal =
    (k : ℕ) × (k ≡ a)
    × ((kind_in w a ≡ Break)
    × ((m : ℕ) × (m ≡ a + 1)
    × ((kind_in w m ≡ Semicolon)
    × ((b : ℕ) × (b ≡ m + 1)
    × (Goal (Break_of k m) b)))))

core_break_decided : (size fuel : ℕ) → Searches size fuel → (w : Words) → length w.kinds ≡ size → (a : ℕ) → weight size a + 1 ≤ suc fuel
    → (Goal : Core → ℕ → Type 0)
    → ((t : Core) → (e : ℕ) → HoldsCore w t a e → Within size a e → Dec (Goal t e)) → Dec (Core_break_plan w a Goal)
core_break_decided size fuel searches w long a left Goal found =
    at_place a (
    and_then (dec_kind (kind_in w a) Break refl) (λ x1.
    at_place (a + 1) (
    and_then (dec_kind (kind_in w (a + 1)) Semicolon refl) (λ x3.
    at_place ((a + 1) + 1) (
    found (Break_of a (a + 1)) ((a + 1) + 1) (refl, x1, refl, x3, refl) (record { forth = omega arith; inside = (inside_kind (shown w) size a (shown_long w size long) Break refl x1) }))))))

abbrev Core_return_plan : Words → ℕ → (Core → ℕ → Type 0) → Type 0
Core_return_plan w a Goal =
    (k : ℕ) × (k ≡ a)
    × ((kind_in w a ≡ Return)
    × ((e : Option Tree) × (m : ℕ) × HoldsOptional w e (a + 1) m
    × ((kind_in w m ≡ Semicolon)
    × ((b : ℕ) × (b ≡ m + 1)
    × (Goal (Return_of k e m) b)))))

core_return_decided : (size fuel : ℕ) → Searches size fuel → (w : Words) → length w.kinds ≡ size → (a : ℕ) → weight size a + 1 ≤ suc fuel
    → (Goal : Core → ℕ → Type 0)
    → ((t : Core) → (e : ℕ) → HoldsCore w t a e → Within size a e → Dec (Goal t e)) → Dec (Core_return_plan w a Goal)
core_return_decided size fuel searches w long a left Goal found =
    at_place a (
    and_then (dec_kind (kind_in w a) Return refl) (λ x1.
    optional w (a + 1) _ (λ e m x2 u2.
    and_then (dec_kind (kind_in w m) Semicolon refl) (λ x3.
    at_place (m + 1) (
    found (Return_of a e m) (m + 1) (refl, x1, x2, x3, refl) (record { forth = omega (arith, u2); inside = (inside_kind (shown w) size a (shown_long w size long) Return refl x1) }))))))

abbrev Core_do_plan : Words → ℕ → (Core → ℕ → Type 0) → Type 0
Core_do_plan w a Goal =
    (k : ℕ) × (k ≡ a)
    × ((kind_in w a ≡ Do)
    × ((s : Statement) × (v : ℕ) × HoldsStatement w s (a + 1) v
    × ((kind_in w v ≡ While)
    × ((q : Tested) × (m : ℕ) × HoldsTest w q.0 q.1 q.2 (v + 1) m
    × ((kind_in w m ≡ Semicolon)
    × ((b : ℕ) × (b ≡ m + 1)
    × (Goal (Do_of k s v q.0 q.1 q.2 m) b)))))))

core_do_decided : (size fuel : ℕ) → Searches size fuel → (w : Words) → length w.kinds ≡ size → (a : ℕ) → weight size a + 1 ≤ suc fuel
    → (Goal : Core → ℕ → Type 0)
    → ((t : Core) → (e : ℕ) → HoldsCore w t a e → Within size a e → Dec (Goal t e)) → Dec (Core_do_plan w a Goal)
core_do_decided size fuel searches w long a left Goal found =
    at_place a (
    and_then (dec_kind (kind_in w a) Do refl) (λ x1.
    searches.statement w long (a + 1) (next size fuel a (a + 1) 1 4 (inside_kind (shown w) size a (shown_long w size long) Do refl x1) (omega arith) (omega arith) left) _ (λ s v x2 u2.
    and_then (dec_kind (kind_in w v) While refl) (λ x3.
    tested w (v + 1) _ (λ q m x4 u4.
    and_then (dec_kind (kind_in w m) Semicolon refl) (λ x5.
    at_place (m + 1) (
    found (Do_of a s v q.0 q.1 q.2 m) (m + 1) (refl, x1, x2, x3, x4, x5, refl) (record { forth = omega (arith, u2.forth, u4); inside = (inside_kind (shown w) size a (shown_long w size long) Do refl x1) }))))))))

no_core : (w : Words) → (a : ℕ) → (Goal : Core → ℕ → Type 0)
    → (Core_block_plan w a Goal → ⊥)
    → (Core_expression_plan w a Goal → ⊥)
    → (Core_goto_plan w a Goal → ⊥)
    → (Core_continue_plan w a Goal → ⊥)
    → (Core_break_plan w a Goal → ⊥)
    → (Core_return_plan w a Goal → ⊥)
    → (Core_do_plan w a Goal → ⊥)
    → (t : Core) → (e : ℕ) → HoldsCore w t a e → Goal t e → ⊥
no_core w a Goal n0 n1 n2 n3 n4 n5 n6 (Block_of o is c) b h p0 = n0 (o, h.0, (h.1, (is, c, h.2, (h.3, (b, h.4, p0)))))
no_core w a Goal n0 n1 n2 n3 n4 n5 n6 (Expression_of e m) b h p0 = n1 (e, m, h.0, (h.1, (b, h.2, p0)))
no_core w a Goal n0 n1 n2 n3 n4 n5 n6 (Goto_of k n m) b h p0 = n2 (k, h.0, (h.1, (n, h.2, (h.3, (m, h.4, (h.5, (b, h.6, p0)))))))
no_core w a Goal n0 n1 n2 n3 n4 n5 n6 (Continue_of k m) b h p0 = n3 (k, h.0, (h.1, (m, h.2, (h.3, (b, h.4, p0)))))
no_core w a Goal n0 n1 n2 n3 n4 n5 n6 (Break_of k m) b h p0 = n4 (k, h.0, (h.1, (m, h.2, (h.3, (b, h.4, p0)))))
no_core w a Goal n0 n1 n2 n3 n4 n5 n6 (Return_of k e m) b h p0 = n5 (k, h.0, (h.1, (e, m, h.2, (h.3, (b, h.4, p0)))))
no_core w a Goal n0 n1 n2 n3 n4 n5 n6 (Do_of k s v o t c m) b h p0 = n6 (k, h.0, (h.1, (s, v, h.2, (h.3, ((o, t, c), m, h.4, (h.5, (b, h.6, p0)))))))

pub core : (size fuel : ℕ) → Searches size fuel → (w : Words) → length w.kinds ≡ size → (a : ℕ) → weight size a + 1 ≤ suc fuel
    → Search Core (λ t e. HoldsCore w t a e) (λ t e. Within size a e)
core size fuel searches w long a left Goal found =
    first (core_block_decided size fuel searches w long a left Goal found) (λ z. ((Block_of z.0 z.2.1.0 z.2.1.1), z.2.1.3.1.0, (z.1, z.2.0, z.2.1.2, z.2.1.3.0, z.2.1.3.1.1), z.2.1.3.1.2)) (λ n0.
    first (core_expression_decided size fuel searches w long a left Goal found) (λ z. ((Expression_of z.0 z.1), z.3.1.0, (z.2, z.3.0, z.3.1.1), z.3.1.2)) (λ n1.
    first (core_goto_decided size fuel searches w long a left Goal found) (λ z. ((Goto_of z.0 z.2.1.0 z.2.1.2.1.0), z.2.1.2.1.2.1.0, (z.1, z.2.0, z.2.1.1, z.2.1.2.0, z.2.1.2.1.1, z.2.1.2.1.2.0, z.2.1.2.1.2.1.1), z.2.1.2.1.2.1.2)) (λ n2.
    first (core_continue_decided size fuel searches w long a left Goal found) (λ z. ((Continue_of z.0 z.2.1.0), z.2.1.2.1.0, (z.1, z.2.0, z.2.1.1, z.2.1.2.0, z.2.1.2.1.1), z.2.1.2.1.2)) (λ n3.
    first (core_break_decided size fuel searches w long a left Goal found) (λ z. ((Break_of z.0 z.2.1.0), z.2.1.2.1.0, (z.1, z.2.0, z.2.1.1, z.2.1.2.0, z.2.1.2.1.1), z.2.1.2.1.2)) (λ n4.
    first (core_return_decided size fuel searches w long a left Goal found) (λ z. ((Return_of z.0 z.2.1.0 z.2.1.1), z.2.1.3.1.0, (z.1, z.2.0, z.2.1.2, z.2.1.3.0, z.2.1.3.1.1), z.2.1.3.1.2)) (λ n5.
    first (core_do_decided size fuel searches w long a left Goal found) (λ z. ((Do_of z.0 z.2.1.0 z.2.1.1 z.2.1.3.1.0.0 z.2.1.3.1.0.1 z.2.1.3.1.0.2 z.2.1.3.1.1), z.2.1.3.1.3.1.0, (z.1, z.2.0, z.2.1.2, z.2.1.3.0, z.2.1.3.1.2, z.2.1.3.1.3.0, z.2.1.3.1.3.1.1), z.2.1.3.1.3.1.2)) (λ n6.
    no (λ z. no_core w a Goal n0 n1 n2 n3 n4 n5 n6 z.0 z.1 z.2 z.3))))))))

abbrev Statement_statement_plan : Words → ℕ → (Statement → ℕ → Type 0) → Type 0
Statement_statement_plan w a Goal =
    (ls : Leads) × (m : ℕ) × HoldLeads w ls a m
    × ((c : Core) × (b : ℕ) × HoldsCore (all_inside w ls) c m b
    × (Goal (Statement_of ls c) b))

statement_statement_decided : (size fuel : ℕ) → Searches size fuel → (w : Words) → length w.kinds ≡ size → (a : ℕ) → weight size a + 4 ≤ suc fuel
    → (Goal : Statement → ℕ → Type 0)
    → ((t : Statement) → (e : ℕ) → HoldsStatement w t a e → Within size a e → Dec (Goal t e)) → Dec (Statement_statement_plan w a Goal)
statement_statement_decided size fuel searches w long a left Goal found =
    searches.leads w long a (stays size fuel a a 4 2 (omega arith) (omega arith) left) _ (λ ls m x0 u0.
    searches.core (all_inside w ls) (all_inside_long w size ls long) m (stays size fuel a m 4 1 (omega (arith, u0)) (omega arith) left) _ (λ c b x1 u1.
    found (Statement_of ls c) b (m, x0, x1) (record { forth = omega (arith, u0, u1.forth); inside = (before a m size (omega (arith, u0)) u1.inside) })))

no_statement : (w : Words) → (a : ℕ) → (Goal : Statement → ℕ → Type 0)
    → (Statement_statement_plan w a Goal → ⊥)
    → (t : Statement) → (e : ℕ) → HoldsStatement w t a e → Goal t e → ⊥
no_statement w a Goal n0 (Statement_of ls c) b h p0 = n0 (ls, h.0, h.1, (c, b, h.2, p0))

pub statement : (size fuel : ℕ) → Searches size fuel → (w : Words) → length w.kinds ≡ size → (a : ℕ) → weight size a + 4 ≤ suc fuel
    → Search Statement (λ t e. HoldsStatement w t a e) (λ t e. Within size a e)
statement size fuel searches w long a left Goal found =
    first (statement_statement_decided size fuel searches w long a left Goal found) (λ z. ((Statement_of z.0 z.3.0), z.3.1, (z.1, z.2, z.3.2), z.3.3)) (λ n0.
    no (λ z. no_statement w a Goal n0 z.0 z.1 z.2 z.3))

abbrev Item_declared_plan : Words → ℕ → (Item → ℕ → Type 0) → Type 0
Item_declared_plan w a Goal =
    (d : Heading) × (b : ℕ) × HoldsDeclaration w d a b
    × (Goal (Declared_of d) b)

item_declared_decided : (size fuel : ℕ) → Searches size fuel → (w : Words) → length w.kinds ≡ size → (a : ℕ) → weight size a + 5 ≤ suc fuel
    → (Goal : Item → ℕ → Type 0)
    → ((t : Item) → (e : ℕ) → HoldsItem w t a e → Within size a e → Dec (Goal t e)) → Dec (Item_declared_plan w a Goal)
item_declared_decided size fuel searches w long a left Goal found =
    any_declaration w a _ (λ d b x0 u0.
    found (Declared_of d) b x0 (record { forth = omega (arith, u0.forth); inside = (subst (λ i. a < i) long u0.inside) }))

abbrev Item_stated_plan : Words → ℕ → (Item → ℕ → Type 0) → Type 0
Item_stated_plan w a Goal =
    (s : Statement) × (b : ℕ) × HoldsStatement w s a b
    × (Goal (Stated_of s) b)

item_stated_decided : (size fuel : ℕ) → Searches size fuel → (w : Words) → length w.kinds ≡ size → (a : ℕ) → weight size a + 5 ≤ suc fuel
    → (Goal : Item → ℕ → Type 0)
    → ((t : Item) → (e : ℕ) → HoldsItem w t a e → Within size a e → Dec (Goal t e)) → Dec (Item_stated_plan w a Goal)
item_stated_decided size fuel searches w long a left Goal found =
    searches.statement w long a (stays size fuel a a 5 4 (omega arith) (omega arith) left) _ (λ s b x0 u0.
    found (Stated_of s) b x0 (record { forth = omega (arith, u0.forth); inside = u0.inside }))

no_item : (w : Words) → (a : ℕ) → (Goal : Item → ℕ → Type 0)
    → (Item_declared_plan w a Goal → ⊥)
    → (Item_stated_plan w a Goal → ⊥)
    → (t : Item) → (e : ℕ) → HoldsItem w t a e → Goal t e → ⊥
no_item w a Goal n0 n1 (Declared_of d) b h p0 = n0 (d, b, h, p0)
no_item w a Goal n0 n1 (Stated_of s) b h p0 = n1 (s, b, h, p0)

pub item : (size fuel : ℕ) → Searches size fuel → (w : Words) → length w.kinds ≡ size → (a : ℕ) → weight size a + 5 ≤ suc fuel
    → Search Item (λ t e. HoldsItem w t a e) (λ t e. Within size a e)
item size fuel searches w long a left Goal found =
    first (item_declared_decided size fuel searches w long a left Goal found) (λ z. ((Declared_of z.0), z.1, z.2, z.3)) (λ n0.
    first (item_stated_decided size fuel searches w long a left Goal found) (λ z. ((Stated_of z.0), z.1, z.2, z.3)) (λ n1.
    no (λ z. no_item w a Goal n0 n1 z.0 z.1 z.2 z.3)))

abbrev Items_no_items_plan : Words → ℕ → (Items → ℕ → Type 0) → Type 0
Items_no_items_plan w a Goal =
    (b : ℕ) × (b ≡ a)
    × (Goal No_items b)

items_no_items_decided : (size fuel : ℕ) → Searches size fuel → (w : Words) → length w.kinds ≡ size → (a : ℕ) → weight size a + 6 ≤ suc fuel
    → (Goal : Items → ℕ → Type 0)
    → ((t : Items) → (e : ℕ) → HoldItems w t a e → a ≤ e → Dec (Goal t e)) → Dec (Items_no_items_plan w a Goal)
items_no_items_decided size fuel searches w long a left Goal found =
    at_place a (
    found No_items a refl (omega arith))

abbrev Items_item_then_plan : Words → ℕ → (Items → ℕ → Type 0) → Type 0
Items_item_then_plan w a Goal =
    (i : Item) × (m : ℕ) × HoldsItem w i a m
    × ((is : Items) × (b : ℕ) × HoldItems (past_item w i) is m b
    × (Goal (Item_then i is) b))

items_item_then_decided : (size fuel : ℕ) → Searches size fuel → (w : Words) → length w.kinds ≡ size → (a : ℕ) → weight size a + 6 ≤ suc fuel
    → (Goal : Items → ℕ → Type 0)
    → ((t : Items) → (e : ℕ) → HoldItems w t a e → a ≤ e → Dec (Goal t e)) → Dec (Items_item_then_plan w a Goal)
items_item_then_decided size fuel searches w long a left Goal found =
    searches.item w long a (stays size fuel a a 6 5 (omega arith) (omega arith) left) _ (λ i m x0 u0.
    searches.items (past_item w i) (past_item_long w size i long) m (next size fuel a m 6 6 u0.inside (omega (arith, u0.forth)) (omega arith) left) _ (λ is b x1 u1.
    found (Item_then i is) b (m, x0, x1) (omega (arith, u0.forth, u1))))

no_items : (w : Words) → (a : ℕ) → (Goal : Items → ℕ → Type 0)
    → (Items_no_items_plan w a Goal → ⊥)
    → (Items_item_then_plan w a Goal → ⊥)
    → (t : Items) → (e : ℕ) → HoldItems w t a e → Goal t e → ⊥
no_items w a Goal n0 n1 No_items b h p0 = n0 (b, h, p0)
no_items w a Goal n0 n1 (Item_then i is) b h p0 = n1 (i, h.0, h.1, (is, b, h.2, p0))

pub items : (size fuel : ℕ) → Searches size fuel → (w : Words) → length w.kinds ≡ size → (a : ℕ) → weight size a + 6 ≤ suc fuel
    → Search Items (λ t e. HoldItems w t a e) (λ t e. a ≤ e)
items size fuel searches w long a left Goal found =
    first (items_no_items_decided size fuel searches w long a left Goal found) (λ z. (No_items, z.0, z.1, z.2)) (λ n0.
    first (items_item_then_decided size fuel searches w long a left Goal found) (λ z. ((Item_then z.0 z.3.0), z.3.1, (z.1, z.2, z.3.2), z.3.3)) (λ n1.
    no (λ z. no_items w a Goal n0 n1 z.0 z.1 z.2 z.3)))
