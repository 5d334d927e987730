-- Parts of statements, and what is searched among statements (ISO C11 6.8).
use Rattle.std.proofs.Common.{◌≡◌, refl, ap, subst, ◌∙◌, ℕ, ◌+◌, ◌<◌, ◌≤◌, arith, length, Bool, true, false, Option, None, Some, if◌then◌else◌}
use Rattle.tree_data.specs.Trees.{Tree}
use Rattle.tree_data.specs.Statements.{Statement, Statement_of, Core, Block_of, Expression_of, Goto_of, Continue_of, Break_of, Return_of, Do_of, Lead, Label_of, Case_of, Default_label_of, If_of, If_else_of, Switch_of, While_of, For_of, For_declaring_of, Leads, No_leads, Lead_then, Item, Declared_of, Stated_of, Items}
use Rattle.c_parser.specs.declared.kinds.Kind.TheVariants.{CloseParen, OpenParen}
use Rattle.c_parser.specs.Grammar.{spell}
use Rattle.c_parser.specs.Parts.{past_tree, past_declaration}
use Rattle.c_parser.specs.Reading.{Reads}
use Rattle.c_parser.specs.Words.{Words, shown_from, kind_in}
use Rattle.stmt_parser.specs.InForce.{past_optional, inside, all_inside, is_label, past_core, past_led, past_item}
use Rattle.stmt_parser.specs.Reading.{HoldsOptional, HoldsTest, HoldsStatement, HoldsCore, HoldsLead, HoldLeads, HoldsItem, HoldItems}
use Rattle.item_readings.specs.Search.Deciding.{and_then, at_place, first, dec_kind}
use Rattle.item_readings.specs.Search.AllParts.{any_tree}
use Rattle.item_readings.specs.Search.Heads.{past_numbers_kinds, past_head_kinds}
use Rattle.item_readings.specs.Search.Searches.{Search, Within, weight}

-- inside and behind parts the tokens are as many
past_tree_kinds : (w : Words) → (t : Tree) → (past_tree w t).kinds ≡ w.kinds
past_tree_kinds w t = past_numbers_kinds w (spell t)

pub past_tree_long : (w : Words) → (size : ℕ) → (t : Tree) → length w.kinds ≡ size → length (past_tree w t).kinds ≡ size
past_tree_long w size t long = ap length (past_tree_kinds w t) ∙ long

past_optional_kinds : (w : Words) → (o : Option Tree) → (past_optional w o).kinds ≡ w.kinds
past_optional_kinds w None = refl
past_optional_kinds w (Some t) = past_tree_kinds w t

inside_kinds : (w : Words) → (l : Lead) → (inside w l).kinds ≡ w.kinds
inside_kinds w (Label_of n c) = refl
inside_kinds w (Case_of k t c) = past_tree_kinds w t
inside_kinds w (Default_label_of k c) = refl
inside_kinds w (If_of k o t c) = past_tree_kinds w t
inside_kinds w (If_else_of k o t c s e) = past_tree_kinds w t
inside_kinds w (Switch_of k o t c) = past_tree_kinds w t
inside_kinds w (While_of k o t c) = past_tree_kinds w t
inside_kinds w (For_of k o x m y n z c) =
    past_optional_kinds (past_optional (past_optional w x) y) z ∙ (past_optional_kinds (past_optional w x) y ∙ past_optional_kinds w x)
inside_kinds w (For_declaring_of k o d y n z c) =
    past_optional_kinds (past_optional (past_declaration w d) y) z ∙ (past_optional_kinds (past_declaration w d) y ∙ past_head_kinds w d)

all_inside_kinds : (w : Words) → (ls : Leads) → (all_inside w ls).kinds ≡ w.kinds
all_inside_kinds w No_leads = refl
all_inside_kinds w (Lead_then l ls) = all_inside_kinds (inside w l) ls ∙ inside_kinds w l

past_core_kinds : (w : Words) → (c : Core) → (past_core w c).kinds ≡ w.kinds
past_core_kinds w (Block_of o is c) = refl
past_core_kinds w (Expression_of e m) = past_optional_kinds w e
past_core_kinds w (Goto_of k n m) = refl
past_core_kinds w (Continue_of k m) = refl
past_core_kinds w (Break_of k m) = refl
past_core_kinds w (Return_of k e m) = past_optional_kinds w e
past_core_kinds w (Do_of k s v o t c m) = refl

picked_kinds : (b : Bool) → (w v : Words) → v.kinds ≡ w.kinds → (if b then v else w).kinds ≡ w.kinds
picked_kinds true w v e = e
picked_kinds false w v e = refl

past_led_kinds : (w : Words) → (ls : Leads) → (c : Core) → (past_led w ls c).kinds ≡ w.kinds
past_led_kinds w No_leads c = past_core_kinds w c
past_led_kinds w (Lead_then l ls) c = picked_kinds (is_label l) w (past_led (inside w l) ls c) (past_led_kinds (inside w l) ls c ∙ inside_kinds w l)

past_item_kinds : (w : Words) → (i : Item) → (past_item w i).kinds ≡ w.kinds
past_item_kinds w (Declared_of d) = past_head_kinds w d
past_item_kinds w (Stated_of (Statement_of ls c)) = past_led_kinds w ls c

pub inside_long : (w : Words) → (size : ℕ) → (l : Lead) → length w.kinds ≡ size → length (inside w l).kinds ≡ size
inside_long w size l long = ap length (inside_kinds w l) ∙ long

pub all_inside_long : (w : Words) → (size : ℕ) → (ls : Leads) → length w.kinds ≡ size → length (all_inside w ls).kinds ≡ size
all_inside_long w size ls long = ap length (all_inside_kinds w ls) ∙ long

pub past_item_long : (w : Words) → (size : ℕ) → (i : Item) → length w.kinds ≡ size → length (past_item w i).kinds ≡ size
past_item_long w size i long = ap length (past_item_kinds w i) ∙ long

-- expression opt
no_optional : (w : Words) → (a : ℕ) → (Goal : Option Tree → ℕ → Type 0) → (Goal None a → ⊥)
    → ((t : Tree) × (e : ℕ) × Reads (shown_from w a) 1 t a e × Goal (Some t) e → ⊥) → (o : Option Tree) → (e : ℕ) → HoldsOptional w o a e → Goal o e → ⊥
no_optional w a Goal n0 n1 None e h p = n0 (subst (λ x. Goal None x) h p)
no_optional w a Goal n0 n1 (Some t) e h p = n1 (t, e, h, p)

pub optional : (w : Words) → (a : ℕ) → Search (Option Tree) (λ o e. HoldsOptional w o a e) (λ o e. a ≤ e)
optional w a Goal found =
    first (found None a refl (omega arith)) (λ p. (None, a, refl, p)) (λ n0.
    first (any_tree (shown_from w a) 1 a (λ t e. Goal (Some t) e) (λ t e x u. found (Some t) e x (omega (arith, u.forth)))) (λ z. (Some z.0, z.1, z.2, z.3)) (λ n1.
    no (λ z. no_optional w a Goal n0 n1 z.0 z.1 z.2 z.3)))

-- ( expression )
abbrev pub Tested : Type 0
Tested = ℕ × Tree × ℕ

abbrev Tested_plan : Words → ℕ → (Tested → ℕ → Type 0) → Type 0
Tested_plan w a Goal =
    (o : ℕ) × (o ≡ a)
    × ((kind_in w a ≡ OpenParen)
    × ((t : Tree) × (c : ℕ) × Reads (shown_from w (a + 1)) 1 t (a + 1) c
    × ((kind_in w c ≡ CloseParen)
    × ((b : ℕ) × (b ≡ c + 1)
    × Goal (o, t, c) b))))

pub tested : (w : Words) → (a : ℕ) → Search Tested (λ q e. HoldsTest w q.0 q.1 q.2 a e) (λ q e. a < e)
tested w a Goal found =
    first
    (let plan : Dec (Tested_plan w a Goal) =
    at_place a (
    and_then (dec_kind (kind_in w a) OpenParen refl) (λ x1.
    any_tree (shown_from w (a + 1)) 1 (a + 1) _ (λ t c x2 u2.
    and_then (dec_kind (kind_in w c) CloseParen refl) (λ x3.
    at_place (c + 1) (
    found (a, t, c) (c + 1) (refl, x1, x2, x3, refl) (omega (arith, u2.forth))))))) in
    plan)
    (λ z. ((z.0, z.2.1.0, z.2.1.1), z.2.1.3.1.0, (z.1, z.2.0, z.2.1.2, z.2.1.3.0, z.2.1.3.1.1), z.2.1.3.1.2)) (λ n0.
    no (λ z. n0 (z.0.0, z.2.0, (z.2.1, (z.0.1, z.0.2, z.2.2, (z.2.3, (z.1, z.2.4, z.3)))))))

-- a search for each part of the grammar of statements, where no more than `fuel` is left
pub record Searches (size fuel : ℕ) : Type 1 where
  pub statement : (w : Words) → length w.kinds ≡ size → (a : ℕ) → weight size a + 4 ≤ fuel → Search Statement (λ t e. HoldsStatement w t a e) (λ t e. Within size a e)
  pub core : (w : Words) → length w.kinds ≡ size → (a : ℕ) → weight size a + 1 ≤ fuel → Search Core (λ t e. HoldsCore w t a e) (λ t e. Within size a e)
  pub lead : (w : Words) → length w.kinds ≡ size → (a : ℕ) → weight size a + 1 ≤ fuel → Search Lead (λ t e. HoldsLead w t a e) (λ t e. Within size a e)
  pub leads : (w : Words) → length w.kinds ≡ size → (a : ℕ) → weight size a + 2 ≤ fuel → Search Leads (λ t e. HoldLeads w t a e) (λ t e. a ≤ e)
  pub item : (w : Words) → length w.kinds ≡ size → (a : ℕ) → weight size a + 5 ≤ fuel → Search Item (λ t e. HoldsItem w t a e) (λ t e. Within size a e)
  pub items : (w : Words) → length w.kinds ≡ size → (a : ℕ) → weight size a + 6 ≤ fuel → Search Items (λ t e. HoldItems w t a e) (λ t e. a ≤ e)
