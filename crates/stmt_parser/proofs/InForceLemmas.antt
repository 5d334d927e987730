-- What differs between the identifiers in force at two places: typedef names alone.
use Rattle.std.proofs.Common.{◌≡◌, refl, ◌∙◌, ℕ, Bool, Option, Some, None}
use Rattle.tree_data.specs.Trees.{Tree}
use Rattle.tree_data.specs.Statements.{Statement_of, Core, Block_of, Expression_of, Goto_of, Continue_of, Break_of, Return_of, Do_of, Lead, Label_of, Case_of, Default_label_of, If_of, If_else_of, Switch_of, While_of, For_of, For_declaring_of, Leads, No_leads, Lead_then, Item, Declared_of, Stated_of, Items, No_items, Item_then}
use Rattle.c_parser.specs.declared.kinds.Kind.{Kind}
use Rattle.c_parser.specs.Parts.{PartsLaw, IsBlind, past_tree, past_declaration}
use Rattle.c_parser.specs.Words.{Words, kind_in}
use Rattle.stmt_parser.specs.InForce.{past_optional, inside, all_inside, past_core, past_led, past_item, past_items}
use Rattle.stmt_parser.specs.Reading.{is_else, ends_expression}
use Rattle.stmt_parser.proofs.Marks.{begins_item, is_close}

pub else_blind : IsBlind is_else
else_blind = λ n. refl

pub begins_blind : IsBlind begins_item
begins_blind = λ n. refl

pub ends_blind : IsBlind ends_expression
ends_blind = λ n. refl

pub close_blind : IsBlind is_close
close_blind = λ n. refl

pub optional_blind : PartsLaw → (f : Kind → Bool) → IsBlind f → (w : Words) → (x : Option Tree) → (at : ℕ)
    → f (kind_in (past_optional w x) at) ≡ f (kind_in w at)
optional_blind law f i w None at = refl
optional_blind law f i w (Some t) at = law.tree_blind f i w t at

pub inside_blind : PartsLaw → (f : Kind → Bool) → IsBlind f → (w : Words) → (l : Lead) → (at : ℕ)
    → f (kind_in (inside w l) at) ≡ f (kind_in w at)
inside_blind law f i w (Label_of n c) at = refl
inside_blind law f i w (Case_of k t c) at = law.tree_blind f i w t at
inside_blind law f i w (Default_label_of k c) at = refl
inside_blind law f i w (If_of k o t c) at = law.tree_blind f i w t at
inside_blind law f i w (If_else_of k o t c s e) at = law.tree_blind f i w t at
inside_blind law f i w (Switch_of k o t c) at = law.tree_blind f i w t at
inside_blind law f i w (While_of k o t c) at = law.tree_blind f i w t at
inside_blind law f i w (For_of k o x m y n z c) at =
    optional_blind law f i (past_optional (past_optional w x) y) z at
    ∙ optional_blind law f i (past_optional w x) y at
    ∙ optional_blind law f i w x at
inside_blind law f i w (For_declaring_of k o d y n z c) at =
    optional_blind law f i (past_optional (past_declaration w d) y) z at
    ∙ optional_blind law f i (past_declaration w d) y at
    ∙ law.declaration_blind f i w d at

pub all_inside_blind : PartsLaw → (f : Kind → Bool) → IsBlind f → (w : Words) → (ls : Leads) → (at : ℕ)
    → f (kind_in (all_inside w ls) at) ≡ f (kind_in w at)
all_inside_blind law f i w No_leads at = refl
all_inside_blind law f i w (Lead_then l ls) at = all_inside_blind law f i (inside w l) ls at ∙ inside_blind law f i w l at

core_blind : PartsLaw → (f : Kind → Bool) → IsBlind f → (w : Words) → (c : Core) → (at : ℕ)
    → f (kind_in (past_core w c) at) ≡ f (kind_in w at)
core_blind law f i w (Block_of o is c) at = refl
core_blind law f i w (Expression_of e m) at = optional_blind law f i w e at
core_blind law f i w (Goto_of k n m) at = refl
core_blind law f i w (Continue_of k m) at = refl
core_blind law f i w (Break_of k m) at = refl
core_blind law f i w (Return_of k e m) at = optional_blind law f i w e at
core_blind law f i w (Do_of k s v o t c m) at = refl

led_blind : PartsLaw → (f : Kind → Bool) → IsBlind f → (w : Words) → (ls : Leads) → (c : Core) → (at : ℕ)
    → f (kind_in (past_led w ls c) at) ≡ f (kind_in w at)
led_blind law f i w No_leads c at = core_blind law f i w c at
led_blind law f i w (Lead_then (Label_of n k) ls) c at = led_blind law f i w ls c at
led_blind law f i w (Lead_then (Case_of k t m) ls) c at =
    led_blind law f i (past_tree w t) ls c at ∙ law.tree_blind f i w t at
led_blind law f i w (Lead_then (Default_label_of n k) ls) c at = led_blind law f i w ls c at
led_blind law f i w (Lead_then (If_of k o t m) ls) c at = refl
led_blind law f i w (Lead_then (If_else_of k o t m s e) ls) c at = refl
led_blind law f i w (Lead_then (Switch_of k o t m) ls) c at = refl
led_blind law f i w (Lead_then (While_of k o t m) ls) c at = refl
led_blind law f i w (Lead_then (For_of k o x m y n z p) ls) c at = refl
led_blind law f i w (Lead_then (For_declaring_of k o d y n z p) ls) c at = refl

pub item_blind : PartsLaw → (f : Kind → Bool) → IsBlind f → (w : Words) → (x : Item) → (at : ℕ)
    → f (kind_in (past_item w x) at) ≡ f (kind_in w at)
item_blind law f i w (Declared_of d) at = law.declaration_blind f i w d at
item_blind law f i w (Stated_of (Statement_of ls c)) at = led_blind law f i w ls c at

pub items_blind : PartsLaw → (f : Kind → Bool) → IsBlind f → (w : Words) → (is : Items) → (at : ℕ)
    → f (kind_in (past_items w is) at) ≡ f (kind_in w at)
items_blind law f i w No_items at = refl
items_blind law f i w (Item_then x is) at = items_blind law f i (past_item w x) is at ∙ item_blind law f i w x at
