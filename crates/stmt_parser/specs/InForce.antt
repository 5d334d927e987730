-- The identifiers in force inside and behind statements (ISO C11 6.2.1, 6.8): a block, a selection statement and an iteration statement
-- is a scope of its own (6.8.2p2, 6.8.4p3, 6.8.5p5).
use Rattle.std.specs.Prelude.{Bool, true, false, Option, Some, None, if◌then◌else◌}
use Rattle.tree_data.specs.Trees.{Tree}
use Rattle.tree_data.specs.Statements.{Statement_of, Core, Block_of, Expression_of, Goto_of, Continue_of, Break_of, Return_of, Do_of, Lead, Label_of, Case_of, Default_label_of, If_of, If_else_of, Switch_of, While_of, For_of, For_declaring_of, Leads, No_leads, Lead_then, Item, Declared_of, Stated_of, Items, No_items, Item_then}
use Rattle.c_parser.specs.Parts.{past_tree, past_declaration}
use Rattle.c_parser.specs.Words.{Words}

-- behind an expression, if there is one
abbrev pub past_optional : Words → Option Tree → Words
past_optional w None = w
past_optional w (Some t) = past_tree w t

-- where the statement begins that a lead stands in front of
abbrev pub inside : Words → Lead → Words
inside w (Label_of n c) = w
inside w (Case_of k t c) = past_tree w t
inside w (Default_label_of k c) = w
inside w (If_of k o t c) = past_tree w t
inside w (If_else_of k o t c s e) = past_tree w t
inside w (Switch_of k o t c) = past_tree w t
inside w (While_of k o t c) = past_tree w t
inside w (For_of k o x m y n z c) = past_optional (past_optional (past_optional w x) y) z
inside w (For_declaring_of k o d y n z c) = past_optional (past_optional (past_declaration w d) y) z

abbrev pub all_inside : Words → Leads → Words
all_inside w No_leads = w
all_inside w (Lead_then l ls) = all_inside (inside w l) ls

-- a label makes no scope
abbrev pub is_label : Lead → Bool
is_label (Label_of n c) = true
is_label (Case_of k t c) = true
is_label (Default_label_of k c) = true
is_label (If_of k o t c) = false
is_label (If_else_of k o t c s e) = false
is_label (Switch_of k o t c) = false
is_label (While_of k o t c) = false
is_label (For_of k o x m y n z c) = false
is_label (For_declaring_of k o d y n z c) = false

abbrev pub past_core : Words → Core → Words
past_core w (Block_of o is c) = w
past_core w (Expression_of e m) = past_optional w e
past_core w (Goto_of k n m) = w
past_core w (Continue_of k m) = w
past_core w (Break_of k m) = w
past_core w (Return_of k e m) = past_optional w e
past_core w (Do_of k s v o t c m) = w

abbrev pub past_led : Words → Leads → Core → Words
past_led w No_leads c = past_core w c
past_led w (Lead_then l ls) c = if is_label l then past_led (inside w l) ls c else w

-- behind a block's item, up to the end of the block
abbrev pub past_item : Words → Item → Words
past_item w (Declared_of d) = past_declaration w d
past_item w (Stated_of (Statement_of ls c)) = past_led w ls c

abbrev pub past_items : Words → Items → Words
past_items w No_items = w
past_items w (Item_then i is) = past_items (past_item w i) is
