-- What a layer of a statement of the code stands for, and how large it is.
use Rattle.std.proofs.Common.{ℕ, ◌≡◌, ◌+◌, Vec, Box, Global, Option, option_map, ap, sym, ◌∙◌}
use Rattle.tree_data.specs.declared.expr.Expr.{Expr}
use Rattle.tree_data.specs.declared.heads.Head.{Head}
use Rattle.tree_data.specs.declared.statements.Item.{Item}
use Rattle.tree_data.specs.declared.statements.Item.TheFolds.{fold-roll-Item, fold-roll-Lead, fold-roll-Stmt}
use Rattle.tree_data.specs.declared.statements.Item.TheOpen as layer
use Rattle.tree_data.specs.declared.statements.Item.TheVariants as item
use Rattle.tree_data.specs.declared.statements.Lead.{Lead}
use Rattle.tree_data.specs.declared.statements.Lead.TheVariants as lead
use Rattle.tree_data.specs.declared.statements.Stmt.{Stmt}
use Rattle.tree_data.specs.declared.statements.Stmt.TheVariants as stmt
use Rattle.tree_data.specs.Heads.{heading_of}
use Rattle.tree_data.specs.Seen.{tree_of}
use Rattle.tree_data.specs.Stated.{item_of, lead_of, stmt_of, items_of, leads_of, item_step, lead_step, stmt_step}
use Rattle.tree_data.specs.Statements as spec
use Rattle.tree_data.specs.Statements.{Statement}
use Rattle.stmt_acts.specs.Sizes.{item_size, lead_size, stmt_size, items_size, leads_size, item_weight, lead_weight, stmt_weight}

pub stmt_block : (x : Stmt) → (f0 : ℕ) → (f1 : Vec Item Global) → (f2 : ℕ) → x ≡ stmt.Block f0 f1 f2 → stmt_of x ≡ spec.bare (spec.Block_of f0 (spec.items (items_of f1.items)) f2)
unfolding item_of lead_of stmt_of item_step lead_step stmt_step
stmt_block x f0 f1 f2 h =
    ap stmt_of (h ∙ sym (stmt.rolls-Block f0 f1 f2))
    ∙ fold-roll-Stmt spec.Item spec.Lead Statement item_step lead_step stmt_step (layer.Block f0 f1 f2)

pub stmt_block_size : (x : Stmt) → (f0 : ℕ) → (f1 : Vec Item Global) → (f2 : ℕ) → x ≡ stmt.Block f0 f1 f2 → stmt_size x ≡ 10 + items_size f1.items
unfolding item_size lead_size stmt_size item_weight lead_weight stmt_weight
stmt_block_size x f0 f1 f2 h =
    ap stmt_size (h ∙ sym (stmt.rolls-Block f0 f1 f2))
    ∙ fold-roll-Stmt ℕ ℕ ℕ item_weight lead_weight stmt_weight (layer.Block f0 f1 f2)

pub stmt_expression : (x : Stmt) → (f0 : Option (Box Expr Global)) → (f1 : ℕ) → x ≡ stmt.Expression f0 f1 → stmt_of x ≡ spec.bare (spec.Expression_of (option_map (λ e. tree_of e.value) f0) f1)
unfolding item_of lead_of stmt_of item_step lead_step stmt_step
stmt_expression x f0 f1 h =
    ap stmt_of (h ∙ sym (stmt.rolls-Expression f0 f1))
    ∙ fold-roll-Stmt spec.Item spec.Lead Statement item_step lead_step stmt_step (layer.Expression f0 f1)

pub stmt_expression_size : (x : Stmt) → (f0 : Option (Box Expr Global)) → (f1 : ℕ) → x ≡ stmt.Expression f0 f1 → stmt_size x ≡ 10
unfolding item_size lead_size stmt_size item_weight lead_weight stmt_weight
stmt_expression_size x f0 f1 h =
    ap stmt_size (h ∙ sym (stmt.rolls-Expression f0 f1))
    ∙ fold-roll-Stmt ℕ ℕ ℕ item_weight lead_weight stmt_weight (layer.Expression f0 f1)

pub stmt_goto : (x : Stmt) → (f0 : ℕ) → (f1 : ℕ) → (f2 : ℕ) → x ≡ stmt.Goto f0 f1 f2 → stmt_of x ≡ spec.bare (spec.Goto_of f0 f1 f2)
unfolding item_of lead_of stmt_of item_step lead_step stmt_step
stmt_goto x f0 f1 f2 h =
    ap stmt_of (h ∙ sym (stmt.rolls-Goto f0 f1 f2))
    ∙ fold-roll-Stmt spec.Item spec.Lead Statement item_step lead_step stmt_step (layer.Goto f0 f1 f2)

pub stmt_goto_size : (x : Stmt) → (f0 : ℕ) → (f1 : ℕ) → (f2 : ℕ) → x ≡ stmt.Goto f0 f1 f2 → stmt_size x ≡ 10
unfolding item_size lead_size stmt_size item_weight lead_weight stmt_weight
stmt_goto_size x f0 f1 f2 h =
    ap stmt_size (h ∙ sym (stmt.rolls-Goto f0 f1 f2))
    ∙ fold-roll-Stmt ℕ ℕ ℕ item_weight lead_weight stmt_weight (layer.Goto f0 f1 f2)

pub stmt_continue : (x : Stmt) → (f0 : ℕ) → (f1 : ℕ) → x ≡ stmt.Continue f0 f1 → stmt_of x ≡ spec.bare (spec.Continue_of f0 f1)
unfolding item_of lead_of stmt_of item_step lead_step stmt_step
stmt_continue x f0 f1 h =
    ap stmt_of (h ∙ sym (stmt.rolls-Continue f0 f1))
    ∙ fold-roll-Stmt spec.Item spec.Lead Statement item_step lead_step stmt_step (layer.Continue f0 f1)

pub stmt_continue_size : (x : Stmt) → (f0 : ℕ) → (f1 : ℕ) → x ≡ stmt.Continue f0 f1 → stmt_size x ≡ 10
unfolding item_size lead_size stmt_size item_weight lead_weight stmt_weight
stmt_continue_size x f0 f1 h =
    ap stmt_size (h ∙ sym (stmt.rolls-Continue f0 f1))
    ∙ fold-roll-Stmt ℕ ℕ ℕ item_weight lead_weight stmt_weight (layer.Continue f0 f1)

pub stmt_break : (x : Stmt) → (f0 : ℕ) → (f1 : ℕ) → x ≡ stmt.Break f0 f1 → stmt_of x ≡ spec.bare (spec.Break_of f0 f1)
unfolding item_of lead_of stmt_of item_step lead_step stmt_step
stmt_break x f0 f1 h =
    ap stmt_of (h ∙ sym (stmt.rolls-Break f0 f1))
    ∙ fold-roll-Stmt spec.Item spec.Lead Statement item_step lead_step stmt_step (layer.Break f0 f1)

pub stmt_break_size : (x : Stmt) → (f0 : ℕ) → (f1 : ℕ) → x ≡ stmt.Break f0 f1 → stmt_size x ≡ 10
unfolding item_size lead_size stmt_size item_weight lead_weight stmt_weight
stmt_break_size x f0 f1 h =
    ap stmt_size (h ∙ sym (stmt.rolls-Break f0 f1))
    ∙ fold-roll-Stmt ℕ ℕ ℕ item_weight lead_weight stmt_weight (layer.Break f0 f1)

pub stmt_return : (x : Stmt) → (f0 : ℕ) → (f1 : Option (Box Expr Global)) → (f2 : ℕ) → x ≡ stmt.Return f0 f1 f2 → stmt_of x ≡ spec.bare (spec.Return_of f0 (option_map (λ e. tree_of e.value) f1) f2)
unfolding item_of lead_of stmt_of item_step lead_step stmt_step
stmt_return x f0 f1 f2 h =
    ap stmt_of (h ∙ sym (stmt.rolls-Return f0 f1 f2))
    ∙ fold-roll-Stmt spec.Item spec.Lead Statement item_step lead_step stmt_step (layer.Return f0 f1 f2)

pub stmt_return_size : (x : Stmt) → (f0 : ℕ) → (f1 : Option (Box Expr Global)) → (f2 : ℕ) → x ≡ stmt.Return f0 f1 f2 → stmt_size x ≡ 10
unfolding item_size lead_size stmt_size item_weight lead_weight stmt_weight
stmt_return_size x f0 f1 f2 h =
    ap stmt_size (h ∙ sym (stmt.rolls-Return f0 f1 f2))
    ∙ fold-roll-Stmt ℕ ℕ ℕ item_weight lead_weight stmt_weight (layer.Return f0 f1 f2)

pub stmt_do : (x : Stmt) → (f0 : ℕ) → (f1 : Box Stmt Global) → (f2 : ℕ) → (f3 : ℕ) → (f4 : Box Expr Global) → (f5 : ℕ) → (f6 : ℕ) → x ≡ stmt.Do f0 f1 f2 f3 f4 f5 f6 → stmt_of x ≡ spec.bare (spec.Do_of f0 (stmt_of f1.value) f2 f3 (tree_of f4.value) f5 f6)
unfolding item_of lead_of stmt_of item_step lead_step stmt_step
stmt_do x f0 f1 f2 f3 f4 f5 f6 h =
    ap stmt_of (h ∙ sym (stmt.rolls-Do f0 f1 f2 f3 f4 f5 f6))
    ∙ fold-roll-Stmt spec.Item spec.Lead Statement item_step lead_step stmt_step (layer.Do f0 f1 f2 f3 f4 f5 f6)

pub stmt_do_size : (x : Stmt) → (f0 : ℕ) → (f1 : Box Stmt Global) → (f2 : ℕ) → (f3 : ℕ) → (f4 : Box Expr Global) → (f5 : ℕ) → (f6 : ℕ) → x ≡ stmt.Do f0 f1 f2 f3 f4 f5 f6 → stmt_size x ≡ 10 + stmt_size f1.value
unfolding item_size lead_size stmt_size item_weight lead_weight stmt_weight
stmt_do_size x f0 f1 f2 f3 f4 f5 f6 h =
    ap stmt_size (h ∙ sym (stmt.rolls-Do f0 f1 f2 f3 f4 f5 f6))
    ∙ fold-roll-Stmt ℕ ℕ ℕ item_weight lead_weight stmt_weight (layer.Do f0 f1 f2 f3 f4 f5 f6)

pub stmt_led : (x : Stmt) → (f0 : Vec Lead Global) → (f1 : Box Stmt Global) → x ≡ stmt.Led f0 f1 → stmt_of x ≡ spec.led (leads_of f0.items) (stmt_of f1.value)
unfolding item_of lead_of stmt_of item_step lead_step stmt_step
stmt_led x f0 f1 h =
    ap stmt_of (h ∙ sym (stmt.rolls-Led f0 f1))
    ∙ fold-roll-Stmt spec.Item spec.Lead Statement item_step lead_step stmt_step (layer.Led f0 f1)

pub stmt_led_size : (x : Stmt) → (f0 : Vec Lead Global) → (f1 : Box Stmt Global) → x ≡ stmt.Led f0 f1 → stmt_size x ≡ 10 + (leads_size f0.items + stmt_size f1.value)
unfolding item_size lead_size stmt_size item_weight lead_weight stmt_weight
stmt_led_size x f0 f1 h =
    ap stmt_size (h ∙ sym (stmt.rolls-Led f0 f1))
    ∙ fold-roll-Stmt ℕ ℕ ℕ item_weight lead_weight stmt_weight (layer.Led f0 f1)

pub lead_label : (x : Lead) → (f0 : ℕ) → (f1 : ℕ) → x ≡ lead.Label f0 f1 → lead_of x ≡ spec.Label_of f0 f1
unfolding item_of lead_of stmt_of item_step lead_step stmt_step
lead_label x f0 f1 h =
    ap lead_of (h ∙ sym (lead.rolls-Label f0 f1))
    ∙ fold-roll-Lead spec.Item spec.Lead Statement item_step lead_step stmt_step (layer.Label f0 f1)

pub lead_label_size : (x : Lead) → (f0 : ℕ) → (f1 : ℕ) → x ≡ lead.Label f0 f1 → lead_size x ≡ 10
unfolding item_size lead_size stmt_size item_weight lead_weight stmt_weight
lead_label_size x f0 f1 h =
    ap lead_size (h ∙ sym (lead.rolls-Label f0 f1))
    ∙ fold-roll-Lead ℕ ℕ ℕ item_weight lead_weight stmt_weight (layer.Label f0 f1)

pub lead_case : (x : Lead) → (f0 : ℕ) → (f1 : Box Expr Global) → (f2 : ℕ) → x ≡ lead.Case f0 f1 f2 → lead_of x ≡ spec.Case_of f0 (tree_of f1.value) f2
unfolding item_of lead_of stmt_of item_step lead_step stmt_step
lead_case x f0 f1 f2 h =
    ap lead_of (h ∙ sym (lead.rolls-Case f0 f1 f2))
    ∙ fold-roll-Lead spec.Item spec.Lead Statement item_step lead_step stmt_step (layer.Case f0 f1 f2)

pub lead_case_size : (x : Lead) → (f0 : ℕ) → (f1 : Box Expr Global) → (f2 : ℕ) → x ≡ lead.Case f0 f1 f2 → lead_size x ≡ 10
unfolding item_size lead_size stmt_size item_weight lead_weight stmt_weight
lead_case_size x f0 f1 f2 h =
    ap lead_size (h ∙ sym (lead.rolls-Case f0 f1 f2))
    ∙ fold-roll-Lead ℕ ℕ ℕ item_weight lead_weight stmt_weight (layer.Case f0 f1 f2)

pub lead_default : (x : Lead) → (f0 : ℕ) → (f1 : ℕ) → x ≡ lead.Default f0 f1 → lead_of x ≡ spec.Default_label_of f0 f1
unfolding item_of lead_of stmt_of item_step lead_step stmt_step
lead_default x f0 f1 h =
    ap lead_of (h ∙ sym (lead.rolls-Default f0 f1))
    ∙ fold-roll-Lead spec.Item spec.Lead Statement item_step lead_step stmt_step (layer.Default f0 f1)

pub lead_default_size : (x : Lead) → (f0 : ℕ) → (f1 : ℕ) → x ≡ lead.Default f0 f1 → lead_size x ≡ 10
unfolding item_size lead_size stmt_size item_weight lead_weight stmt_weight
lead_default_size x f0 f1 h =
    ap lead_size (h ∙ sym (lead.rolls-Default f0 f1))
    ∙ fold-roll-Lead ℕ ℕ ℕ item_weight lead_weight stmt_weight (layer.Default f0 f1)

pub lead_if : (x : Lead) → (f0 : ℕ) → (f1 : ℕ) → (f2 : Box Expr Global) → (f3 : ℕ) → x ≡ lead.If f0 f1 f2 f3 → lead_of x ≡ spec.If_of f0 f1 (tree_of f2.value) f3
unfolding item_of lead_of stmt_of item_step lead_step stmt_step
lead_if x f0 f1 f2 f3 h =
    ap lead_of (h ∙ sym (lead.rolls-If f0 f1 f2 f3))
    ∙ fold-roll-Lead spec.Item spec.Lead Statement item_step lead_step stmt_step (layer.If f0 f1 f2 f3)

pub lead_if_size : (x : Lead) → (f0 : ℕ) → (f1 : ℕ) → (f2 : Box Expr Global) → (f3 : ℕ) → x ≡ lead.If f0 f1 f2 f3 → lead_size x ≡ 10
unfolding item_size lead_size stmt_size item_weight lead_weight stmt_weight
lead_if_size x f0 f1 f2 f3 h =
    ap lead_size (h ∙ sym (lead.rolls-If f0 f1 f2 f3))
    ∙ fold-roll-Lead ℕ ℕ ℕ item_weight lead_weight stmt_weight (layer.If f0 f1 f2 f3)

pub lead_if_else : (x : Lead) → (f0 : ℕ) → (f1 : ℕ) → (f2 : Box Expr Global) → (f3 : ℕ) → (f4 : Box Stmt Global) → (f5 : ℕ) → x ≡ lead.IfElse f0 f1 f2 f3 f4 f5 → lead_of x ≡ spec.If_else_of f0 f1 (tree_of f2.value) f3 (stmt_of f4.value) f5
unfolding item_of lead_of stmt_of item_step lead_step stmt_step
lead_if_else x f0 f1 f2 f3 f4 f5 h =
    ap lead_of (h ∙ sym (lead.rolls-IfElse f0 f1 f2 f3 f4 f5))
    ∙ fold-roll-Lead spec.Item spec.Lead Statement item_step lead_step stmt_step (layer.IfElse f0 f1 f2 f3 f4 f5)

pub lead_if_else_size : (x : Lead) → (f0 : ℕ) → (f1 : ℕ) → (f2 : Box Expr Global) → (f3 : ℕ) → (f4 : Box Stmt Global) → (f5 : ℕ) → x ≡ lead.IfElse f0 f1 f2 f3 f4 f5 → lead_size x ≡ 10 + stmt_size f4.value
unfolding item_size lead_size stmt_size item_weight lead_weight stmt_weight
lead_if_else_size x f0 f1 f2 f3 f4 f5 h =
    ap lead_size (h ∙ sym (lead.rolls-IfElse f0 f1 f2 f3 f4 f5))
    ∙ fold-roll-Lead ℕ ℕ ℕ item_weight lead_weight stmt_weight (layer.IfElse f0 f1 f2 f3 f4 f5)

pub lead_switch : (x : Lead) → (f0 : ℕ) → (f1 : ℕ) → (f2 : Box Expr Global) → (f3 : ℕ) → x ≡ lead.Switch f0 f1 f2 f3 → lead_of x ≡ spec.Switch_of f0 f1 (tree_of f2.value) f3
unfolding item_of lead_of stmt_of item_step lead_step stmt_step
lead_switch x f0 f1 f2 f3 h =
    ap lead_of (h ∙ sym (lead.rolls-Switch f0 f1 f2 f3))
    ∙ fold-roll-Lead spec.Item spec.Lead Statement item_step lead_step stmt_step (layer.Switch f0 f1 f2 f3)

pub lead_switch_size : (x : Lead) → (f0 : ℕ) → (f1 : ℕ) → (f2 : Box Expr Global) → (f3 : ℕ) → x ≡ lead.Switch f0 f1 f2 f3 → lead_size x ≡ 10
unfolding item_size lead_size stmt_size item_weight lead_weight stmt_weight
lead_switch_size x f0 f1 f2 f3 h =
    ap lead_size (h ∙ sym (lead.rolls-Switch f0 f1 f2 f3))
    ∙ fold-roll-Lead ℕ ℕ ℕ item_weight lead_weight stmt_weight (layer.Switch f0 f1 f2 f3)

pub lead_while : (x : Lead) → (f0 : ℕ) → (f1 : ℕ) → (f2 : Box Expr Global) → (f3 : ℕ) → x ≡ lead.While f0 f1 f2 f3 → lead_of x ≡ spec.While_of f0 f1 (tree_of f2.value) f3
unfolding item_of lead_of stmt_of item_step lead_step stmt_step
lead_while x f0 f1 f2 f3 h =
    ap lead_of (h ∙ sym (lead.rolls-While f0 f1 f2 f3))
    ∙ fold-roll-Lead spec.Item spec.Lead Statement item_step lead_step stmt_step (layer.While f0 f1 f2 f3)

pub lead_while_size : (x : Lead) → (f0 : ℕ) → (f1 : ℕ) → (f2 : Box Expr Global) → (f3 : ℕ) → x ≡ lead.While f0 f1 f2 f3 → lead_size x ≡ 10
unfolding item_size lead_size stmt_size item_weight lead_weight stmt_weight
lead_while_size x f0 f1 f2 f3 h =
    ap lead_size (h ∙ sym (lead.rolls-While f0 f1 f2 f3))
    ∙ fold-roll-Lead ℕ ℕ ℕ item_weight lead_weight stmt_weight (layer.While f0 f1 f2 f3)

pub lead_for : (x : Lead) → (f0 : ℕ) → (f1 : ℕ) → (f2 : Option (Box Expr Global)) → (f3 : ℕ) → (f4 : Option (Box Expr Global)) → (f5 : ℕ) → (f6 : Option (Box Expr Global)) → (f7 : ℕ) → x ≡ lead.For f0 f1 f2 f3 f4 f5 f6 f7 → lead_of x ≡ spec.For_of f0 f1 (option_map (λ e. tree_of e.value) f2) f3 (option_map (λ e. tree_of e.value) f4) f5 (option_map (λ e. tree_of e.value) f6) f7
unfolding item_of lead_of stmt_of item_step lead_step stmt_step
lead_for x f0 f1 f2 f3 f4 f5 f6 f7 h =
    ap lead_of (h ∙ sym (lead.rolls-For f0 f1 f2 f3 f4 f5 f6 f7))
    ∙ fold-roll-Lead spec.Item spec.Lead Statement item_step lead_step stmt_step (layer.For f0 f1 f2 f3 f4 f5 f6 f7)

pub lead_for_size : (x : Lead) → (f0 : ℕ) → (f1 : ℕ) → (f2 : Option (Box Expr Global)) → (f3 : ℕ) → (f4 : Option (Box Expr Global)) → (f5 : ℕ) → (f6 : Option (Box Expr Global)) → (f7 : ℕ) → x ≡ lead.For f0 f1 f2 f3 f4 f5 f6 f7 → lead_size x ≡ 10
unfolding item_size lead_size stmt_size item_weight lead_weight stmt_weight
lead_for_size x f0 f1 f2 f3 f4 f5 f6 f7 h =
    ap lead_size (h ∙ sym (lead.rolls-For f0 f1 f2 f3 f4 f5 f6 f7))
    ∙ fold-roll-Lead ℕ ℕ ℕ item_weight lead_weight stmt_weight (layer.For f0 f1 f2 f3 f4 f5 f6 f7)

pub lead_for_declaring : (x : Lead) → (f0 : ℕ) → (f1 : ℕ) → (f2 : Box Head Global) → (f3 : Option (Box Expr Global)) → (f4 : ℕ) → (f5 : Option (Box Expr Global)) → (f6 : ℕ) → x ≡ lead.ForDeclaring f0 f1 f2 f3 f4 f5 f6 → lead_of x ≡ spec.For_declaring_of f0 f1 (heading_of f2.value) (option_map (λ e. tree_of e.value) f3) f4 (option_map (λ e. tree_of e.value) f5) f6
unfolding item_of lead_of stmt_of item_step lead_step stmt_step
lead_for_declaring x f0 f1 f2 f3 f4 f5 f6 h =
    ap lead_of (h ∙ sym (lead.rolls-ForDeclaring f0 f1 f2 f3 f4 f5 f6))
    ∙ fold-roll-Lead spec.Item spec.Lead Statement item_step lead_step stmt_step (layer.ForDeclaring f0 f1 f2 f3 f4 f5 f6)

pub lead_for_declaring_size : (x : Lead) → (f0 : ℕ) → (f1 : ℕ) → (f2 : Box Head Global) → (f3 : Option (Box Expr Global)) → (f4 : ℕ) → (f5 : Option (Box Expr Global)) → (f6 : ℕ) → x ≡ lead.ForDeclaring f0 f1 f2 f3 f4 f5 f6 → lead_size x ≡ 10
unfolding item_size lead_size stmt_size item_weight lead_weight stmt_weight
lead_for_declaring_size x f0 f1 f2 f3 f4 f5 f6 h =
    ap lead_size (h ∙ sym (lead.rolls-ForDeclaring f0 f1 f2 f3 f4 f5 f6))
    ∙ fold-roll-Lead ℕ ℕ ℕ item_weight lead_weight stmt_weight (layer.ForDeclaring f0 f1 f2 f3 f4 f5 f6)

pub item_declared : (x : Item) → (f0 : Box Head Global) → x ≡ item.Declared f0 → item_of x ≡ spec.Declared_of (heading_of f0.value)
unfolding item_of lead_of stmt_of item_step lead_step stmt_step
item_declared x f0 h =
    ap item_of (h ∙ sym (item.rolls-Declared f0))
    ∙ fold-roll-Item spec.Item spec.Lead Statement item_step lead_step stmt_step (layer.Declared f0)

pub item_declared_size : (x : Item) → (f0 : Box Head Global) → x ≡ item.Declared f0 → item_size x ≡ 10
unfolding item_size lead_size stmt_size item_weight lead_weight stmt_weight
item_declared_size x f0 h =
    ap item_size (h ∙ sym (item.rolls-Declared f0))
    ∙ fold-roll-Item ℕ ℕ ℕ item_weight lead_weight stmt_weight (layer.Declared f0)

pub item_stated : (x : Item) → (f0 : Stmt) → x ≡ item.Stated f0 → item_of x ≡ spec.Stated_of (stmt_of f0)
unfolding item_of lead_of stmt_of item_step lead_step stmt_step
item_stated x f0 h =
    ap item_of (h ∙ sym (item.rolls-Stated f0))
    ∙ fold-roll-Item spec.Item spec.Lead Statement item_step lead_step stmt_step (layer.Stated f0)

pub item_stated_size : (x : Item) → (f0 : Stmt) → x ≡ item.Stated f0 → item_size x ≡ 10 + stmt_size f0
unfolding item_size lead_size stmt_size item_weight lead_weight stmt_weight
item_stated_size x f0 h =
    ap item_size (h ∙ sym (item.rolls-Stated f0))
    ∙ fold-roll-Item ℕ ℕ ℕ item_weight lead_weight stmt_weight (layer.Stated f0)
