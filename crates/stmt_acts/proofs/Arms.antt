-- The steps of each form of a statement, and of a statement with a lead of each form in front of it.
use Rattle.std.proofs.Common.{ℕ, ◌≡◌, Vec, Box, Global, List, [], ◌∷◌, ◌++◌, Option, option_map, ap, ◌∙◌, append-nil, append_assoc}
use Rattle.tree_data.specs.declared.expr.Expr.{Expr}
use Rattle.tree_data.specs.declared.heads.Head.{Head}
use Rattle.tree_data.specs.declared.statements.Item.{Item}
use Rattle.tree_data.specs.declared.statements.Item.TheVariants as item
use Rattle.tree_data.specs.declared.statements.Lead.{Lead}
use Rattle.tree_data.specs.declared.statements.Lead.TheVariants as lead
use Rattle.tree_data.specs.declared.statements.Stmt.{Stmt}
use Rattle.tree_data.specs.declared.statements.Stmt.TheVariants as stmt
use Rattle.tree_data.specs.Heads.{heading_of}
use Rattle.tree_data.specs.Seen.{tree_of}
use Rattle.tree_data.specs.Stated.{item_of, lead_of, stmt_of, items_of, leads_of}
use Rattle.tree_data.specs.Statements as tree
use Rattle.tree_data.specs.Statements.{Statement, Core, bare, led}
use Rattle.stmt_acts.specs.declared.acts.Within.{Within}
use Rattle.stmt_acts.specs.Acts.{Act, Enter, Leave, If_test, Loop_test, Switch_on, End_switch, Case_label, Default_label, Label, Goto, Continue, Break, Return, Declare, Declare_in_for}
use Rattle.stmt_acts.specs.Bodies as bodies
use Rattle.stmt_acts.specs.Bodies.{statement, items, core, front, inside, back, evaluated, tested}
use Rattle.stmt_acts.specs.Withins.{looped, switched}
use Rattle.stmt_acts.proofs.Layers.{stmt_block, stmt_expression, stmt_goto, stmt_continue, stmt_break, stmt_return, stmt_do, stmt_led, item_declared, item_stated, lead_label, lead_case, lead_default, lead_if, lead_if_else, lead_switch, lead_while, lead_for, lead_for_declaring}

bare_is : (w : Within) → (c : Core) → statement w (bare c) ≡ core w c
bare_is w c = append-nil (core w c)

pub of_block : (x : Stmt) → (f0 : ℕ) → (f1 : Vec Item Global) → (f2 : ℕ) → x ≡ stmt.Block f0 f1 f2 → (w : Within) → statement w (stmt_of x) ≡ Enter ∷ (items w (tree.items (items_of f1.items)) ++ (Leave ∷ []))
of_block x f0 f1 f2 h w = ap (statement w) (stmt_block x f0 f1 f2 h) ∙ bare_is w (tree.Block_of f0 (tree.items (items_of f1.items)) f2)

pub of_expression : (x : Stmt) → (f0 : Option (Box Expr Global)) → (f1 : ℕ) → x ≡ stmt.Expression f0 f1 → (w : Within) → statement w (stmt_of x) ≡ evaluated (option_map (λ e. tree_of e.value) f0)
of_expression x f0 f1 h w = ap (statement w) (stmt_expression x f0 f1 h) ∙ bare_is w (tree.Expression_of (option_map (λ e. tree_of e.value) f0) f1)

pub of_goto : (x : Stmt) → (f0 : ℕ) → (f1 : ℕ) → (f2 : ℕ) → x ≡ stmt.Goto f0 f1 f2 → (w : Within) → statement w (stmt_of x) ≡ Goto f1 ∷ []
of_goto x f0 f1 f2 h w = ap (statement w) (stmt_goto x f0 f1 f2 h) ∙ bare_is w (tree.Goto_of f0 f1 f2)

pub of_continue : (x : Stmt) → (f0 : ℕ) → (f1 : ℕ) → x ≡ stmt.Continue f0 f1 → (w : Within) → statement w (stmt_of x) ≡ Continue f0 w ∷ []
of_continue x f0 f1 h w = ap (statement w) (stmt_continue x f0 f1 h) ∙ bare_is w (tree.Continue_of f0 f1)

pub of_break : (x : Stmt) → (f0 : ℕ) → (f1 : ℕ) → x ≡ stmt.Break f0 f1 → (w : Within) → statement w (stmt_of x) ≡ Break f0 w ∷ []
of_break x f0 f1 h w = ap (statement w) (stmt_break x f0 f1 h) ∙ bare_is w (tree.Break_of f0 f1)

pub of_return : (x : Stmt) → (f0 : ℕ) → (f1 : Option (Box Expr Global)) → (f2 : ℕ) → x ≡ stmt.Return f0 f1 f2 → (w : Within) → statement w (stmt_of x) ≡ Return f0 (option_map (λ e. tree_of e.value) f1) ∷ []
of_return x f0 f1 f2 h w = ap (statement w) (stmt_return x f0 f1 f2 h) ∙ bare_is w (tree.Return_of f0 (option_map (λ e. tree_of e.value) f1) f2)

pub of_do : (x : Stmt) → (f0 : ℕ) → (f1 : Box Stmt Global) → (f2 : ℕ) → (f3 : ℕ) → (f4 : Box Expr Global) → (f5 : ℕ) → (f6 : ℕ) → x ≡ stmt.Do f0 f1 f2 f3 f4 f5 f6 → (w : Within) → statement w (stmt_of x) ≡ Enter ∷ Enter ∷ (statement (looped w) (stmt_of f1.value) ++ (Leave ∷ Loop_test f0 (tree_of f4.value) ∷ Leave ∷ []))
of_do x f0 f1 f2 f3 f4 f5 f6 h w = ap (statement w) (stmt_do x f0 f1 f2 f3 f4 f5 f6 h) ∙ bare_is w (tree.Do_of f0 (stmt_of f1.value) f2 f3 (tree_of f4.value) f5 f6)

pub of_led : (x : Stmt) → (f0 : Vec Lead Global) → (f1 : Box Stmt Global) → x ≡ stmt.Led f0 f1 → (w : Within) → statement w (stmt_of x) ≡ statement w (led (leads_of f0.items) (stmt_of f1.value))
of_led x f0 f1 h w = ap (statement w) (stmt_led x f0 f1 h)

pub of_declared : (x : Item) → (f0 : Box Head Global) → x ≡ item.Declared f0 → (w : Within) → bodies.item w (item_of x) ≡ Declare (heading_of f0.value) ∷ []
of_declared x f0 h w = ap (bodies.item w) (item_declared x f0 h)

pub of_stated : (x : Item) → (f0 : Stmt) → x ≡ item.Stated f0 → (w : Within) → bodies.item w (item_of x) ≡ statement w (stmt_of f0)
of_stated x f0 h w = ap (bodies.item w) (item_stated x f0 h)

three : (a b c d : List Act) → (a ++ (b ++ (c ++ (Enter ∷ [])))) ++ d ≡ a ++ (b ++ (c ++ (Enter ∷ d)))
three a b c d = simp append_assoc

pub behind_label : (x : Lead) → (f0 : ℕ) → (f1 : ℕ) → x ≡ lead.Label f0 f1 → (w : Within) → (s : Statement) → front w (lead_of x) ++ (statement (inside w (lead_of x)) s ++ back (lead_of x)) ≡ Label f0 ∷ statement w s
behind_label x f0 f1 h w s =
    ap (λ l. front w l ++ (statement (inside w l) s ++ back l)) (lead_label x f0 f1 h)
    ∙ ap (λ y. Label f0 ∷ y) (append-nil (statement w s))

pub behind_case : (x : Lead) → (f0 : ℕ) → (f1 : Box Expr Global) → (f2 : ℕ) → x ≡ lead.Case f0 f1 f2 → (w : Within) → (s : Statement) → front w (lead_of x) ++ (statement (inside w (lead_of x)) s ++ back (lead_of x)) ≡ Case_label f0 (tree_of f1.value) ∷ statement w s
behind_case x f0 f1 f2 h w s =
    ap (λ l. front w l ++ (statement (inside w l) s ++ back l)) (lead_case x f0 f1 f2 h)
    ∙ ap (λ y. Case_label f0 (tree_of f1.value) ∷ y) (append-nil (statement w s))

pub behind_default : (x : Lead) → (f0 : ℕ) → (f1 : ℕ) → x ≡ lead.Default f0 f1 → (w : Within) → (s : Statement) → front w (lead_of x) ++ (statement (inside w (lead_of x)) s ++ back (lead_of x)) ≡ Default_label f0 ∷ statement w s
behind_default x f0 f1 h w s =
    ap (λ l. front w l ++ (statement (inside w l) s ++ back l)) (lead_default x f0 f1 h)
    ∙ ap (λ y. Default_label f0 ∷ y) (append-nil (statement w s))

pub behind_if : (x : Lead) → (f0 : ℕ) → (f1 : ℕ) → (f2 : Box Expr Global) → (f3 : ℕ) → x ≡ lead.If f0 f1 f2 f3 → (w : Within) → (s : Statement) → front w (lead_of x) ++ (statement (inside w (lead_of x)) s ++ back (lead_of x)) ≡ Enter ∷ If_test f0 (tree_of f2.value) ∷ Enter ∷ (statement w s ++ (Leave ∷ Leave ∷ []))
behind_if x f0 f1 f2 f3 h w s =
    ap (λ l. front w l ++ (statement (inside w l) s ++ back l)) (lead_if x f0 f1 f2 f3 h)

pub behind_if_else : (x : Lead) → (f0 : ℕ) → (f1 : ℕ) → (f2 : Box Expr Global) → (f3 : ℕ) → (f4 : Box Stmt Global) → (f5 : ℕ) → x ≡ lead.IfElse f0 f1 f2 f3 f4 f5 → (w : Within) → (s : Statement) → front w (lead_of x) ++ (statement (inside w (lead_of x)) s ++ back (lead_of x)) ≡ Enter ∷ If_test f0 (tree_of f2.value) ∷ Enter ∷ (statement w (stmt_of f4.value) ++ (Leave ∷ Enter ∷ (statement w s ++ (Leave ∷ Leave ∷ []))))
behind_if_else x f0 f1 f2 f3 f4 f5 h w s =
    ap (λ l. front w l ++ (statement (inside w l) s ++ back l)) (lead_if_else x f0 f1 f2 f3 f4 f5 h)
    ∙ ap (λ y. Enter ∷ If_test f0 (tree_of f2.value) ∷ Enter ∷ y) (append_assoc (statement w (stmt_of f4.value)) (Leave ∷ Enter ∷ []) (statement w s ++ (Leave ∷ Leave ∷ [])))

pub behind_switch : (x : Lead) → (f0 : ℕ) → (f1 : ℕ) → (f2 : Box Expr Global) → (f3 : ℕ) → x ≡ lead.Switch f0 f1 f2 f3 → (w : Within) → (s : Statement) → front w (lead_of x) ++ (statement (inside w (lead_of x)) s ++ back (lead_of x)) ≡ Enter ∷ Switch_on f0 (tree_of f2.value) ∷ Enter ∷ (statement (switched w) s ++ (Leave ∷ End_switch ∷ Leave ∷ []))
behind_switch x f0 f1 f2 f3 h w s =
    ap (λ l. front w l ++ (statement (inside w l) s ++ back l)) (lead_switch x f0 f1 f2 f3 h)

pub behind_while : (x : Lead) → (f0 : ℕ) → (f1 : ℕ) → (f2 : Box Expr Global) → (f3 : ℕ) → x ≡ lead.While f0 f1 f2 f3 → (w : Within) → (s : Statement) → front w (lead_of x) ++ (statement (inside w (lead_of x)) s ++ back (lead_of x)) ≡ Enter ∷ Loop_test f0 (tree_of f2.value) ∷ Enter ∷ (statement (looped w) s ++ (Leave ∷ Leave ∷ []))
behind_while x f0 f1 f2 f3 h w s =
    ap (λ l. front w l ++ (statement (inside w l) s ++ back l)) (lead_while x f0 f1 f2 f3 h)

pub behind_for : (x : Lead) → (f0 : ℕ) → (f1 : ℕ) → (f2 : Option (Box Expr Global)) → (f3 : ℕ) → (f4 : Option (Box Expr Global)) → (f5 : ℕ) → (f6 : Option (Box Expr Global)) → (f7 : ℕ) → x ≡ lead.For f0 f1 f2 f3 f4 f5 f6 f7 → (w : Within) → (s : Statement) → front w (lead_of x) ++ (statement (inside w (lead_of x)) s ++ back (lead_of x)) ≡ Enter ∷ (evaluated (option_map (λ e. tree_of e.value) f2) ++ (tested f0 (option_map (λ e. tree_of e.value) f4) ++ (evaluated (option_map (λ e. tree_of e.value) f6) ++ (Enter ∷ (statement (looped w) s ++ (Leave ∷ Leave ∷ []))))))
behind_for x f0 f1 f2 f3 f4 f5 f6 f7 h w s =
    ap (λ l. front w l ++ (statement (inside w l) s ++ back l)) (lead_for x f0 f1 f2 f3 f4 f5 f6 f7 h)
    ∙ ap (λ y. Enter ∷ y) (three (evaluated (option_map (λ e. tree_of e.value) f2)) (tested f0 (option_map (λ e. tree_of e.value) f4)) (evaluated (option_map (λ e. tree_of e.value) f6)) (statement (looped w) s ++ (Leave ∷ Leave ∷ [])))

pub behind_for_declaring : (x : Lead) → (f0 : ℕ) → (f1 : ℕ) → (f2 : Box Head Global) → (f3 : Option (Box Expr Global)) → (f4 : ℕ) → (f5 : Option (Box Expr Global)) → (f6 : ℕ) → x ≡ lead.ForDeclaring f0 f1 f2 f3 f4 f5 f6 → (w : Within) → (s : Statement) → front w (lead_of x) ++ (statement (inside w (lead_of x)) s ++ back (lead_of x)) ≡ Enter ∷ ((Declare_in_for (heading_of f2.value) ∷ []) ++ (tested f0 (option_map (λ e. tree_of e.value) f3) ++ (evaluated (option_map (λ e. tree_of e.value) f5) ++ (Enter ∷ (statement (looped w) s ++ (Leave ∷ Leave ∷ []))))))
behind_for_declaring x f0 f1 f2 f3 f4 f5 f6 h w s =
    ap (λ l. front w l ++ (statement (inside w l) s ++ back l)) (lead_for_declaring x f0 f1 f2 f3 f4 f5 f6 h)
    ∙ ap (λ y. Enter ∷ y) (three (Declare_in_for (heading_of f2.value) ∷ []) (tested f0 (option_map (λ e. tree_of e.value) f3)) (evaluated (option_map (λ e. tree_of e.value) f5)) (statement (looped w) s ++ (Leave ∷ Leave ∷ [])))
