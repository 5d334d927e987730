-- What a statement of the code stands for.
use Rattle.std.specs.Prelude.{List, map, option_map}
use Rattle.tree_data.specs.declared.statements.Item.{Item}
use Rattle.tree_data.specs.declared.statements.Item.TheOpen as layer
use Rattle.tree_data.specs.declared.statements.Item.TheOpen.{Item-F, Lead-F, Stmt-F}
use Rattle.tree_data.specs.declared.statements.Item.TheFolds.{fold-Item, fold-Lead, fold-Stmt}
use Rattle.tree_data.specs.declared.statements.Lead.{Lead}
use Rattle.tree_data.specs.declared.statements.Stmt.{Stmt}
use Rattle.tree_data.specs.Heads.{heading_of}
use Rattle.tree_data.specs.Seen.{tree_of}
use Rattle.tree_data.specs.Statements as spec
use Rattle.tree_data.specs.Statements.{Statement}

unfoldable pub item_step : Item-F spec.Item spec.Lead Statement → spec.Item
item_step (layer.Declared d) = spec.Declared_of (heading_of d.value)
item_step (layer.Stated s) = spec.Stated_of s

unfoldable pub lead_step : Lead-F spec.Item spec.Lead Statement → spec.Lead
lead_step (layer.Label n c) = spec.Label_of n c
lead_step (layer.Case k v c) = spec.Case_of k (tree_of v.value) c
lead_step (layer.Default k c) = spec.Default_label_of k c
lead_step (layer.If k o t c) = spec.If_of k o (tree_of t.value) c
lead_step (layer.IfElse k o t c s e) = spec.If_else_of k o (tree_of t.value) c s.value e
lead_step (layer.Switch k o t c) = spec.Switch_of k o (tree_of t.value) c
lead_step (layer.While k o t c) = spec.While_of k o (tree_of t.value) c
lead_step (layer.For k o x m y n z c) =
    spec.For_of k o (option_map (λ e. tree_of e.value) x) m (option_map (λ e. tree_of e.value) y) n (option_map (λ e. tree_of e.value) z) c
lead_step (layer.ForDeclaring k o d y n z c) =
    spec.For_declaring_of k o (heading_of d.value) (option_map (λ e. tree_of e.value) y) n (option_map (λ e. tree_of e.value) z) c

unfoldable pub stmt_step : Stmt-F spec.Item spec.Lead Statement → Statement
stmt_step (layer.Block o is c) = spec.bare (spec.Block_of o (spec.items is.items) c)
stmt_step (layer.Expression e m) = spec.bare (spec.Expression_of (option_map (λ x. tree_of x.value) e) m)
stmt_step (layer.Goto k n m) = spec.bare (spec.Goto_of k n m)
stmt_step (layer.Continue k m) = spec.bare (spec.Continue_of k m)
stmt_step (layer.Break k m) = spec.bare (spec.Break_of k m)
stmt_step (layer.Return k e m) = spec.bare (spec.Return_of k (option_map (λ x. tree_of x.value) e) m)
stmt_step (layer.Do k s w o t c m) = spec.bare (spec.Do_of k s.value w o (tree_of t.value) c m)
stmt_step (layer.Led ls s) = spec.led ls.items s.value

unfoldable pub item_of : Item → spec.Item
item_of = fold-Item spec.Item spec.Lead Statement item_step lead_step stmt_step

unfoldable pub lead_of : Lead → spec.Lead
lead_of = fold-Lead spec.Item spec.Lead Statement item_step lead_step stmt_step

unfoldable pub stmt_of : Stmt → Statement
stmt_of = fold-Stmt spec.Item spec.Lead Statement item_step lead_step stmt_step

-- the trees of lists
abbrev pub items_of : List Item → List spec.Item
items_of is = map item_of is

abbrev pub leads_of : List Lead → List spec.Lead
leads_of ls = map lead_of ls
