-- How large statements of the code are: more than what takes their place among what is left to do, which is why that comes to an end.
use Rattle.std.specs.Prelude.{ℕ, ◌+◌, List, [], ◌∷◌, map}
use Rattle.tree_data.specs.declared.statements.Item.{Item}
use Rattle.tree_data.specs.declared.statements.Item.TheOpen as layer
use Rattle.tree_data.specs.declared.statements.Item.TheOpen.{Item-F, Lead-F, Stmt-F}
use Rattle.tree_data.specs.declared.statements.Item.TheFolds.{fold-Item, fold-Lead, fold-Stmt}
use Rattle.tree_data.specs.declared.statements.Lead.{Lead}
use Rattle.tree_data.specs.declared.statements.Stmt.{Stmt}

abbrev pub total : List ℕ → ℕ
total [] = 0
total (n ∷ ns) = n + total ns

unfoldable pub item_weight : Item-F ℕ ℕ ℕ → ℕ
item_weight (layer.Declared d) = 10
item_weight (layer.Stated s) = 10 + s

unfoldable pub lead_weight : Lead-F ℕ ℕ ℕ → ℕ
lead_weight (layer.Label n c) = 10
lead_weight (layer.Case k v c) = 10
lead_weight (layer.Default k c) = 10
lead_weight (layer.If k o t c) = 10
lead_weight (layer.IfElse k o t c s e) = 10 + s.value
lead_weight (layer.Switch k o t c) = 10
lead_weight (layer.While k o t c) = 10
lead_weight (layer.For k o x m y n z c) = 10
lead_weight (layer.ForDeclaring k o d y n z c) = 10

unfoldable pub stmt_weight : Stmt-F ℕ ℕ ℕ → ℕ
stmt_weight (layer.Block o is c) = 10 + total is.items
stmt_weight (layer.Expression e m) = 10
stmt_weight (layer.Goto k n m) = 10
stmt_weight (layer.Continue k m) = 10
stmt_weight (layer.Break k m) = 10
stmt_weight (layer.Return k e m) = 10
stmt_weight (layer.Do k s w o t c m) = 10 + s.value
stmt_weight (layer.Led ls s) = 10 + (total ls.items + s.value)

unfoldable pub item_size : Item → ℕ
item_size = fold-Item ℕ ℕ ℕ item_weight lead_weight stmt_weight

unfoldable pub lead_size : Lead → ℕ
lead_size = fold-Lead ℕ ℕ ℕ item_weight lead_weight stmt_weight

unfoldable pub stmt_size : Stmt → ℕ
stmt_size = fold-Stmt ℕ ℕ ℕ item_weight lead_weight stmt_weight

abbrev pub items_size : List Item → ℕ
items_size is = total (map item_size is)

abbrev pub leads_size : List Lead → ℕ
leads_size ls = total (map lead_size ls)
