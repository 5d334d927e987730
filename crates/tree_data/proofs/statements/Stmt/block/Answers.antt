use Rattle.std.proofs.Common.{ap, sym, ◌∙◌}
use Rattle.tree_data.specs.Stated.{item_of, lead_of, stmt_of, item_step, lead_step, stmt_step}
use Rattle.tree_data.specs.Statements as spec
use Rattle.tree_data.specs.Statements.{Statement}
use Rattle.tree_data.specs.declared.statements.Item.TheFolds.{fold-roll-Stmt}
use Rattle.tree_data.specs.declared.statements.Item.TheOpen as layer
use Rattle.tree_data.specs.declared.statements.Stmt.TheVariants.{rolls-Block}
use Rattle.tree_data.proofs.statements.Stmt.block.Goals as goal

pub returns : goal.returns
unfolding item_of lead_of stmt_of item_step lead_step stmt_step
returns c =
    ap stmt_of (sym (rolls-Block c.args.opening c.args.items c.args.closing))
    ∙ fold-roll-Stmt spec.Item spec.Lead Statement item_step lead_step stmt_step (layer.Block c.args.opening c.args.items c.args.closing)
