use Rattle.std.proofs.Common.{ap, sym, ◌∙◌}
use Rattle.tree_data.specs.Heads.{heading_of}
use Rattle.tree_data.specs.Stated.{item_of, lead_of, stmt_of, item_step, lead_step, stmt_step}
use Rattle.tree_data.specs.Statements as spec
use Rattle.tree_data.specs.Statements.{Statement}
use Rattle.tree_data.specs.declared.statements.Item.TheFolds.{fold-roll-Item}
use Rattle.tree_data.specs.declared.statements.Item.TheOpen as layer
use Rattle.tree_data.specs.declared.statements.Item.TheVariants.{rolls-Declared}
use Rattle.tree_data.proofs.statements.Item.declared.Goals as goal

pub returns : goal.returns
unfolding item_of lead_of stmt_of item_step lead_step stmt_step
returns c =
    ap item_of (sym (rolls-Declared c.in_ok-declaration.declaration))
    ∙ fold-roll-Item spec.Item spec.Lead Statement item_step lead_step stmt_step (layer.Declared c.in_ok-declaration.declaration)
    ∙ ap (λ v. spec.Declared_of (heading_of v)) c.in_ok-declaration.ensures.ok
