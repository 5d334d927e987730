use Rattle.std.proofs.Common.{ap, sym, ◌∙◌}
use Rattle.tree_data.specs.Seen.{tree_of}
use Rattle.tree_data.specs.Stated.{item_of, lead_of, stmt_of, item_step, lead_step, stmt_step}
use Rattle.tree_data.specs.Statements as spec
use Rattle.tree_data.specs.Statements.{Statement}
use Rattle.tree_data.specs.declared.statements.Item.TheFolds.{fold-roll-Lead}
use Rattle.tree_data.specs.declared.statements.Item.TheOpen as layer
use Rattle.tree_data.specs.declared.statements.Lead.TheVariants.{rolls-Case}
use Rattle.tree_data.proofs.statements.Lead.case.Goals as goal

pub returns : goal.returns
unfolding item_of lead_of stmt_of item_step lead_step stmt_step
returns c =
    ap lead_of (sym (rolls-Case c.args.keyword c.in_ok-value.value c.args.colon))
    ∙ fold-roll-Lead spec.Item spec.Lead Statement item_step lead_step stmt_step (layer.Case c.args.keyword c.in_ok-value.value c.args.colon)
    ∙ ap (λ v. spec.Case_of c.args.keyword (tree_of v) c.args.colon) c.in_ok-value.ensures.ok
