use Rattle.std.proofs.Common.{ap, sym, ◌∙◌}
use Rattle.tree_data.specs.Seen.{tree_of}
use Rattle.tree_data.specs.Stated.{item_of, lead_of, stmt_of, item_step, lead_step, stmt_step}
use Rattle.tree_data.specs.Statements as spec
use Rattle.tree_data.specs.Statements.{Statement}
use Rattle.tree_data.specs.declared.statements.Item.TheFolds.{fold-roll-Lead}
use Rattle.tree_data.specs.declared.statements.Item.TheOpen as layer
use Rattle.tree_data.specs.declared.statements.Lead.TheVariants.{rolls-If}
use Rattle.tree_data.proofs.statements.Lead.when.Goals as goal

pub returns : goal.returns
unfolding item_of lead_of stmt_of item_step lead_step stmt_step
returns c =
    ap lead_of (sym (rolls-If c.args.keyword c.args.opening c.in_ok-test.test c.args.closing))
    ∙ fold-roll-Lead spec.Item spec.Lead Statement item_step lead_step stmt_step (layer.If c.args.keyword c.args.opening c.in_ok-test.test c.args.closing)
    ∙ ap (λ v. spec.If_of c.args.keyword c.args.opening (tree_of v) c.args.closing) c.in_ok-test.ensures.ok
