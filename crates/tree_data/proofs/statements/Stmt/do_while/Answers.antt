use Rattle.std.proofs.Common.{ap, sym, ◌∙◌}
use Rattle.tree_data.specs.Seen.{tree_of}
use Rattle.tree_data.specs.Stated.{item_of, lead_of, stmt_of, item_step, lead_step, stmt_step}
use Rattle.tree_data.specs.Statements as spec
use Rattle.tree_data.specs.Statements.{Statement}
use Rattle.tree_data.specs.declared.statements.Item.TheFolds.{fold-roll-Stmt}
use Rattle.tree_data.specs.declared.statements.Item.TheOpen as layer
use Rattle.tree_data.specs.declared.statements.Stmt.TheVariants.{rolls-Do}
use Rattle.tree_data.proofs.statements.Stmt.do_while.Goals as goal

pub returns : goal.returns
unfolding item_of lead_of stmt_of item_step lead_step stmt_step
returns c =
    ap stmt_of (sym (rolls-Do c.args.keyword c.in_ok-body.body c.args.behind c.args.opening c.in_ok-test.test c.args.closing c.args.semicolon))
    ∙ fold-roll-Stmt spec.Item spec.Lead Statement item_step lead_step stmt_step (layer.Do c.args.keyword c.in_ok-body.body c.args.behind c.args.opening c.in_ok-test.test c.args.closing c.args.semicolon)
    ∙ ap (λ v. spec.bare (spec.Do_of c.args.keyword (stmt_of v) c.args.behind c.args.opening (tree_of c.in_ok-test.test.value) c.args.closing c.args.semicolon)) c.in_ok-body.ensures.ok
    ∙ ap (λ v. spec.bare (spec.Do_of c.args.keyword (stmt_of c.args.body) c.args.behind c.args.opening (tree_of v) c.args.closing c.args.semicolon)) c.in_ok-test.ensures.ok
