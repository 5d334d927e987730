use Rattle.std.proofs.Common.{ap, sym, ◌∙◌, option_map}
use Rattle.tree_data.specs.Seen.{tree_of}
use Rattle.tree_data.specs.Stated.{item_of, lead_of, stmt_of, item_step, lead_step, stmt_step}
use Rattle.tree_data.specs.Statements as spec
use Rattle.tree_data.specs.Statements.{Statement}
use Rattle.tree_data.specs.declared.statements.Item.TheFolds.{fold-roll-Lead}
use Rattle.tree_data.specs.declared.statements.Item.TheOpen as layer
use Rattle.tree_data.specs.declared.statements.Lead.TheVariants.{rolls-For}
use Rattle.tree_data.proofs.statements.Lead.for_loop.Goals as goal

pub returns : goal.returns
unfolding item_of lead_of stmt_of item_step lead_step stmt_step
returns c =
    ap lead_of (sym (rolls-For c.args.keyword c.args.opening c.in_ok-first.first c.args.behind_first c.in_ok-test.test c.args.behind_test c.in_ok-step.step c.args.closing))
    ∙ fold-roll-Lead spec.Item spec.Lead Statement item_step lead_step stmt_step (layer.For c.args.keyword c.args.opening c.in_ok-first.first c.args.behind_first c.in_ok-test.test c.args.behind_test c.in_ok-step.step c.args.closing)
    ∙ ap (λ v. spec.For_of c.args.keyword c.args.opening v c.args.behind_first (option_map (λ e. tree_of e.value) c.in_ok-test.test) c.args.behind_test (option_map (λ e. tree_of e.value) c.in_ok-step.step) c.args.closing) c.in_ok-first.ensures
    ∙ ap (λ v. spec.For_of c.args.keyword c.args.opening (option_map tree_of c.args.first) c.args.behind_first v c.args.behind_test (option_map (λ e. tree_of e.value) c.in_ok-step.step) c.args.closing) c.in_ok-test.ensures
    ∙ ap (λ v. spec.For_of c.args.keyword c.args.opening (option_map tree_of c.args.first) c.args.behind_first (option_map tree_of c.args.test) c.args.behind_test v c.args.closing) c.in_ok-step.ensures
