use Rattle.std.proofs.Common.{ap, sym, ◌∙◌, length, ◌==◌}
use Rattle.tree_data.specs.Stated.{item_of, lead_of, stmt_of, item_step, lead_step, stmt_step, leads_of}
use Rattle.tree_data.specs.Statements as spec
use Rattle.tree_data.specs.Statements.{Statement}
use Rattle.tree_data.specs.declared.statements.Item.TheFolds.{fold-roll-Stmt}
use Rattle.tree_data.specs.declared.statements.Item.TheOpen as layer
use Rattle.tree_data.specs.declared.statements.Stmt.TheVariants.{rolls-Led}
use Rattle.tree_data.proofs.Leads.{led_by_none}
use Rattle.tree_data.proofs.statements.Stmt.led.Goals as goal

pub returns : goal.returns
unfolding item_of lead_of stmt_of item_step lead_step stmt_step
returns c =
    ap stmt_of (sym (rolls-Led c.args.leads c.in_ok-stmt.stmt))
    ∙ fold-roll-Stmt spec.Item spec.Lead Statement item_step lead_step stmt_step (layer.Led c.args.leads c.in_ok-stmt.stmt)
    ∙ ap (λ v. spec.led (leads_of c.args.leads.items) (stmt_of v)) c.in_ok-stmt.ensures.ok

pub returns-then-is_empty : goal.returns-then-is_empty
returns-then-is_empty c =
    led_by_none
    c.args.leads.items
    (stmt_of c.args.stmt)
    (ap (λ xs. length xs == 0) (sym c.as_slice.ensures.value) ∙ sym c.if-is_empty.ensures)
