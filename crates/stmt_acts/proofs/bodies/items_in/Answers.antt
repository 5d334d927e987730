use Rattle.std.proofs.Common.{◌==◌, length, Some, ap, sym, ◌∙◌}
use Rattle.tree_data.specs.Stated.{stmt_of, items_of}
use Rattle.tree_data.specs.Statements as tree
use Rattle.stmt_acts.specs.Bodies as bodies
use Rattle.stmt_acts.proofs.Chains.{led_none, led_some}
use Rattle.stmt_acts.proofs.Layers.{stmt_block, stmt_expression, stmt_goto, stmt_continue, stmt_break, stmt_return, stmt_do, stmt_led}
use Rattle.stmt_acts.proofs.bodies.items_in.Goals as goal

pub returns-in-Block : goal.returns-in-Block
returns-in-Block c =
    ap (λ is. Some (tree.items (items_of is))) c.as_slice.ensures.value
    ∙ sym (ap bodies.items_in (stmt_block c.inward.here.now c.in-Block.field-0 c.in-Block.items c.in-Block.field-2 c.in-Block.is))
    ∙ c.inward.invariant

pub returns-in-Expression : goal.returns-in-Expression
returns-in-Expression c = sym (ap bodies.items_in (stmt_expression c.inward.here.now c.in-Expression.field-0 c.in-Expression.field-1 c.in-Expression.is)) ∙ c.inward.invariant

pub returns-in-Goto : goal.returns-in-Goto
returns-in-Goto c = sym (ap bodies.items_in (stmt_goto c.inward.here.now c.in-Goto.field-0 c.in-Goto.field-1 c.in-Goto.field-2 c.in-Goto.is)) ∙ c.inward.invariant

pub returns-in-Continue : goal.returns-in-Continue
returns-in-Continue c = sym (ap bodies.items_in (stmt_continue c.inward.here.now c.in-Continue.field-0 c.in-Continue.field-1 c.in-Continue.is)) ∙ c.inward.invariant

pub returns-in-Break : goal.returns-in-Break
returns-in-Break c = sym (ap bodies.items_in (stmt_break c.inward.here.now c.in-Break.field-0 c.in-Break.field-1 c.in-Break.is)) ∙ c.inward.invariant

pub returns-in-Return : goal.returns-in-Return
returns-in-Return c = sym (ap bodies.items_in (stmt_return c.inward.here.now c.in-Return.field-0 c.in-Return.field-1 c.in-Return.field-2 c.in-Return.is)) ∙ c.inward.invariant

pub returns-in-Do : goal.returns-in-Do
returns-in-Do c = sym (ap bodies.items_in (stmt_do c.inward.here.now c.in-Do.field-0 c.in-Do.field-1 c.in-Do.field-2 c.in-Do.field-3 c.in-Do.field-4 c.in-Do.field-5 c.in-Do.field-6 c.in-Do.is)) ∙ c.inward.invariant

pub returns-in-Led : goal.returns-in-Led
returns-in-Led c =
    sym (ap bodies.items_in (stmt_led c.inward.here.now c.in-Led.leads c.in-Led.inner c.in-Led.is) ∙ led_some c.in-Led.leads.items (stmt_of c.in-Led.inner.value) (ap (λ xs. length xs == 0) (sym c.as_slice-in-Led.ensures.value) ∙ sym c.if-is_empty.ensures))
    ∙ c.inward.invariant

pub inward-preserved : goal.inward-preserved
inward-preserved c =
    ap (λ s. bodies.items_in (stmt_of s)) c.deref-here.ensures
    ∙ sym (ap bodies.items_in (stmt_led c.inward.here.now c.in-Led.leads c.in-Led.inner c.in-Led.is ∙ led_none c.in-Led.leads.items (stmt_of c.in-Led.inner.value) (ap (λ xs. length xs == 0) (sym c.as_slice-in-Led.ensures.value) ∙ sym c.if-is_empty.ensures)))
    ∙ c.inward.invariant
