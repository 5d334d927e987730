use Rattle.std.proofs.Common.{arith, ◌≡◌, ◌<◌, ◌+◌, [], ◌∷◌, ◌++◌, IfOk, ap, sym, subst, ◌∙◌}
use Rattle.tree_data.specs.Seen.{tree_of}
use Rattle.tree_data.specs.Stated.{stmt_of, items_of, leads_of}
use Rattle.tree_data.specs.Statements as tree
use Rattle.tree_data.specs.Statements.{led}
use Rattle.stmt_acts.specs.Acts.{Enter, Leave, Loop_test, Return}
use Rattle.stmt_acts.specs.Bodies.{statement, items}
use Rattle.stmt_acts.specs.Shown.{one_of}
use Rattle.stmt_acts.specs.Sizes.{stmt_size, items_size, leads_size}
use Rattle.stmt_acts.specs.Withins.{looped}
use Rattle.stmt_acts.specs.Works.{acts_left, size_left}
use Rattle.stmt_acts.proofs.Arms.{of_block, of_expression, of_goto, of_continue, of_break, of_return, of_do, of_led}
use Rattle.stmt_acts.proofs.Layers.{stmt_block_size, stmt_expression_size, stmt_goto_size, stmt_continue_size, stmt_break_size, stmt_return_size, stmt_do_size, stmt_led_size}
use Rattle.stmt_acts.proofs.statements.statement.Goals as goal

pub returns-in-Block-clause-acts : goal.returns-in-Block-clause-acts
returns-in-Block-clause-acts c =
    subst (λ x. IfOk c.block.result (λ a. one_of a ++ acts_left c.block.new.works ≡ x ++ acts_left c.args.works.now)) (ap (λ is. Enter ∷ (items c.args.within (tree.items (items_of is)) ++ (Leave ∷ []))) c.as_slice.ensures.value ∙ sym (of_block c.args.stmt.now c.in-Block.field-0 c.in-Block.items c.in-Block.field-2 c.in-Block.is c.args.within)) c.block.ensures.acts

pub returns-in-Block-clause-size : goal.returns-in-Block-clause-size
returns-in-Block-clause-size c =
    subst (λ n. IfOk c.block.result (λ a. size_left c.block.new.works < n + size_left c.args.works.now)) (ap (λ is. 10 + items_size is) c.as_slice.ensures.value ∙ sym (stmt_block_size c.args.stmt.now c.in-Block.field-0 c.in-Block.items c.in-Block.field-2 c.in-Block.is)) c.block.ensures.size

pub returns-in-Expression-clause-acts : goal.returns-in-Expression-clause-acts
returns-in-Expression-clause-acts c =
    ap (λ x. x ++ acts_left c.args.works.now) (c.evaluated.ensures ∙ sym (of_expression c.args.stmt.now c.in-Expression.expr c.in-Expression.field-1 c.in-Expression.is c.args.within))

pub returns-in-Expression-clause-size : goal.returns-in-Expression-clause-size
returns-in-Expression-clause-size c =
    let size = stmt_expression_size c.args.stmt.now c.in-Expression.expr c.in-Expression.field-1 c.in-Expression.is in omega (arith, size)

pub returns-in-Goto-clause-acts : goal.returns-in-Goto-clause-acts
returns-in-Goto-clause-acts c =
    ap (λ x. x ++ acts_left c.args.works.now) (sym (of_goto c.args.stmt.now c.in-Goto.field-0 c.in-Goto.name c.in-Goto.field-2 c.in-Goto.is c.args.within))

pub returns-in-Goto-clause-size : goal.returns-in-Goto-clause-size
returns-in-Goto-clause-size c =
    let size = stmt_goto_size c.args.stmt.now c.in-Goto.field-0 c.in-Goto.name c.in-Goto.field-2 c.in-Goto.is in omega (arith, size)

pub returns-in-Continue-clause-acts : goal.returns-in-Continue-clause-acts
returns-in-Continue-clause-acts c =
    ap (λ x. x ++ acts_left c.args.works.now) (sym (of_continue c.args.stmt.now c.in-Continue.at c.in-Continue.field-1 c.in-Continue.is c.args.within))

pub returns-in-Continue-clause-size : goal.returns-in-Continue-clause-size
returns-in-Continue-clause-size c =
    let size = stmt_continue_size c.args.stmt.now c.in-Continue.at c.in-Continue.field-1 c.in-Continue.is in omega (arith, size)

pub returns-in-Break-clause-acts : goal.returns-in-Break-clause-acts
returns-in-Break-clause-acts c =
    ap (λ x. x ++ acts_left c.args.works.now) (sym (of_break c.args.stmt.now c.in-Break.at c.in-Break.field-1 c.in-Break.is c.args.within))

pub returns-in-Break-clause-size : goal.returns-in-Break-clause-size
returns-in-Break-clause-size c =
    let size = stmt_break_size c.args.stmt.now c.in-Break.at c.in-Break.field-1 c.in-Break.is in omega (arith, size)

pub returns-in-Return-clause-acts : goal.returns-in-Return-clause-acts
returns-in-Return-clause-acts c =
    ap (λ x. x ++ acts_left c.args.works.now) (ap (λ e. Return c.in-Return.at e ∷ []) c.lent.ensures ∙ sym (of_return c.args.stmt.now c.in-Return.at c.in-Return.value c.in-Return.field-2 c.in-Return.is c.args.within))

pub returns-in-Return-clause-size : goal.returns-in-Return-clause-size
returns-in-Return-clause-size c =
    let size = stmt_return_size c.args.stmt.now c.in-Return.at c.in-Return.value c.in-Return.field-2 c.in-Return.is in omega (arith, size)

pub returns-in-Do-clause-acts : goal.returns-in-Do-clause-acts
returns-in-Do-clause-acts c =
    subst (λ x. IfOk c.repeated.result (λ a. one_of a ++ acts_left c.repeated.new.works ≡ x ++ acts_left c.args.works.now)) (ap (λ s. Enter ∷ Enter ∷ (statement (looped c.args.within) (stmt_of s) ++ (Leave ∷ Loop_test c.in-Do.at (tree_of c.deref-in-Do.result.now) ∷ Leave ∷ []))) c.deref.ensures
    ∙ ap (λ t. Enter ∷ Enter ∷ (statement (looped c.args.within) (stmt_of c.in-Do.inner.value) ++ (Leave ∷ Loop_test c.in-Do.at (tree_of t) ∷ Leave ∷ []))) c.deref-in-Do.ensures
    ∙ sym (of_do c.args.stmt.now c.in-Do.at c.in-Do.inner c.in-Do.field-2 c.in-Do.field-3 c.in-Do.test c.in-Do.field-5 c.in-Do.field-6 c.in-Do.is c.args.within)) c.repeated.ensures.acts

pub returns-in-Do-clause-size : goal.returns-in-Do-clause-size
returns-in-Do-clause-size c =
    subst (λ n. IfOk c.repeated.result (λ a. size_left c.repeated.new.works < n + size_left c.args.works.now)) (ap (λ s. 10 + stmt_size s) c.deref.ensures ∙ sym (stmt_do_size c.args.stmt.now c.in-Do.at c.in-Do.inner c.in-Do.field-2 c.in-Do.field-3 c.in-Do.test c.in-Do.field-5 c.in-Do.field-6 c.in-Do.is)) c.repeated.ensures.size

pub returns-in_ok-push-in-Led-clause-acts : goal.returns-in_ok-push-in-Led-clause-acts
returns-in_ok-push-in-Led-clause-acts c =
    c.in_ok-push-in-Led.ensures.acts
    ∙ ap (λ x. x ++ acts_left c.args.works.now) (ap (λ ls. statement c.args.within (led (leads_of ls) (stmt_of c.deref-in-Led.result.now))) c.as_slice-in-Led.ensures.value
    ∙ ap (λ s. statement c.args.within (led (leads_of c.in-Led.leads.items) (stmt_of s))) c.deref-in-Led.ensures
    ∙ sym (of_led c.args.stmt.now c.in-Led.leads c.in-Led.inner c.in-Led.is c.args.within))

pub returns-in_ok-push-in-Led-clause-size : goal.returns-in_ok-push-in-Led-clause-size
returns-in_ok-push-in-Led-clause-size c =
    let size = stmt_led_size c.args.stmt.now c.in-Led.leads c.in-Led.inner c.in-Led.is in
    let pushed = c.in_ok-push-in-Led.ensures.size ∙ ap (λ ls. 1 + (leads_size ls + stmt_size c.deref-in-Led.result.now) + size_left c.args.works.now) c.as_slice-in-Led.ensures.value
    ∙ ap (λ s. 1 + (leads_size c.in-Led.leads.items + stmt_size s) + size_left c.args.works.now) c.deref-in-Led.ensures in
    omega (arith, size, pushed)
