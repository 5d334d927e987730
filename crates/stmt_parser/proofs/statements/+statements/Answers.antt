use Rattle.std.proofs.Common.{◌∙◌, refl, sym, ap, subst, ◌+◌, None}
use Rattle.tree_data.specs.Stated.{stmt_of, item_of, leads_of, items_of}
use Rattle.stmt_parser.specs.Found.{FoundStatement, FoundItem}
use Rattle.stmt_parser.specs.InForce.{past_item}
use Rattle.stmt_parser.specs.Bodies.{is_block}
use Rattle.stmt_parser.specs.Frames.{Goes}
use Rattle.stmt_parser.proofs.FramesRead.{pending_begins, pending_fails}
use Rattle.stmt_parser.proofs.OutsideRead.{Reaches, block_past, outside_begins, outside_goes, outside_ends}
use Rattle.stmt_parser.proofs.StatementsRead.{mapped, declared_found, stated_found, declared_fails, stated_fails, blocking_begins, blocking_turns, blocking_fails, blocking_ends}
use Rattle.stmt_parser.proofs.statements.+statements.Goals as goal

-- items
pub item-returns-in-Err : goal.item-returns-in-Err
item-returns-in-Err t c = record {
  found = tt;
  past = tt;
  fails =
      declared_fails
      c.requires.law
      _
      _
      (sym c.declares_at.ensures ∙ c.if-declares_at.true)
      _
      (λ d b h. c.in-Err.ensures.only d b h);
}

pub item-returns-then-declares_at : goal.item-returns-then-declares_at
item-returns-then-declares_at t c = record {
  found =
      subst
      (λ i. FoundItem c.args.scope c.args.at i c.in-Ok.found.2)
      (sym c.in-Ok-declared.ensures)
      (declared_found _ _ _ _ c.in-Ok.ensures.found);
  past = c.in-Ok.ensures.past ∙ sym (ap (past_item c.args.scope) c.in-Ok-declared.ensures);
  fails = tt;
}

pub item-returns-in-Ok-statement : goal.item-returns-in-Ok-statement
item-returns-in-Ok-statement t c = record {
  found =
      subst
      (λ i. FoundItem c.args.scope c.args.at i c.in-Ok-statement.end)
      (sym c.stated.ensures)
      (stated_found _ _ _ _ c.in-Ok-statement.ensures.found);
  past = c.in-Ok-statement.ensures.past ∙ sym (ap (past_item c.args.scope) c.stated.ensures);
  fails = tt;
}

pub item-returns : goal.item-returns
item-returns t c = record {
  found = tt;
  past = tt;
  fails =
      stated_fails c.requires.law _ _ (sym c.declares_at.ensures ∙ c.if-declares_at.false) _ c.in-Err-statement.ensures.fails;
}

-- blocks
pub block-items-init : goal.block-items-init
block-items-init t c = blocking_begins _ _ c.in-Ok.ensures _ c.requires.inside _ (ap items_of c.new-items.ensures.items)

pub block-returns-in-CloseBrace : goal.block-returns-in-CloseBrace
block-returns-in-CloseBrace t c = record {
  found =
      subst
      (λ s. FoundStatement c.args.scope.now c.args.at s (c.items.place + 1))
      (sym c.block.ensures)
      (blocking_ends
      c.requires.law
      _
      _
      c.requires.kind
      _
      _
      _
      c.items.invariant
      (sym c.in-CloseBrace.ensures.kind)
      c.in-CloseBrace.ensures.inside);
  braced = ap is_block c.block.ensures;
  fails = tt;
}

pub block-returns-in-Err-item : goal.block-returns-in-Err-item
block-returns-in-Err-item t c = record {
  found = tt;
  braced = tt;
  fails =
      blocking_fails
      c.requires.law
      _
      _
      c.requires.kind
      _
      _
      _
      c.items.invariant
      (λ k. c.in_default.not-CloseBrace (c.kind_at.ensures.kind ∙ k))
      _
      c.in-Err-item.ensures.fails;
}

pub block-items-preserved : goal.block-items-preserved
block-items-preserved t c =
    blocking_turns
    c.requires.law
    _
    _
    _
    _
    _
    c.items.invariant
    (λ k. c.in_default.not-CloseBrace (c.kind_at.ensures.kind ∙ k))
    _
    _
    c.in-Ok-item.ensures.found
    _
    c.in-Ok-item.ensures.past
    _
    (ap items_of c.in-Ok-push.ensures.items ∙ mapped item_of _ _)

-- statements
pub core-returns-in-Ok : goal.core-returns-in-Ok
core-returns-in-Ok t c = record {
  found = c.in-Ok.ensures.found;
  past = block_past c.args.scope (stmt_of c.in-Ok.stmt) c.in-Ok.ensures.braced;
  fails = tt;
}

pub statement-steps-init : goal.statement-steps-init
statement-steps-init t c = record {
  pending =
      pending_begins c.requires.law _ _ c.in-Ok.ensures _ c.requires.inside _ c.new-frames.ensures.items _ (ap leads_of c.new-leads.ensures.items);
  outside = outside_begins _ _ c.in-Ok.ensures _ None refl;
  kinds = ap (λ w. w.kinds) c.in-Ok.ensures;
  within = c.requires.inside;
}

pub statement-returns-in-Err-step_at : goal.statement-returns-in-Err-step_at
statement-returns-in-Err-step_at t c = record {
  found = tt;
  past = tt;
  fails = pending_fails c.requires.law _ _ _ _ _ _ c.steps.invariant.pending _ c.in-Err-step_at.ensures.fails;
}

pub statement-returns-in-Whole : goal.statement-returns-in-Whole
statement-returns-in-Whole t c =
    let found = subst (Goes c.args.scope.now c.args.at) c.in-Whole.is c.in-Ok-taken.ensures.goes in
    record {
      found = found;
      past =
          outside_ends c.requires.law _ _ _ _ _ c.steps.invariant.outside _ c.in-Ok-share.ensures _ _ c.in-Ok-step_at.ensures.found _
          c.in-Ok-step_at.ensures.past _ c.in-Ok-outside.ensures _ c.in-Some.is _ _ found;
      fails = tt;
    }

pub statement-steps-preserved : goal.statement-steps-preserved
statement-steps-preserved t c =
    let pending = subst (Goes c.args.scope.now c.args.at) c.in-Goes.is c.in-Ok-taken.ensures.goes in
    record {
      pending = pending;
      kinds = pending.kinds;
      within = pending.within;
      outside =
          outside_goes c.requires.law _ _ _ _ _ c.steps.invariant.outside _ c.in-Ok-share.ensures _ _ c.in-Ok-step_at.ensures.found _
          c.in-Ok-step_at.ensures.past _ c.in-Ok-outside.ensures _ c.in-Ok-taken.ensures.led _ _
          (subst (λ p. Reaches p c.in-Goes.within c.in-Goes.end) (sym c.in-Goes.is) (refl, refl));
    }
