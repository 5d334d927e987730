use Rattle.item_cut.proofs.Turns.{is_within, turns_on, turns_over}
use Rattle.item_cut.proofs.cutting.cut.Goals as goal

pub after-progress-requires : goal.after-progress-requires
after-progress-requires c = is_within _ _ _ _ _ _ _ _ c.loop-token.invariant c.in-Some.ensures.cases.0

pub loop-token-preserved-then-ends : goal.loop-token-preserved-then-ends
loop-token-preserved-then-ends c =
    turns_over
    _
    _
    _
    _
    _
    _
    _
    _
    _
    _
    _
    _
    _
    _
    c.loop-token.invariant
    c.in-Some.ensures.cases.0
    c.as_str.ensures
    c.after-progress.ensures
    c.as_str-in-Some.ensures
    c.ends.ensures
    c.if-ends.true
    c.in_ok-push.ensures.items
    c.begun-progress-then-ends.ensures

pub loop-token-preserved : goal.loop-token-preserved
loop-token-preserved c =
    turns_on
    _
    _
    _
    _
    _
    _
    _
    _
    _
    _
    _
    _
    c.loop-token.invariant
    c.in-Some.ensures.cases.0
    c.as_str.ensures
    c.after-progress.ensures
    c.as_str-in-Some.ensures
    c.ends.ensures
    c.if-ends.false
