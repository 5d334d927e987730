use Rattle.std.proofs.Common.{ap, unwrap_or, ◌∙◌}
use Rattle.c_session.proofs.Passing.{none_left}
use Rattle.c_session.proofs.Viewing.{chosen, own_left, own_one, views_end, views_stop, views_turn}
use Rattle.c_session.proofs.renaming.views_after.Goals as goal

pub turn-preserved : goal.turn-preserved
turn-preserved c =
    let one = c.in-Some-split_first-2.one.now in
    let own = own_one c.turn.rest.now c.in-Some.behind.now c.in-Some.unit.now c.turn.left.now c.in-Some-split_first.kept.now c.in-Some-split_first.own.now c.in-Some.ensures.cases.0 c.in-Some-split_first.ensures.cases.0 c.turn.invariant.1 in (
      views_turn c.args.kinds.now c.turn.rest.now c.in-Some.behind.now c.in-Some.unit.now c.turn.others.now c.in-Some-split_first-2.more.now one c.turn.views.items c.push.new.self.items _ _
          c.in-Some.ensures.cases.0 c.in-Some-split_first-2.ensures.cases.0 c.in_ok-push.ensures.items
          (λ i. record { path = c.path.ensures i; kinds = c.args.kinds.now; occs = (c.occs_by.ensures ∙ ap (unwrap_or one) own.0 ∙ chosen c.in-Some.unit.now one) i }) c.turn.invariant.0,
      own.1,
    )

pub returns : goal.returns
returns c = views_end c.args.kinds.now _ _ _ _ (none_left _ c.in_default.ensures.cases) c.turn.invariant.0

pub returns-in_default-split_first-2 : goal.returns-in_default-split_first-2
returns-in_default-split_first-2 c = views_stop c.args.kinds.now _ _ _ _ (none_left _ c.in_default-split_first-2.ensures.cases) c.turn.invariant.0

pub unreachable-requires : goal.unreachable-requires
unreachable-requires c =
    own_left c.turn.rest.now c.in-Some.behind.now c.in-Some.unit.now c.turn.left.now c.in-Some.ensures.cases.0 (none_left _ c.in_default-split_first.ensures.cases) c.turn.invariant.1
