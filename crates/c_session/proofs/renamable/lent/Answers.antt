use Rattle.c_session.proofs.Offering.{lends_end, lends_turn}
use Rattle.c_session.proofs.Passing.{none_left}
use Rattle.c_session.proofs.renamable.lent.Goals as goal

pub turn-preserved : goal.turn-preserved
turn-preserved c =
    lends_turn c.turn.rest.now c.in-Some.behind.now c.in-Some.list.now c.turn.all.items c.push.new.self.items c.as_slice.result c.args.lists.now c.in-Some.ensures.cases.0 c.in_ok-push.ensures.items
    c.as_slice.ensures c.turn.invariant

pub returns : goal.returns
returns c = lends_end c.turn.rest.now c.turn.all.items c.args.lists.now (none_left c.turn.rest.now c.in_default.ensures.cases) c.turn.invariant
