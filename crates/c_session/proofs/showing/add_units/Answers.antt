use Rattle.c_session.proofs.Gathering.{gathers_begins, gathers_turns, gathers_ends}
use Rattle.c_session.proofs.Passing.{none_left}
use Rattle.c_session.proofs.showing.add_units.Goals as goal

pub units-init : goal.units-init
units-init c = gathers_begins _ _

pub units-preserved : goal.units-preserved
units-preserved c = gathers_turns _ _ _ _ _ _ c.in-Some.unit.now c.in-Some.ensures.cases.0 c.in_ok-add_unit.ensures c.units.invariant

pub returns : goal.returns
returns c = gathers_ends _ _ _ _ (none_left _ c.in_default.ensures.cases) c.units.invariant
