use Rattle.unit_index.specs.Crossing.{placed}
use Rattle.unit_index.proofs.CrossLemmas.{gathered, gathers}
use Rattle.unit_index.proofs.across.placing.add_all_placed.Goals as goal

pub crossings-preserved : goal.crossings-preserved
crossings-preserved c = gathers (placed c.args.unit.now) _ _ _ c.in-Some.crossing.now _ _ c.in-Some.ensures.cases.0 c.in_ok-add_placed.ensures c.crossings.invariant

pub returns : goal.returns
returns c = gathered (placed c.args.unit.now) _ _ _ c.in_default.ensures.cases c.crossings.invariant
