use Rattle.query_core.proofs.Counting.{raising_covered, raising_fits}
use Rattle.query_core.proofs.tallies.Tallies.raise.Goals as goal

pub raise_one-requires-clause-covered : goal.raise_one-requires-clause-covered
raise_one-requires-clause-covered c = raising_covered c.args.self.now c.nodes.self c.args.nodes.now c.nodes.rest.now c.nodes.invariant c.in-Some.node.now c.in-Some.behind.now c.in-Some.ensures.cases.0

pub raise_one-requires-clause-fits : goal.raise_one-requires-clause-fits
raise_one-requires-clause-fits c = raising_fits c.args.self.now c.nodes.self c.args.nodes.now c.nodes.rest.now c.nodes.invariant c.in-Some.node.now c.in-Some.behind.now c.in-Some.ensures.cases.0
