use Rattle.query_core.specs.Stored.{seen}
use Rattle.query_core.specs.Walk.{IsSettledTo}
use Rattle.query_core.proofs.graph.Graph.look.Given as goal

abbrev pub invariant-loop-at : goal.invariant-loop-at
invariant-loop-at g l = IsSettledTo g.R.Rules.queries l.self (seen l.kept) l.at
