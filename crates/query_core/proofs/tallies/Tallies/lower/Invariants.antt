use Rattle.std.proofs.Common.{length}
use Rattle.query_core.proofs.Counting.{Lowering}
use Rattle.query_core.proofs.tallies.Tallies.lower.Given as goal

abbrev pub invariant-nodes : goal.invariant-nodes
invariant-nodes l = Lowering l.fn.self l.self l.nodes l.rest

abbrev pub decreases-nodes : goal.decreases-nodes
decreases-nodes l = length l.rest
