use Rattle.std.proofs.Common.{length}
use Rattle.query_tests.proofs.SoFar.{SoFar}
use Rattle.query_tests.proofs.several.demand_all.Given as goal

abbrev pub invariant-roots : goal.invariant-roots
invariant-roots g l = SoFar g.R.Rules.queries l.fn.graph l.roots l.graph l.rest

abbrev pub decreases-roots : goal.decreases-roots
decreases-roots g l = length l.rest
