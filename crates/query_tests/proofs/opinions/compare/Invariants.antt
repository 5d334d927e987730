use Rattle.std.proofs.Common.{◌≡◌}
use Rattle.query_tests.proofs.opinions.compare.Given as goal

abbrev pub invariant-loop : goal.invariant-loop
invariant-loop g l = l.graph.revision ≡ l.counter
