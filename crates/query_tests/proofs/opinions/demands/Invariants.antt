use Rattle.std.proofs.Common.{◌≡◌}
use Rattle.query_core.specs.Soundness.{IsUnswept}
use Rattle.query_tests.specs.Web.{web}
use Rattle.query_tests.proofs.opinions.demands.Given as goal

abbrev pub invariant-loop : goal.invariant-loop
invariant-loop g l = record {
  unswept : IsUnswept web l.graph;
  revision : l.graph.revision ≡ l.fn.graph.revision;
}
