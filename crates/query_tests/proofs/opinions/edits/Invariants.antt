use Rattle.std.proofs.Common.{◌≡◌, ◌+◌}
use Rattle.query_core.specs.Changes.{IsFresh}
use Rattle.query_core.specs.Soundness.{IsUnswept}
use Rattle.query_tests.specs.Web.{web}
use Rattle.query_tests.proofs.opinions.edits.Given as goal

abbrev pub invariant-loop : goal.invariant-loop
invariant-loop l = record {
  fresh : IsFresh web l.graph;
  unswept : IsUnswept web l.graph;
  revision : l.graph.revision ≡ l.fn.graph.revision + 1;
}
