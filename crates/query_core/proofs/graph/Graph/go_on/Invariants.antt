use Rattle.std.proofs.Common.{◌≡◌, ◌-◌, length}
use Rattle.query_core.specs.Graph.{inputs}
use Rattle.query_core.specs.Walk.{IsRunning, HasBegun}
use Rattle.query_core.proofs.graph.Graph.go_on.Given as goal

abbrev pub invariant-rounds : goal.invariant-rounds
invariant-rounds g l = record {
  running : IsRunning g.R.Rules.queries l.self l.key l.asked l.answered;
  begun : HasBegun g.R.Rules.queries g.R.Rules.has_read l.self l.key l.run l.asked;
  steps : l.steps ≡ l.fn.steps;
}

abbrev pub decreases-rounds : goal.decreases-rounds
decreases-rounds g l = length (g.R.Rules.queries.asks (inputs g.R.Rules.queries l.self) l.key) - length l.asked
