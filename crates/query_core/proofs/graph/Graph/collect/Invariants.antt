use Rattle.std.proofs.Common.{◌≡◌, length}
use Rattle.query_core.specs.Walk.{AreAnswered}
use Rattle.query_core.proofs.graph.Graph.collect.Given as goal

abbrev pub invariant-loop-place : goal.invariant-loop-place
invariant-loop-place g l = record { answered : AreAnswered g.R.Rules.queries l.self l.keys l.answered; so_far : length l.answered ≡ l.place }
