use Rattle.std.proofs.Common.{◌≡◌}
use Rattle.query_tests.proofs.turns.play.Given as goal

abbrev pub invariant-loop-turn : goal.invariant-loop-turn
invariant-loop-turn g l = l.graph.revision ≡ l.turn-index
