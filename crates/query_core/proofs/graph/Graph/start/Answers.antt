use Rattle.std.proofs.Common.{refl, []}
use Rattle.query_core.proofs.graph.Graph.start.Goals as goal

pub run-requires-clause-running : goal.run-requires-clause-running
run-requires-clause-running g c = rw (c.in_ok-asked.ensures, c.in_ok-answered.ensures) c.requires.running

pub run-requires-clause-begun : goal.run-requires-clause-begun
run-requires-clause-begun g c = rw c.in_ok-asked.ensures ([], [], (refl, c.in_ok-run.ensures))
