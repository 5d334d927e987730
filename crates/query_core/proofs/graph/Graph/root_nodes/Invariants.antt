use Rattle.std.proofs.Common.{◌≡◌, ◌++◌, length}
use Rattle.query_core.specs.Marking.{root_nodes}
use Rattle.query_core.proofs.graph.Graph.root_nodes.Given as goal

abbrev pub invariant-roots : goal.invariant-roots
invariant-roots g l = l.nodes.items ++ root_nodes g.R.Rules.queries l.self l.rest ≡ root_nodes g.R.Rules.queries l.self l.roots

abbrev pub decreases-roots : goal.decreases-roots
decreases-roots g l = length l.rest
