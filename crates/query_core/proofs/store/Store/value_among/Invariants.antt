use Rattle.std.proofs.Common.{◌≡◌, length}
use Rattle.std.specs.Map.{lookup}
use Rattle.query_core.specs.Answering.{pairs_at}
use Rattle.query_core.proofs.store.Store.value_among.Given as goal

abbrev pub invariant-nodes : goal.invariant-nodes
invariant-nodes g l = lookup (g.K.PartialEq.eq l.key) (pairs_at l.self l.rest) ≡ lookup (g.K.PartialEq.eq l.key) (pairs_at l.self l.nodes)

abbrev pub decreases-nodes : goal.decreases-nodes
decreases-nodes g l = length l.rest
