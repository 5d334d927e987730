use Rattle.std.proofs.Common.{length}
use Rattle.query_core.proofs.Reached.{Opening}
use Rattle.query_core.proofs.opening.unmark_all.Given as goal

abbrev pub invariant-nodes : goal.invariant-nodes
invariant-nodes g l = Opening l.clean_at l.opened l.fn.nodes.slots l.nodes.slots l.rest

abbrev pub decreases-nodes : goal.decreases-nodes
decreases-nodes g l = length l.rest
