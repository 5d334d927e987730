use Rattle.query_core.proofs.Freshening.{empty_kept}
use Rattle.query_core.proofs.graph.Graph.new.Goals as goal

pub invariant_of-result : goal.invariant_of-result
invariant_of-result g c = empty_kept g.R.Rules.queries _ _ c.new.ensures.nodes c.new.ensures.numbers c.new-2.ensures.items
