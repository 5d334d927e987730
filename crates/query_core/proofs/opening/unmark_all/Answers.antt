use Rattle.query_core.proofs.Reached.{opening_turns}
use Rattle.query_core.proofs.opening.unmark_all.Goals as goal

pub nodes-preserved : goal.nodes-preserved
nodes-preserved g c =
    opening_turns c.args.clean_at c.args.opened.now c.args.nodes.now.slots c.nodes.nodes c.unmark.new.nodes c.nodes.rest.now c.nodes.invariant c.in-Some.node.now c.in-Some.behind.now c.in-Some.ensures.cases.0 c.unmark.ensures.some c.unmark.ensures.none
