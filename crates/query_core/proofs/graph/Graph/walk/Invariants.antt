use Rattle.std.proofs.Common.{reverse, ◌≡◌}
use Rattle.query_core.specs.Walk.{IsFrame}
use Rattle.query_core.proofs.Ending.{Walk, to_do}
use Rattle.query_core.proofs.graph.Graph.walk.Given as goal

abbrev pub invariant-steps : goal.invariant-steps
invariant-steps g l = record {
  walk : Walk g.R.Rules.queries g.R.Rules.has_read l.fn.self l.fn.key l.self l.top.key (reverse l.path.items) l.fn.steps l.steps;
  fresh : l.self.demanded_at ≡ l.self.revision;
  frame : IsFrame g.R.Rules.queries g.R.Rules.has_read l.self l.top;
}

abbrev pub decreases-steps : goal.decreases-steps
decreases-steps g l = to_do g.R.Rules.queries l.fn.self l.fn.key l.self l.top.key
