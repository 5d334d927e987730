use Rattle.std.proofs.Common.{◌+◌}
use Rattle.query_core.proofs.graph.Graph.next_revision.Goals as goal
use Rattle.query_core.proofs.Calls.{held}
use Rattle.query_core.proofs.Setting.{next_was_due}

pub returns-clause-due : goal.returns-clause-due
returns-clause-due g c =
    rw (← c.self.view_is)
    (next_was_due g.R.Rules.queries (held c.self.inside.store c.self.inside.revision c.self.inside.runs.items) (c.self.inside.revision + 1) c.clear.new.self.items)
