use Rattle.query_core.proofs.graph.Graph.demand.Goals as goal
use Rattle.query_core.specs.Changes.{IsHolding}
use Rattle.query_core.proofs.Calls.{held}
use Rattle.query_core.proofs.CatchingUp.{if_ok_first}
use Rattle.query_core.proofs.Ending.{holds_already}

pub returns-in-Current-clause-holds : goal.returns-in-Current-clause-holds
returns-in-Current-clause-holds g c =
    rw (← c.self.view_is)
    (holds_already g.R.Rules.queries g.met.R.Rules.lawful (held c.self.inside.store c.self.inside.revision c.self.inside.runs.items) c.self.invariant.sound c.args.key c.in-Current.index c.in-Current.ensures.0 c.in-Current.ensures.1)

pub returns-in-Behind-clause-holds : goal.returns-in-Behind-clause-holds
returns-in-Behind-clause-holds g c =
    rw (← c.self.view_is)
    (if_ok_first c.catch_up.result (λ id. IsHolding g.R.Rules.queries (held c.self.inside.store c.self.inside.revision c.self.inside.runs.items) c.catch_up.new.self c.args.key id) _ c.catch_up.ensures.ok)

pub returns-in-Behind-clause-due : goal.returns-in-Behind-clause-due
returns-in-Behind-clause-due g c = rw (← c.self.view_is) c.catch_up.ensures.walked.due
