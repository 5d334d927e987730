use Rattle.std.proofs.Common.{◌≡◌, IfOk, subst}
use Rattle.query_core.proofs.graph.Graph.round.Goals as goal
use Rattle.query_core.proofs.Calls.{numbered_of}

pub returns-clause-step : goal.returns-clause-step
returns-clause-step g c =
    rw (← c.self.view_is) (subst (λ l. IfOk c.next.result (λ s. s ≡ g.R.Rules.queries.step c.args.key.now l)) c.new-answers.ensures c.next.ensures.step)

pub new-answers-requires : goal.new-answers-requires
new-answers-requires g c = numbered_of g.R.Rules.queries g.met.R.Rules.lawful g.R.Key.PartialEq.eq g.met.R.Rules.same_keys c.self.inside.store c.self.inside.revision c.self.inside.runs.items c.self.invariant.sound
