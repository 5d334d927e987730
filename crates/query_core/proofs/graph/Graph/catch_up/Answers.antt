use Rattle.std.proofs.Common.{◌∙◌}
use Rattle.query_core.specs.Changes.{IsReached}
use Rattle.query_core.specs.Graph.{inputs}
use Rattle.query_core.proofs.graph.Graph.catch_up.Goals as goal
use Rattle.query_core.proofs.Freshening.{walked_wider}
use Rattle.query_core.proofs.CatchingUp.{caught_up_ok, caught_up_err, caught_up_now}
use Rattle.query_core.proofs.Composing.{walked_after}

pub stands-requires : goal.stands-requires
stands-requires g c = c.freshen.ensures.numbers c.args.key ∙ c.requires.numbered

pub returns-in-Current-clause-walked : goal.returns-in-Current-clause-walked
returns-in-Current-clause-walked g c = walked_wider g.R.Rules.queries c.args.self.now c.freshen.new.self (λ k. ⊥) (IsReached (g.R.Rules.queries.asks (inputs g.R.Rules.queries c.args.self.now)) c.args.key) (λ k h. absurd h) c.freshen.ensures.walked

pub returns-in-Current-clause-ok : goal.returns-in-Current-clause-ok
returns-in-Current-clause-ok g c = caught_up_now g.R.Rules.queries g.met.R.Rules.lawful c.args.self.now c.freshen.new.self c.freshen.ensures.walked c.freshen.ensures.runs c.args.key c.in-Current.index c.args.steps.now c.in-Current.ensures.0 c.in-Current.ensures.1

pub returns-in-Behind-clause-walked : goal.returns-in-Behind-clause-walked
returns-in-Behind-clause-walked g c = walked_after g.R.Rules.queries g.met.R.Rules.lawful c.args.self.now c.freshen.new.self c.walk.new.self c.args.key c.freshen.ensures.before c.freshen.ensures.walked c.walk.ensures.walked

pub returns-in-Behind-clause-ok : goal.returns-in-Behind-clause-ok
returns-in-Behind-clause-ok g c = caught_up_ok c.args.self.now c.freshen.new.self c.walk.new.self c.freshen.ensures.runs g.R.Rules.queries g.met.R.Rules.lawful c.freshen.ensures.walked c.args.key c.args.steps.now c.walk.new.steps c.walk.result c.walk.ensures.ok

pub returns-in-Behind-clause-err : goal.returns-in-Behind-clause-err
returns-in-Behind-clause-err g c = caught_up_err c.args.self.now c.freshen.new.self c.walk.new.self c.freshen.ensures.runs c.args.steps.now c.walk.new.steps c.walk.result c.walk.ensures.err
