use Rattle.std.proofs.Common.{subst, ◌∙◌, ap, add-zero, ◌+◌}
use Rattle.query_core.specs.Soundness.{IsSound}
use Rattle.query_core.specs.Walk.{IsCollected}
use Rattle.query_core.specs.Queries.{ticks}
use Rattle.std.proofs.Common.{Ok}
use Rattle.std.specs.declared.alloc.AllocError.{AllocError}
use Rattle.query_core.proofs.graph.Graph.go_on.Goals as goal
use Rattle.query_core.proofs.Running.{asked_round, ended_round, begun_round, begun_more, begun_all}

pub rounds-smaller : goal.rounds-smaller
rounds-smaller g c =
    (asked_round g.R.Rules.queries g.met.R.Rules.lawful c.args.self.now c.in_ok-step.ensures.sound c.args.key.now c.rounds.asked c.append.new.self c.in-Ask.more c.rounds.answered c.collect.new.answered c.in_ok-step.step
    c.rounds.invariant.running (subst (IsCollected g.R.Rules.queries c.args.self.now c.rounds.asked c.collect.new.answered) c.in-None.is c.in_ok-open.ensures) c.in_ok-step.ensures.step c.in-Ask.is
    c.in_ok-append-in-Ask.ensures.ok).less

pub rounds-preserved : goal.rounds-preserved
rounds-preserved g c = record {
  running =
      (asked_round g.R.Rules.queries g.met.R.Rules.lawful c.args.self.now c.in_ok-step.ensures.sound c.args.key.now c.rounds.asked c.append.new.self c.in-Ask.more c.rounds.answered c.collect.new.answered c.in_ok-step.step
      c.rounds.invariant.running (subst (IsCollected g.R.Rules.queries c.args.self.now c.rounds.asked c.collect.new.answered) c.in-None.is c.in_ok-open.ensures) c.in_ok-step.ensures.step c.in-Ask.is
      c.in_ok-append-in-Ask.ensures.ok).running;
  begun = begun_more g.R.Rules.queries g.R.Rules.has_read g.met.R.Rules.lawful c.args.self.now c.in_ok-step.ensures.sound c.args.key.now c.round.new.run c.rounds.asked c.append.new.self c.in-Ask.more c.collect.new.answered
      (subst (IsCollected g.R.Rules.queries c.args.self.now c.rounds.asked c.collect.new.answered) c.in-None.is c.in_ok-open.ensures) c.in_ok-step.ensures.read c.in_ok-append-in-Ask.ensures.ok;
  steps = c.in_ok-step.ensures.ticks ∙ ap (λ s. c.rounds.steps + ticks {E = AllocError} (Ok s)) c.in-Ask.is ∙ add-zero c.rounds.steps ∙ c.rounds.invariant.steps;
}

pub returns-in-Done-clause-halt : goal.returns-in-Done-clause-halt
returns-in-Done-clause-halt g c =
    ended_round g.R.Rules.queries g.met.R.Rules.lawful c.args.self.now c.in_ok-step.ensures.sound c.args.key.now c.rounds.asked c.rounds.answered c.collect.new.answered c.in_ok-step.step c.in-Done.value
    c.rounds.invariant.running (subst (IsCollected g.R.Rules.queries c.args.self.now c.rounds.asked c.collect.new.answered) c.in-None.is c.in_ok-open.ensures) c.in_ok-step.ensures.step c.in-Done.is

pub round-requires : goal.round-requires
round-requires g c =
    begun_round g.R.Rules.queries g.R.Rules.has_read g.met.R.Rules.lawful c.args.self.now (subst (IsSound g.R.Rules.queries) c.self.view_is c.self.invariant.sound) c.args.key.now c.rounds.run c.rounds.asked c.collect.new.answered
    (subst (IsCollected g.R.Rules.queries c.args.self.now c.rounds.asked c.collect.new.answered) c.in-None.is c.in_ok-open.ensures) c.rounds.invariant.begun

pub returns-in-Done-clause-begun : goal.returns-in-Done-clause-begun
returns-in-Done-clause-begun g c =
    begun_all g.R.Rules.queries g.R.Rules.has_read g.met.R.Rules.lawful c.args.self.now c.in_ok-step.ensures.sound c.args.key.now c.round.new.run c.rounds.asked c.collect.new.answered
    (subst (IsCollected g.R.Rules.queries c.args.self.now c.rounds.asked c.collect.new.answered) c.in-None.is c.in_ok-open.ensures) c.in_ok-step.ensures.read
