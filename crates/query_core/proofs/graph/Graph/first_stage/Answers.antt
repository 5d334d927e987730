use Rattle.std.proofs.Common.{sym, subst, ◌∙◌, inl}
use Rattle.query_core.specs.Soundness.{IsSound}
use Rattle.query_core.proofs.graph.Graph.first_stage.Goals as goal
use Rattle.query_core.proofs.Steps.{no_record, stage_check, stage_run}
use Rattle.query_core.proofs.Reading.{record_none}

pub returns-then-is_input : goal.returns-then-is_input
returns-then-is_input g c =
    let is = sym c.if-is_input.ensures in
    (is, no_record g.R.Rules.queries c.args.self.now (subst (IsSound g.R.Rules.queries) c.self.view_is c.self.invariant.sound) c.args.key.now c.requires.stale is)

pub returns-in-Some : goal.returns-in-Some
returns-in-Some g c =
    stage_check g.R.Rules.queries c.args.self.now (subst (IsSound g.R.Rules.queries) c.self.view_is c.self.invariant.sound) c.args.key.now c.in-Some.node (sym c.if-is_input.ensures) (c.requires.numbered ∙ c.in-Some.is)

pub returns-in-None : goal.returns-in-None
returns-in-None g c =
    let none = c.requires.numbered ∙ c.in-None.is in
    (none, stage_run g.R.Rules.queries c.args.self.now c.args.key.now (sym c.if-is_input.ensures) (inl (record_none g.R.Rules.queries c.args.self.now c.args.key.now none)))
