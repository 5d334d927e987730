use Rattle.std.proofs.Common.{sym, ◌∙◌, None, Some}
use Rattle.query_tests.specs.PickLaws.{step_first, step_second, if_ok_is}
use Rattle.query_tests.proofs.pick.PickRulesRules.next.Goals as goal

pub returns-in-None-clause-step : goal.returns-in-None-clause-step
returns-in-None-clause-step g c =
    if_ok_is c.ask-in-None.result _ _
    (sym (step_first c.args.answers.now (Some c.in-Some.first.now) c.in-Some.ensures ∙ step_second c.args.answers.now c.in-Some.first.now c.choose-other.result None c.choose-other.ensures c.in-None.ensures))
    c.ask-in-None.ensures

pub returns-in-Some-get-clause-step : goal.returns-in-Some-get-clause-step
returns-in-Some-get-clause-step g c =
    sym (step_first c.args.answers.now (Some c.in-Some.first.now) c.in-Some.ensures
    ∙ step_second c.args.answers.now c.in-Some.first.now c.choose-other.result (Some c.in-Some-get.value.now) c.choose-other.ensures c.in-Some-get.ensures)
