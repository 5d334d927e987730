use Rattle.std.proofs.Common.{sym, ap, ◌∙◌, ◌∷◌, [], None, Some}
use Rattle.query_core.specs.declared.rules.Step.TheVariants.{Ask, Done}
use Rattle.query_tests.specs.Web.{knot}
use Rattle.query_tests.specs.WebLaws.{found_first, found_second, if_ok_step}
use Rattle.query_tests.proofs.web.WebRulesRules.next.Goals as goal

pub returns-in-None-clause-step : goal.returns-in-None-clause-step
returns-in-None-clause-step g c =
    if_ok_step c.ask-in-None.result _ _
    (ap (λ x. Ask (knot x ∷ [])) c.second_of-number.ensures
    ∙ sym (found_first c.args.key.now.number c.args.answers.now (knot c.first_of-number.result) (Some c.in-Some.first.now) (ap knot c.first_of-number.ensures) c.in-Some.ensures
    ∙ found_second c.args.key.now.number c.in-Some.first.now c.args.answers.now (knot c.second_of-number.result) None (ap knot c.second_of-number.ensures) c.in-None.ensures))
    c.ask-in-None.ensures

pub returns-in-Some-get-clause-step : goal.returns-in-Some-get-clause-step
returns-in-Some-get-clause-step g c =
    ap Done c.join.ensures
    ∙ sym (found_first c.args.key.now.number c.args.answers.now (knot c.first_of-number.result) (Some c.in-Some.first.now) (ap knot c.first_of-number.ensures) c.in-Some.ensures
    ∙ found_second c.args.key.now.number c.in-Some.first.now c.args.answers.now (knot c.second_of-number.result) (Some c.in-Some-get.second.now) (ap knot c.second_of-number.ensures) c.in-Some-get.ensures)
