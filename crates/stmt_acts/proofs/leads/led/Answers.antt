use Rattle.std.proofs.Common.{◌≡◌, ◌++◌, IfOk, ap, sym, subst, ◌∙◌}
use Rattle.tree_data.specs.Stated.{stmt_of, lead_of, leads_of}
use Rattle.tree_data.specs.Statements.{led}
use Rattle.stmt_acts.specs.Bodies.{statement}
use Rattle.stmt_acts.specs.Shown.{one_of}
use Rattle.stmt_acts.specs.Works.{acts_left}
use Rattle.stmt_acts.proofs.Chains.{led_first}
use Rattle.stmt_acts.proofs.leads.led.Goals as goal

pub returns-in-Some-clause-acts : goal.returns-in-Some-clause-acts
returns-in-Some-clause-acts c =
    subst (λ x. IfOk c.lead.result (λ a. one_of a ++ acts_left c.lead.new.works ≡ x ++ acts_left c.args.works.now))
    (sym (led_first c.args.within (lead_of c.in-Some.first.now) (leads_of c.in-Some.rest.now) (stmt_of c.args.stmt.now))
    ∙ ap (λ ls. statement c.args.within (led (leads_of ls) (stmt_of c.args.stmt.now))) (sym c.in-Some.ensures.cases.0))
    c.lead.ensures.acts
