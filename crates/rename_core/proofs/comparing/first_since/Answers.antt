use Rattle.std.proofs.Common.{rules, ◌≡◌, None, sym, ◌∙◌}
use Rattle.rename_core.specs.Kept.{at, other_at}
use Rattle.rename_core.proofs.LookupLemmas.{some_here, some_later, there}
use Rattle.rename_core.proofs.comparing.first_since.Goals as goal

pub returns-in-Some-found : goal.returns-in-Some-found
returns-in-Some-found c =
    let l = c.in-Some.ensures.lookup in
    let here = there c.args.before.now c.views.place c.in-Some.view.now l.3.0 l.1 in
    let made = sym c.in-Some-found.is ∙ c.in_ok-found.ensures in
    some_here (other_at c.args.plan.now (at c.args.after.now)) c.args.before.now c.views.place c.in-Some.view.now c.in-Some-found.tok _ here made c.views.invariant

pub views-preserved : goal.views-preserved
views-preserved c =
    let l = c.in-Some.ensures.lookup in
    let here = there c.args.before.now c.views.place c.in-Some.view.now l.3.0 l.1 in
    let none : None ≡ other_at c.args.plan.now (at c.args.after.now) c.in-Some.view.now = search rules in
    some_later (other_at c.args.plan.now (at c.args.after.now)) c.args.before.now c.views.place c.in-Some.view.now _ here none c.views.invariant
