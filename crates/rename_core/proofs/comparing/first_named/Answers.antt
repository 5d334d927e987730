use Rattle.std.proofs.Common.{rules, ◌≡◌, None, ap, sym, ◌∙◌}
use Rattle.std.specs.List.{find}
use Rattle.std.specs.Prelude.{option_map}
use Rattle.rename_core.specs.Clashes.{is_named, named_in}
use Rattle.rename_core.proofs.LookupLemmas.{some_here, some_later, there}
use Rattle.rename_core.proofs.comparing.first_named.Goals as goal

pub returns-in-Some-found : goal.returns-in-Some-found
returns-in-Some-found c =
    let l = c.in-Some.ensures.lookup in
    let here = there c.args.views.now c.views.place c.in-Some.view.now l.3.0 l.1 in
    let made = sym c.in-Some-found.is ∙ c.in_ok-found.ensures ∙ ap (λ l. option_map (λ o. o.tok) (find (is_named c.args.name.now) l)) c.occs.ensures in
    some_here (named_in c.args.name.now) c.args.views.now c.views.place c.in-Some.view.now c.in-Some-found.tok _ here made c.views.invariant

pub views-preserved : goal.views-preserved
views-preserved c =
    let l = c.in-Some.ensures.lookup in
    let here = there c.args.views.now c.views.place c.in-Some.view.now l.3.0 l.1 in
    let none : None ≡ named_in c.args.name.now c.in-Some.view.now = search rules in
    some_later (named_in c.args.name.now) c.args.views.now c.views.place c.in-Some.view.now _ here none c.views.invariant
