use Rattle.std.proofs.Common.{ℕ, List, map, sym, ap, ◌∙◌}
use Rattle.c_session.specs.Outcomes.{after}
use Rattle.c_session.specs.Ties.Renamings.{anew_of}
use Rattle.c_session.proofs.Viewing.{plan_settled}
use Rattle.c_session.proofs.renaming.settled.Goals as goal

pub returns-clause-outcome : goal.returns-clause-outcome
returns-clause-outcome g c = λ told.
    c.compared.ensures told
    ∙ plan_settled c.args.docs.now c.args.conf.now c.args.plan c.as_slice.result.now c.in-Ok.effect.kinds.items c.in-Ok.effect.kinds_after.items c.in-Ok.effect.anew.items
    (c.as_slice.ensures.value ∙ c.requires.kept.units) c.in-Ok.ensures.kinds c.in-Ok.ensures.after
    (c.in-Ok.ensures.anew ∙ ap (map (anew_of c.args.docs.now c.args.conf.now (after c.args.docs.now c.args.plan))) (sym c.as_slice.ensures.value))
    (λ (unit : List ℕ). c.units_stay.ensures.meaning c.args.docs.now (after c.args.docs.now c.args.plan) c.args.conf.now c.args.conf.now unit)

pub returns-clause-steps : goal.returns-clause-steps
returns-clause-steps g c = λ told. c.in-Ok.ensures.steps
