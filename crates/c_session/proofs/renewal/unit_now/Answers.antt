use Rattle.std.proofs.Common.{◌≡◌, Option, Some, sym, subst, ◌∙◌}
use Rattle.c_session.specs.Renewal.{RestsOn, sight_of}
use Rattle.c_session.specs.declared.held.HeldUnit.{HeldUnit}
use Rattle.c_session.proofs.renewal.unit_now.Goals as goal

pub returns-in_ok-stays-in-Some-clause-grounds : goal.returns-in_ok-stays-in-Some-clause-grounds
returns-in_ok-stays-in-Some-clause-grounds g c =
    subst (λ (h : Option HeldUnit). RestsOn h c.args.changes.now.prior c.args.changes.now.now c.args.reading.now c.args.path.now c.in_ok-stays-in-Some.stays.held.grounds)
    (sym c.in-Some.is ∙ c.take-kept.ensures.taken) c.in_ok-stays-in-Some.ensures.grounds

pub returns-in_ok-stays-in-Some-clause-seen : goal.returns-in_ok-stays-in-Some-clause-seen
returns-in_ok-stays-in-Some-clause-seen g c = λ s saw.
    subst (λ (h : Option HeldUnit). sight_of h ≡ Some s) (sym c.in-Some.is ∙ c.take-kept.ensures.taken) (c.in_ok-stays-in-Some.ensures.seen s saw)

pub returns-in_ok-first-in-None-clause-seen : goal.returns-in_ok-first-in-None-clause-seen
returns-in_ok-first-in-None-clause-seen g c = λ s saw. absurd (cc saw)
