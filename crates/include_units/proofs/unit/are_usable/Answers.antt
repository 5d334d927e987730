use Rattle.include_units.proofs.CommandLemmas.{usable_more}
use Rattle.include_units.proofs.unit.are_usable.Goals as goal

pub loop-define-preserved : goal.loop-define-preserved
loop-define-preserved c =
    λ more.
    c.loop-define.invariant
    (usable_more c.loop-define.rest.now c.in-Some.define.now c.in-Some.behind.now c.loop-define.size c.in-Some-size_behind.left c.in-Some.ensures.cases.0 c.in-Some-size_behind.ensures.0 c.in-Some-size_behind.ensures.1 more)
