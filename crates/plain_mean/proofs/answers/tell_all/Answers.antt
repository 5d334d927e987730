use Rattle.std.proofs.Common.{refl, ◌∙◌}
use Rattle.std.proofs.lemmas.List.{nil_from_length}
use Rattle.plain_mean.proofs.Told.{telling_begins, telling_ends, telling_turns}
use Rattle.plain_mean.proofs.answers.tell_all.Goals as goal

pub wants-init : goal.wants-init
wants-init c = (telling_begins c.args.lexings.now c.args.unit.now.answers c.args.wants.now, refl, refl)

pub wants-preserved : goal.wants-preserved
wants-preserved c = (
  telling_turns c.args.lexings.now c.wants.lexings c.args.unit.now.answers c.wants.unit.answers c.tell.new.unit.answers c.args.wants.now c.wants.rest.now c.in-Some.behind.now c.in-Some.want.now
      c.wants.invariant.0 c.in-Some.ensures.cases.0 c.wants.invariant.2 c.in_ok-tell.ensures.told,
  c.in_ok-tell.ensures.conf ∙ c.wants.invariant.1,
  c.in_ok-tell.ensures.same ∙ c.wants.invariant.2,
)

pub returns-clause-told : goal.returns-clause-told
returns-clause-told c =
    telling_ends c.args.lexings.now c.args.unit.now.answers c.wants.unit.answers c.args.wants.now c.wants.rest.now c.wants.invariant.0 (nil_from_length c.wants.rest.now c.in_default.ensures.cases)
