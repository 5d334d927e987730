use Rattle.std.proofs.Common.{◌≡◌, ◌+◌, cond, refl, sym, ap, subst, ◌∙◌}
use Rattle.plain_mean.specs.Changing.{Changing}
use Rattle.c_session.specs.Renewal.{RestsOn, held_at, is_due, unit_by}
use Rattle.c_session.proofs.Seeing.{seen_begins, seen_ends, seen_turns}
use Rattle.c_session.proofs.Passing.{passes_begins, passes_here, passes_turns, all_made, all_rest, all_counted, none_left}
use Rattle.c_session.proofs.renewal.units_now.Goals as goal

pub paths-init : goal.paths-init
paths-init g c = record {
  passes = passes_begins _ _ _ _ _ _ _ _ c.new-standing.ensures.units c.new-standing.ensures.grounds c.requires.apart;
  changes = refl;
  lexings = refl;
  seen = seen_begins _ _ _ _ _ c.new-standing.ensures.units c.new-standing.ensures.news;
}

pub paths-preserved : goal.paths-preserved
paths-preserved g c =
    let path = c.in-Some.path.now in
    let kept = c.paths.invariant.changes in
    record {
      passes = passes_turns _ _ _ _ _ _ (held_at c.paths.waiting) (held_at c.unit_now.new.waiting) _ _ path _ _ _ _ _ _ c.in_ok-renewed.renewed.held c.paths.invariant.passes c.in-Some.ensures.cases.0
          (subst (λ (ch : Changing). c.in_ok-renewed.renewed.held.unit ≡ unit_by (held_at c.paths.waiting path) ch.prior ch.now c.args.reading.now path) kept c.in_ok-renewed.ensures.unit)
          (subst (λ (ch : Changing). RestsOn (held_at c.paths.waiting path) ch.prior ch.now c.args.reading.now path c.in_ok-renewed.renewed.held.grounds) kept c.in_ok-renewed.ensures.grounds)
          c.in_ok-renewed.ensures.others c.in_ok-push.ensures.units c.in_ok-push.ensures.grounds
          (subst (λ (ch : Changing). c.unit_now.new.steps ≡ c.paths.steps + cond (is_due (held_at c.paths.waiting path) ch.prior ch.now c.args.reading.now path) 1 0) kept c.in_ok-renewed.ensures.steps);
      changes = c.in_ok-renewed.ensures.changes ∙ kept;
      lexings = c.in_ok-renewed.ensures.lexings ∙ c.paths.invariant.lexings;
      seen = seen_turns _ _ (held_at c.paths.waiting) _ _ path _ _ _ _ _ _ c.in_ok-renewed.renewed.earlier c.in_ok-renewed.renewed.held.unit c.paths.invariant.seen c.in-Some.ensures.cases.0
          (passes_here _ _ _ _ _ _ (held_at c.paths.waiting) _ _ path _ _ _ c.paths.invariant.passes c.in-Some.ensures.cases.0) c.in_ok-renewed.ensures.seen c.in_ok-push.ensures.units c.in_ok-push.ensures.seen;
    }

pub unit_now-requires : goal.unit_now-requires
unit_now-requires g c = c.paths.invariant.lexings ∙ c.requires.texts ∙ sym (ap (λ (ch : Changing). ch.now) c.paths.invariant.changes)

pub returns-clause-units : goal.returns-clause-units
returns-clause-units g c = all_made _ _ _ _ _ _ _ _ _ _ _ c.paths.invariant.passes (none_left _ c.in_default.ensures.cases)

pub returns-clause-grounds : goal.returns-clause-grounds
returns-clause-grounds g c = all_rest _ _ _ _ _ _ _ _ _ _ _ c.paths.invariant.passes (none_left _ c.in_default.ensures.cases)

pub returns-clause-steps : goal.returns-clause-steps
returns-clause-steps g c = all_counted _ _ _ _ _ _ _ _ _ _ _ c.paths.invariant.passes (none_left _ c.in_default.ensures.cases)

pub returns-clause-seen : goal.returns-clause-seen
returns-clause-seen g c = λ old. seen_ends _ _ _ _ _ _ c.paths.invariant.seen (none_left _ c.in_default.ensures.cases) old
