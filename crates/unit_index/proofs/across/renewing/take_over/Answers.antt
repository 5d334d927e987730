use Rattle.std.proofs.Common.{rules, ◌≡◌, true, false}
use Rattle.std.specs.Prelude.{nat_lt}
use Rattle.unit_index.proofs.ShiftLemmas.{left_ends, left_stops, left_turns, taken_ends, taken_stops, taken_turns}
use Rattle.unit_index.proofs.across.renewing.take_over.Goals as goal

pub returns-then-crossing-before-clause-taken : goal.returns-then-crossing-before-clause-taken
returns-then-crossing-before-clause-taken c =
    let past : nat_lt c.args.before c.in-Some.crossing.now.nth ≡ true = search rules in
    taken_stops c.args.before c.in-Some.crossing.now _ _ c.in-Some.ensures.cases.0 c.args.nth _ _ past c.kept.invariant.0

pub returns-then-crossing-before-clause-left : goal.returns-then-crossing-before-clause-left
returns-then-crossing-before-clause-left c =
    let past : nat_lt c.args.before c.in-Some.crossing.now.nth ≡ true = search rules in
    left_stops c.args.before c.in-Some.crossing.now _ _ c.in-Some.ensures.cases.0 _ past c.kept.invariant.1

pub kept-preserved : goal.kept-preserved
kept-preserved c =
    let past : nat_lt c.args.before c.in-Some.crossing.now.nth ≡ false = search rules in (
      taken_turns c.args.before c.in-Some.crossing.now _ _ c.in-Some.ensures.cases.0 c.args.nth _ _ _ past c.in_ok-take_one.ensures c.kept.invariant.0,
      left_turns c.args.before c.in-Some.crossing.now _ _ c.in-Some.ensures.cases.0 _ past c.kept.invariant.1,
    )

pub returns-clause-taken : goal.returns-clause-taken
returns-clause-taken c = taken_ends c.args.before c.args.nth _ _ _ c.in_default.ensures.cases c.kept.invariant.0

pub returns-clause-left : goal.returns-clause-left
returns-clause-left c = left_ends c.args.before _ _ c.in_default.ensures.cases c.kept.invariant.1
