use Rattle.std.proofs.Common.{rules, ◌≡◌, ◌∷◌, length}
use Rattle.unit_ends.proofs.WalkLemmas.{within_begins, within_ends, within_turns}
use Rattle.unit_ends.proofs.faults.add_item.Goals as goal

pub loop-stated-init : goal.loop-stated-init
loop-stated-init c = λ front passed.
    within_begins c.args.index.now front c.args.head.now c.as_slice-rest.result.now c.args.passed.now c.args.faults.now.items c.as_slice-rest.ensures passed

pub loop-stated-preserved : goal.loop-stated-preserved
loop-stated-preserved c = λ front passed.
    let rest = c.loop-stated.rest.now in
    let s = c.in-Some.stated.now in
    let more = c.in-Some.behind.now in
    let here : rest ≡ s ∷ more = search rules in
    within_turns c.args.index.now front c.args.head.now rest more s c.loop-stated.passed c.pass.new.self c.loop-stated.faults.items c.add.new.faults.items _ c.rule-broken.result here
    (λ before there. c.rule-broken.ensures front before there) c.in_ok-add.ensures (λ before there. c.in_ok-pass.ensures front before there) (c.loop-stated.invariant front passed)

pub returns-clause-faults : goal.returns-clause-faults
returns-clause-faults c = λ front passed.
    let none : length c.loop-stated.rest.now ≡ 0 = search rules in
    (within_ends c.args.index.now front c.args.head.now c.loop-stated.rest.now c.loop-stated.passed c.loop-stated.faults.items _ none (c.loop-stated.invariant front passed)).0

pub returns-clause-passed : goal.returns-clause-passed
returns-clause-passed c = λ front passed.
    let none : length c.loop-stated.rest.now ≡ 0 = search rules in
    (within_ends c.args.index.now front c.args.head.now c.loop-stated.rest.now c.loop-stated.passed c.loop-stated.faults.items _ none (c.loop-stated.invariant front passed)).1
