use Rattle.std.proofs.Common.{rules, ◌≡◌, Some, None}
use Rattle.std.specs.List.{slice_get}
use Rattle.unit_index.specs.Exported.{at}
use Rattle.unit_index.specs.News.{has}
use Rattle.unit_index.proofs.ShiftLemmas.{kept_end, shifts_end, units_end, units_turn}
use Rattle.unit_index.proofs.across.renewing.of_units.Goals as goal

pub units-preserved : goal.units-preserved
units-preserved c = λ test is.
    let unit : Some c.in-Some.unit.now ≡ slice_get c.args.units.now c.units.place = search rules in
    let shift : Some c.in-Some-shift_in.shift ≡ slice_get c.args.shifts.now c.units.place = search rules in
    let kept : Some c.in-Some-crossings_in.before.now ≡ slice_get c.args.kept.now c.units.place = search rules in
    units_turn test (has c.args.names.now) (at c.args.firsts.now.declared) (at c.args.firsts.now.defined) c.args.units.now c.args.shifts.now c.args.kept.now c.units.place
    c.in-Some.unit.now c.in-Some-shift_in.shift c.in-Some-crossings_in.before.now c.in_ok-now.now _ _ _ unit shift kept (c.in_ok-now.ensures test is) c.in_ok-push.ensures.items (c.units.invariant test is)

pub returns-in_default : goal.returns-in_default
returns-in_default c = λ test is.
    let none : None ≡ slice_get c.args.units.now c.units.place = search rules in
    units_end test (has c.args.names.now) (at c.args.firsts.now.declared) (at c.args.firsts.now.defined) c.args.units.now c.args.shifts.now c.args.kept.now c.units.place _ _ none (c.units.invariant test is)

pub returns-in_default-shift_in : goal.returns-in_default-shift_in
returns-in_default-shift_in c = λ test is.
    let none : None ≡ slice_get c.args.shifts.now c.units.place = search rules in
    shifts_end test (has c.args.names.now) (at c.args.firsts.now.declared) (at c.args.firsts.now.defined) c.args.units.now c.args.shifts.now c.args.kept.now c.units.place _ _ none (c.units.invariant test is)

pub returns-in_default-crossings_in : goal.returns-in_default-crossings_in
returns-in_default-crossings_in c = λ test is.
    let none : None ≡ slice_get c.args.kept.now c.units.place = search rules in
    kept_end test (has c.args.names.now) (at c.args.firsts.now.declared) (at c.args.firsts.now.defined) c.args.units.now c.args.shifts.now c.args.kept.now c.units.place _ _ none (c.units.invariant test is)
