use Rattle.std.proofs.Common.{rules, ◌≡◌, Some, None}
use Rattle.std.specs.List.{slice_get}
use Rattle.unit_index.proofs.PlacingLemmas.{placing_end, placing_ends, placing_turn}
use Rattle.unit_index.proofs.across.placing.all_placed.Goals as goal

pub units-preserved : goal.units-preserved
units-preserved c =
    let here : Some c.in-Some.unit.now ≡ slice_get c.args.units.now c.units.place = search rules in
    let there : Some c.in-Some-crossings_in.of_unit.now ≡ slice_get c.args.crossings.now c.units.place = search rules in
    placing_turn c.args.units.now c.args.crossings.now c.units.place c.in-Some.unit.now c.in-Some-crossings_in.of_unit.now _ _ _ here there c.in_ok-add_all_placed.ensures c.units.invariant

pub returns-in_default : goal.returns-in_default
returns-in_default c =
    let none : None ≡ slice_get c.args.units.now c.units.place = search rules in
    placing_end c.args.units.now c.args.crossings.now c.units.place _ _ none c.units.invariant

pub returns-in_default-crossings_in : goal.returns-in_default-crossings_in
returns-in_default-crossings_in c =
    let none : None ≡ slice_get c.args.crossings.now c.units.place = search rules in
    placing_ends c.args.units.now c.args.crossings.now c.units.place _ _ none c.units.invariant
