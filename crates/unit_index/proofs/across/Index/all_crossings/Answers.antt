use Rattle.std.proofs.Common.{rules, ◌≡◌, Some, None, map, sym, ◌∙◌}
use Rattle.std.specs.List.{slice_get}
use Rattle.unit_index.specs.Crossing.{crossings, sight}
use Rattle.unit_index.proofs.PlacingLemmas.{sights_mapped, units_end, units_turn}
use Rattle.unit_index.proofs.across.Index.all_crossings.Goals as goal

pub units-preserved : goal.units-preserved
units-preserved c = λ test is.
    let here : Some c.in-Some.unit.now ≡ slice_get c.args.self.now c.units.place = search rules in
    units_turn (λ u. crossings test (map sight c.args.self.now) (sight u)) c.args.self.now c.units.place c.in-Some.unit.now c.in_ok-of_unit.of_unit _ _ _ here
    (c.in_ok-of_unit.ensures test is) c.in_ok-push.ensures.items (c.units.invariant test is)

pub returns-in_default : goal.returns-in_default
returns-in_default c = λ test is.
    let none : None ≡ slice_get c.args.self.now c.units.place = search rules in
    units_end (λ u. crossings test (map sight c.args.self.now) (sight u)) c.args.self.now c.units.place _ _ none (c.units.invariant test is) ∙ sym (sights_mapped test c.args.self.now)
