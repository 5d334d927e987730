use Rattle.std.proofs.Common.{rules, ◌≡◌, Some, None, ap, ◌∙◌}
use Rattle.std.specs.List.{slice_get}
use Rattle.unit_index.specs.Exported.{at, first_in}
use Rattle.unit_index.specs.Firsts.{or_else}
use Rattle.unit_index.proofs.CrossLemmas.{of_unit_first}
use Rattle.unit_index.proofs.FirstLemmas.{firsts_end_at, firsts_turn_at}
use Rattle.unit_index.proofs.across.faults.firsts.Goals as goal

pub units-preserved : goal.units-preserved
units-preserved c = λ q.
    let here : Some c.in-Some.unit.now ≡ slice_get c.args.units.now c.units.place = search rules in
    let names = of_unit_first c.args.does q c.in-Some.unit.now c.path.result.now c.exports.result.now c.path.ensures c.exports.ensures in
    firsts_turn_at (first_in c.args.does q) _ _ _ c.in-Some.unit.now c.args.units.now c.units.place here
    (c.in_ok-note_unit.ensures q ∙ ap (λ o. or_else (at c.units.found q) o) names) (c.units.invariant q)

pub returns-in_default : goal.returns-in_default
returns-in_default c = λ q.
    let none : None ≡ slice_get c.args.units.now c.units.place = search rules in
    firsts_end_at (first_in c.args.does q) _ _ c.args.units.now c.units.place none (c.units.invariant q)
