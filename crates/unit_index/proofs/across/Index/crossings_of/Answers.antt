use Rattle.std.proofs.Common.{rules, ◌≡◌, Some, None, map, ◌∙◌}
use Rattle.std.specs.List.{slice_get}
use Rattle.unit_index.specs.Crossing.{sight}
use Rattle.unit_index.proofs.PlacingLemmas.{names_end, names_turn}
use Rattle.unit_index.proofs.across.Index.crossings_of.Goals as goal

pub names-preserved : goal.names-preserved
names-preserved c = λ test is.
    let here : Some c.in-Some.export.now ≡ slice_get c.args.unit.now.exports.names c.names.nth = search rules in
    names_turn test (map sight c.args.self.now) c.args.unit.now.path c.args.unit.now.exports.tags c.args.unit.now.exports.names c.names.nth c.in-Some.export.now _ _ _ here
    (c.in_ok-add_on_name.ensures test is) (c.names.invariant test is)

pub returns-in_default : goal.returns-in_default
returns-in_default c = λ test is.
    let none : None ≡ slice_get c.args.unit.now.exports.names c.names.nth = search rules in
    c.from_vec.ensures ∙ names_end test (map sight c.args.self.now) c.args.unit.now.path c.args.unit.now.exports.tags c.args.unit.now.exports.names c.names.nth _ _ none (c.names.invariant test is)
