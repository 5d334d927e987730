use Rattle.std.proofs.Common.{rules, ◌≡◌, ◌+◌, Some, None, drop, map, ◌∙◌}
use Rattle.std.specs.List.{slice_get}
use Rattle.unit_index.specs.Crossing.{seen}
use Rattle.unit_index.specs.Exported.{at}
use Rattle.unit_index.specs.News.{has}
use Rattle.unit_index.proofs.ShiftLemmas.{renewed_end, renewed_turn}
use Rattle.unit_index.proofs.across.renewing.of_unit.Goals as goal

pub names-preserved : goal.names-preserved
names-preserved c = λ test is.
    let here : Some c.in-Some.export.now ≡ slice_get c.args.unit.now.exports.names c.names.nth = search rules in
    renewed_turn test (has c.args.names.now) (at c.args.firsts.now.declared) (at c.args.firsts.now.defined) c.args.unit.now.path c.args.unit.now.exports.tags c.args.shift c.names.nth c.args.unit.now.exports.names
    c.in-Some.export.now _ _ _ _ here (c.in_ok-left.ensures test is (map seen (drop (c.names.nth + 1) c.args.unit.now.exports.names))) (c.names.invariant test is)

pub returns-in_default : goal.returns-in_default
returns-in_default c = λ test is.
    let none : None ≡ slice_get c.args.unit.now.exports.names c.names.nth = search rules in
    c.from_vec.ensures
    ∙ renewed_end test (has c.args.names.now) (at c.args.firsts.now.declared) (at c.args.firsts.now.defined) c.args.unit.now.path c.args.unit.now.exports.tags c.args.shift c.names.nth c.args.unit.now.exports.names
    _ _ _ none (c.names.invariant test is)
