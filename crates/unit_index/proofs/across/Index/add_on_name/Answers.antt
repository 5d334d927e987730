use Rattle.std.proofs.Common.{◌++◌, option_map, ◌∙◌}
use Rattle.unit_index.specs.Crossing.{defined, origin, seen, typed}
use Rattle.unit_index.specs.Exported.{from_of}
use Rattle.unit_index.proofs.PlacingLemmas.{name_more}
use Rattle.unit_index.proofs.across.Index.add_on_name.Goals as goal

pub returns : goal.returns
returns c = λ test is.
    name_more test c.args.self.now c.args.unit.now.path c.args.unit.now.exports.tags c.args.nth c.args.export.now _ _ _ _ _ c.first_declared-declared.ensures c.first_defined-defined.ensures
    (c.in_ok-add_typed.ensures test is
    ∙ (λ i. c.args.out.now.items ++ typed test (option_map origin (option_map from_of c.first_declared-declared.result)) (c.path.ensures i) (c.exports.ensures i).tags c.args.nth (seen c.args.export.now)))
    (c.in_ok-add_defined.ensures
    ∙ (λ i. c.add_typed.new.out.items ++ defined (option_map origin (option_map from_of c.first_defined-defined.result)) (c.path-2.ensures i) c.args.nth (seen c.args.export.now)))
