use Rattle.std.proofs.Common.{◌++◌, option_map, ◌∙◌}
use Rattle.unit_index.specs.Crossing.{defined, origin, seen, typed}
use Rattle.unit_index.specs.Exported.{at, from_of}
use Rattle.unit_index.proofs.ShiftLemmas.{judged_more}
use Rattle.unit_index.proofs.across.renewing.judge.Goals as goal

pub returns : goal.returns
returns c = λ test is noted.
    judged_more test noted (at c.args.firsts.now.declared) (at c.args.firsts.now.defined) c.args.unit.now.path c.args.unit.now.exports.tags c.args.nth (seen c.args.export.now) _ _ _ _ _ c.kept_at-declared.ensures c.kept_at-defined.ensures
    (c.in_ok-add_typed.ensures test is
    ∙ (λ i. c.args.out.now.items ++ typed test (option_map origin (option_map from_of c.kept_at-declared.result)) (c.path.ensures i) (c.exports.ensures i).tags c.args.nth (seen c.args.export.now)))
    (c.in_ok-add_defined.ensures
    ∙ (λ i. c.add_typed.new.out.items ++ defined (option_map origin (option_map from_of c.kept_at-defined.result)) (c.path-2.ensures i) c.args.nth (seen c.args.export.now)))
