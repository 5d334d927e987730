use Rattle.std.proofs.Common.{◌≡◌, ◌-◌, ◌++◌, drop, map}
use Rattle.unit_index.specs.Crossing.{seen}
use Rattle.unit_index.specs.Exported.{at}
use Rattle.unit_index.specs.Matching.{IsTest, Test}
use Rattle.unit_index.specs.News.{has}
use Rattle.unit_index.specs.Renewed as spec
use Rattle.unit_index.proofs.across.renewing.of_unit.Given as goal

abbrev pub invariant-names : goal.invariant-names
invariant-names l = (test : Test) → IsTest test →
    l.out.items ++ spec.renewed test (has l.names) (at l.firsts.declared) (at l.firsts.defined) l.unit.path l.unit.exports.tags l.shift l.nth (map seen (drop l.nth l.unit.exports.names)) l.left
    ≡ spec.of_unit test (has l.names) (at l.firsts.declared) (at l.firsts.defined) l.unit l.shift l.kept

abbrev pub decreases-names : goal.decreases-names
decreases-names l = 9223372036854775808 - l.nth
