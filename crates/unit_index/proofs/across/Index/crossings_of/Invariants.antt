use Rattle.std.proofs.Common.{◌≡◌, ◌-◌, ◌++◌, drop, map}
use Rattle.unit_index.specs.Crossing.{crossings, on_names, seen, sight}
use Rattle.unit_index.specs.Matching.{IsTest, Test}
use Rattle.unit_index.proofs.across.Index.crossings_of.Given as goal

abbrev pub invariant-names : goal.invariant-names
invariant-names l = (test : Test) → IsTest test →
    l.out.items ++ on_names test (map sight l.self) l.unit.path l.unit.exports.tags l.nth (map seen (drop l.nth l.unit.exports.names)) ≡ crossings test (map sight l.self) (sight l.unit)

abbrev pub decreases-names : goal.decreases-names
decreases-names l = 9223372036854775808 - l.nth
