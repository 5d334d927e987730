use Rattle.std.proofs.Common.{◌≡◌, ◌-◌, ◌++◌, drop}
use Rattle.unit_index.specs.Exported.{at}
use Rattle.unit_index.specs.Matching.{IsTest, Test}
use Rattle.unit_index.specs.News.{has}
use Rattle.unit_index.specs.Renewed as spec
use Rattle.unit_index.proofs.across.renewing.of_units.Given as goal

abbrev pub invariant-units : goal.invariant-units
invariant-units l = (test : Test) → IsTest test →
    l.all.items ++ spec.of_units test (has l.names) (at l.firsts.declared) (at l.firsts.defined) (drop l.place l.units) (drop l.place l.shifts) (drop l.place l.kept)
    ≡ spec.of_units test (has l.names) (at l.firsts.declared) (at l.firsts.defined) l.units l.shifts l.kept

abbrev pub decreases-units : goal.decreases-units
decreases-units l = 9223372036854775808 - l.place
