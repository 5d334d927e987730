use Rattle.std.proofs.Common.{◌≡◌, ◌-◌, ◌++◌, drop, map}
use Rattle.unit_index.specs.Crossing.{crossings, sight}
use Rattle.unit_index.specs.Matching.{IsTest, Test}
use Rattle.unit_index.proofs.across.Index.all_crossings.Given as goal

abbrev pub invariant-units : goal.invariant-units
invariant-units l = (test : Test) → IsTest test → l.all.items ++ map (λ u. crossings test (map sight l.self) (sight u)) (drop l.place l.self) ≡ map (λ u. crossings test (map sight l.self) (sight u)) l.self

abbrev pub decreases-units : goal.decreases-units
decreases-units l = 9223372036854775808 - l.place
