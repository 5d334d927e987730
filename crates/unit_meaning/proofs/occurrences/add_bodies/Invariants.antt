use Rattle.std.proofs.Common.{◌≡◌, ◌++◌, length, map}
use Rattle.unit_meaning.specs.Occurrences.{in_bodies}
use Rattle.unit_meaning.proofs.occurrences.add_bodies.Given as goal

abbrev pub invariant-bodies : goal.invariant-bodies
invariant-bodies l = map (λ o. o.now) l.out.items ++ in_bodies l.rest ≡ map (λ o. o.now) l.fn.out.items ++ in_bodies l.bodies

abbrev pub decreases-bodies : goal.decreases-bodies
decreases-bodies l = length l.rest
