use Rattle.std.proofs.Common.{◌≡◌, length}
use Rattle.std.specs.Cmp.Lexicographic.{pointwise}
use Rattle.unit_index.specs.Crossing.{same_seen}
use Rattle.unit_index.proofs.across.sights.same_names.Given as goal

abbrev pub invariant-names : goal.invariant-names
invariant-names l = pointwise same_seen l.rest l.others ≡ pointwise same_seen l.fn.a l.fn.b

abbrev pub decreases-names : goal.decreases-names
decreases-names l = length l.rest
