use Rattle.std.proofs.Common.{◌≡◌, length}
use Rattle.std.specs.Cmp.Lexicographic.{pointwise}
use Rattle.plain_mean.specs.Same.{same_define}
use Rattle.plain_mean.proofs.same.same_defines.Given as goal

abbrev pub invariant-defines : goal.invariant-defines
invariant-defines l = pointwise same_define l.left l.right ≡ pointwise same_define l.fn.a l.fn.b

abbrev pub decreases-defines : goal.decreases-defines
decreases-defines l = length l.left
