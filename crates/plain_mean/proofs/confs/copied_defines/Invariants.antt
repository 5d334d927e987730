use Rattle.std.proofs.Common.{◌≡◌, ◌++◌, length}
use Rattle.plain_mean.proofs.confs.copied_defines.Given as goal

abbrev pub invariant-defines : goal.invariant-defines
invariant-defines l = l.out.items ++ l.rest ≡ l.fn.defines

abbrev pub decreases-defines : goal.decreases-defines
decreases-defines l = length l.rest
