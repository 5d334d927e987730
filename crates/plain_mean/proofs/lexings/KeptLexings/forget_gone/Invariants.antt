use Rattle.std.proofs.Common.{◌≡◌, length}
use Rattle.plain_mean.proofs.lexings.KeptLexings.forget_gone.Given as goal

abbrev pub invariant-paths : goal.invariant-paths
invariant-paths l = l.self.kept ≡ l.fn.self.kept

abbrev pub decreases-paths : goal.decreases-paths
decreases-paths l = length l.rest
