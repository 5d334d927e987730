use Rattle.std.proofs.Common.{◌≡◌, ◌++◌, length}
use Rattle.unit_index.proofs.pool.add_copies.Given as goal

abbrev pub invariant-occs : goal.invariant-occs
invariant-occs l = l.out.items ++ l.rest ≡ l.fn.out.items ++ l.fn.occs

abbrev pub decreases-occs : goal.decreases-occs
decreases-occs l = length l.rest
