use Rattle.std.proofs.Common.{length}
use Rattle.unit_index.proofs.PlaceLemmas.{AreSoFar}
use Rattle.unit_index.proofs.places.linked.Given as goal

abbrev pub invariant-codes : goal.invariant-codes
invariant-codes l = AreSoFar l.count l.codes l.rest l.firsts.items l.nexts.items

abbrev pub decreases-codes : goal.decreases-codes
decreases-codes l = length l.rest
