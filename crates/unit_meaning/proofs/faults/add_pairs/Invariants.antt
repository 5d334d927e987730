use Rattle.std.proofs.Common.{◌≡◌, ◌++◌, length}
use Rattle.unit_meaning.specs.Faults.{of_pairs}
use Rattle.unit_meaning.specs.Seen.{showing_of}
use Rattle.unit_meaning.proofs.faults.add_pairs.Given as goal

abbrev pub invariant-pairs : goal.invariant-pairs
invariant-pairs l = l.out.items ++ of_pairs (showing_of l.showing) l.rest ≡ l.fn.out.items ++ of_pairs (showing_of l.showing) l.pairs

abbrev pub decreases-pairs : goal.decreases-pairs
decreases-pairs l = length l.rest
