use Rattle.std.proofs.Common.{◌≡◌, ◌++◌, length}
use Rattle.unit_meaning.specs.Faults.{of_heads}
use Rattle.unit_meaning.specs.Seen.{showing_of}
use Rattle.unit_meaning.proofs.faults.add_heads.Given as goal

abbrev pub invariant-heads : goal.invariant-heads
invariant-heads l = l.out.items ++ of_heads (showing_of l.showing) l.rest ≡ l.fn.out.items ++ of_heads (showing_of l.showing) l.heads

abbrev pub decreases-heads : goal.decreases-heads
decreases-heads l = length l.rest
