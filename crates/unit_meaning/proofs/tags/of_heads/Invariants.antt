use Rattle.std.proofs.Common.{◌≡◌, length}
use Rattle.unit_meaning.specs.Tags.{of_heads}
use Rattle.unit_meaning.proofs.tags.of_heads.Given as goal

abbrev pub invariant-heads : goal.invariant-heads
invariant-heads l = of_heads l.tags l.rest ≡ of_heads l.fn.tags l.heads

abbrev pub decreases-heads : goal.decreases-heads
decreases-heads l = length l.rest
