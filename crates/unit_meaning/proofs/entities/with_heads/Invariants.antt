use Rattle.std.proofs.Common.{◌≡◌, length}
use Rattle.unit_meaning.specs.Entities.{with_heads}
use Rattle.unit_meaning.proofs.entities.with_heads.Given as goal

abbrev pub invariant-heads : goal.invariant-heads
invariant-heads l = with_heads l.sources l.all l.rest ≡ with_heads l.sources l.fn.all l.heads

abbrev pub decreases-heads : goal.decreases-heads
decreases-heads l = length l.rest
