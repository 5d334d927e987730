use Rattle.std.proofs.Common.{◌≡◌, ◌++◌, length, map}
use Rattle.unit_meaning.specs.Occurrences.{in_heads}
use Rattle.unit_meaning.proofs.occurrences.add_heads.Given as goal

abbrev pub invariant-heads : goal.invariant-heads
invariant-heads l = map (λ o. o.now) l.out.items ++ in_heads l.rest ≡ map (λ o. o.now) l.fn.out.items ++ in_heads l.heads

abbrev pub decreases-heads : goal.decreases-heads
decreases-heads l = length l.rest
