use Rattle.std.proofs.Common.{◌≡◌, ◌++◌, length}
use Rattle.unit_meaning.specs.Symbols.{symbols}
use Rattle.unit_meaning.proofs.symbols.symbols.Given as goal

abbrev pub invariant-heads : goal.invariant-heads
invariant-heads l = l.out.items ++ symbols l.sources l.rest ≡ symbols l.sources l.heads

abbrev pub decreases-heads : goal.decreases-heads
decreases-heads l = length l.rest
