use Rattle.std.proofs.Common.{◌≡◌, ℕ, List, ◌++◌, Some, length}
use Rattle.c_literals.specs.Kept.{with_more}
use Rattle.c_literals.specs.declared.prefix.Prefix.{Prefix}
use Rattle.c_literals.proofs.seen.add_bytes.Given as goal

abbrev pub invariant-loop-byte : goal.invariant-loop-byte
invariant-loop-byte l = (p : Prefix) (more : List ℕ) → with_more p l.seen (Some (l.rest ++ more)) ≡ with_more p l.fn.seen (Some (l.bytes ++ more))

abbrev pub decreases-loop-byte : goal.decreases-loop-byte
decreases-loop-byte l = length l.rest
