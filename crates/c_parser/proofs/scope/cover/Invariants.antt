use Rattle.std.proofs.Common.{◌≡◌, ℕ, ◌+◌, ◌-◌, length, slice_index_or, false}
use Rattle.c_parser.proofs.scope.cover.Given as goal

abbrev pub invariant-flags : goal.invariant-flags
invariant-flags l = (n : ℕ) → slice_index_or l.flags.items n false ≡ slice_index_or l.fn.flags.items n false

abbrev pub decreases-flags : goal.decreases-flags
decreases-flags l = l.number + 1 - length l.flags.items
