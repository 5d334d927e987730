use Rattle.std.proofs.Common.{◌≡◌, ℕ, ◌+◌, ◌-◌, length, slice_index_or}
use Rattle.c_parser.proofs.enumerations.cover.Given as goal

abbrev pub invariant-names : goal.invariant-names
invariant-names l = (n : ℕ) → slice_index_or l.latest.items n 0 ≡ slice_index_or l.fn.latest.items n 0

abbrev pub decreases-names : goal.decreases-names
decreases-names l = l.number + 1 - length l.latest.items
