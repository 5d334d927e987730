use Rattle.std.proofs.Common.{◌≡◌, ◌+◌, ◌≤◌, length}
use Rattle.c_parser.specs.Brackets.{too_deep, too_deep_from}
use Rattle.c_parser.proofs.brackets.too_deep.Given as goal

abbrev pub invariant-loop-kind : goal.invariant-loop-kind
invariant-loop-kind l =
    (too_deep_from l.depth l.at l.rest ≡ too_deep l.kinds)
    × (l.depth ≤ 256)
    × (l.at + length l.rest ≤ 2000000)

abbrev pub decreases-loop-kind : goal.decreases-loop-kind
decreases-loop-kind l = length l.rest
