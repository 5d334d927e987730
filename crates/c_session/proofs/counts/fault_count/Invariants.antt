use Rattle.std.proofs.Common.{◌≡◌, ◌+◌, ◌*◌, ◌≤◌, length, sum_by}
use Rattle.c_session.proofs.Counting.{each_shown}
use Rattle.c_session.proofs.counts.fault_count.Given as goal

abbrev pub invariant-paths : goal.invariant-paths
invariant-paths l =
    (l.total + sum_by (each_shown l.shown) l.rest ≡ sum_by (each_shown l.shown) l.paths)
    × (l.total + 18446744073709551616 * length l.rest ≤ 18446744073709551616 * 18446744073709551615)

abbrev pub decreases-paths : goal.decreases-paths
decreases-paths l = length l.rest
