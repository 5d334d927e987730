use Rattle.std.proofs.Common.{◌≡◌, ℕ, List, ◌||◌, bytes_eq, length}
use Rattle.std.specs.List.{list_any}
use Rattle.plain_mean.specs.Marks.{is_marked}
use Rattle.plain_mean.proofs.marks.Marks.add_all.Given as goal

abbrev pub invariant-paths : goal.invariant-paths
invariant-paths l = (q : List ℕ) → (is_marked l.self q || list_any (bytes_eq q) l.rest) ≡ (is_marked l.fn.self q || list_any (bytes_eq q) l.fn.paths)

abbrev pub decreases-paths : goal.decreases-paths
decreases-paths l = length l.rest
