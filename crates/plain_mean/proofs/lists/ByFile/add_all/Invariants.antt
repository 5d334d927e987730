use Rattle.std.proofs.Common.{◌≡◌, ℕ, List, ◌++◌, length}
use Rattle.std.specs.List.{filter}
use Rattle.plain_mean.specs.Shown.{falls_on}
use Rattle.plain_mean.specs.Gathered.{faults_at}
use Rattle.plain_mean.proofs.lists.ByFile.add_all.Given as goal

abbrev pub invariant-faults : goal.invariant-faults
invariant-faults l = (q : List ℕ) → faults_at l.self q ++ filter (falls_on q) l.rest ≡ faults_at l.fn.self q ++ filter (falls_on q) l.fn.faults

abbrev pub decreases-faults : goal.decreases-faults
decreases-faults l = length l.rest
