use Rattle.std.proofs.Common.{◌≡◌, ℕ, List, Some, length, map, if◌then◌else◌}
use Rattle.std.specs.List.{list_any}
use Rattle.include_units.specs.Coming.{question}
use Rattle.include_units.specs.Files.{Text, same}
use Rattle.plain_mean.specs.Reads.{path_in}
use Rattle.plain_mean.specs.Spelled.{told_path}
use Rattle.plain_mean.proofs.spelled.told_of.Given as goal

abbrev pub invariant-asks : goal.invariant-asks
invariant-asks l = (q : List ℕ) → (if list_any (same (Text q)) (map question l.rest) then Some q else path_in l.told q) ≡ told_path (map question l.fn.wants) q

abbrev pub decreases-asks : goal.decreases-asks
decreases-asks l = length l.rest
