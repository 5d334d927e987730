use Rattle.std.proofs.Common.{◌≡◌, ◌||◌, ℕ, List, length}
use Rattle.std.specs.List.{list_any}
use Rattle.unit_index.specs.Files.{has_file}
use Rattle.unit_index.specs.Groups.{same_file}
use Rattle.unit_index.proofs.files.add_files.Given as goal

abbrev pub invariant-files : goal.invariant-files
invariant-files l = (f : List ℕ) → (has_file l.files f || list_any (same_file f) l.rest) ≡ (has_file l.fn.files f || list_any (same_file f) l.more)

abbrev pub decreases-files : goal.decreases-files
decreases-files l = length l.rest
