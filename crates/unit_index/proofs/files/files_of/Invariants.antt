use Rattle.std.proofs.Common.{◌≡◌, ◌||◌, ℕ, List, length}
use Rattle.std.specs.List.{list_any}
use Rattle.unit_index.specs.Files.{has_file, introduces_in}
use Rattle.unit_index.proofs.files.files_of.Given as goal

abbrev pub invariant-occs : goal.invariant-occs
invariant-occs l = (f : List ℕ) → (has_file l.files f || list_any (introduces_in f) l.rest) ≡ list_any (introduces_in f) l.occs

abbrev pub decreases-occs : goal.decreases-occs
decreases-occs l = length l.rest
