use Rattle.std.proofs.Common.{◌≡◌, ◌||◌, ℕ, List, length}
use Rattle.std.specs.List.{flat_map, list_any}
use Rattle.unit_index.specs.Files.{has_file, introduces_in}
use Rattle.unit_index.proofs.indexed.looks.files_in.Given as goal

abbrev pub invariant-pieces : goal.invariant-pieces
invariant-pieces l = (f : List ℕ) → (has_file l.files f || list_any (λ p. list_any (introduces_in f) p.value) l.rest) ≡ list_any (introduces_in f) (flat_map (λ p. p.value) l.pieces)

abbrev pub decreases-pieces : goal.decreases-pieces
decreases-pieces l = length l.rest
