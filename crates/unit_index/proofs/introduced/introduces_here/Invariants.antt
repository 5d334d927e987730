use Rattle.std.proofs.Common.{◌≡◌, length}
use Rattle.std.specs.List.{list_any}
use Rattle.unit_index.specs.Occurrences.{occs_of}
use Rattle.unit_index.specs.References.{is_introduced}
use Rattle.unit_index.proofs.introduced.introduces_here.Given as goal

abbrev pub invariant-pieces : goal.invariant-pieces
invariant-pieces l = list_any (λ p. list_any (is_introduced l.tok) p.value) l.rest ≡ list_any (is_introduced l.tok) (occs_of l.unit)

abbrev pub decreases-pieces : goal.decreases-pieces
decreases-pieces l = length l.rest
