use Rattle.std.proofs.Common.{◌≡◌, length}
use Rattle.std.specs.List.{filter, list_any}
use Rattle.scope_tables.specs.Occurrences.{is_at}
use Rattle.unit_index.specs.References.{introduces}
use Rattle.unit_index.proofs.introduced.introduces_in.Given as goal

abbrev pub invariant-occs : goal.invariant-occs
invariant-occs l = list_any (λ o. introduces o.role) l.walk ≡ list_any (λ o. introduces o.role) (filter (is_at l.tok) l.piece)

abbrev pub decreases-occs : goal.decreases-occs
decreases-occs l = length l.walk
