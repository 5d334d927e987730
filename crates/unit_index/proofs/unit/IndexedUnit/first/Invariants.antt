use Rattle.std.proofs.Common.{◌≡◌, length}
use Rattle.std.specs.List.{find, flat_map}
use Rattle.scope_tables.specs.Occurrences.{is_at}
use Rattle.unit_index.proofs.unit.IndexedUnit.first.Given as goal

abbrev pub invariant-pieces : goal.invariant-pieces
invariant-pieces l = find (is_at l.tok) (flat_map (λ p. p.value) l.rest) ≡ find (is_at l.tok) l.self.meaning.occs

abbrev pub decreases-pieces : goal.decreases-pieces
decreases-pieces l = length l.rest
