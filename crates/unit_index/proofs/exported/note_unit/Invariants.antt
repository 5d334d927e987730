use Rattle.std.proofs.Common.{◌≡◌, ℕ, List, length}
use Rattle.unit_index.specs.Exported.{at, one}
use Rattle.unit_index.specs.Firsts.{first_some, or_else}
use Rattle.unit_index.proofs.exported.note_unit.Given as goal

abbrev pub invariant-names : goal.invariant-names
invariant-names l = (q : List ℕ) → or_else (at l.names q) (first_some (one l.does l.path l.exports.tags q) l.rest) ≡ or_else (at l.fn.names q) (first_some (one l.does l.path l.exports.tags q) l.exports.names)

abbrev pub decreases-names : goal.decreases-names
decreases-names l = length l.rest
