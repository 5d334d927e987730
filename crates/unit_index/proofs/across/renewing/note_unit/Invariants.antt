use Rattle.std.proofs.Common.{◌≡◌, ℕ, true, List, length}
use Rattle.unit_index.specs.declared.exported.Does.TheVariants.{Declares, Defines}
use Rattle.unit_index.specs.Exported.{at, one}
use Rattle.unit_index.specs.Firsts.{first_some, or_else}
use Rattle.unit_index.specs.News.{has}
use Rattle.unit_index.proofs.across.renewing.note_unit.Given as goal

abbrev pub invariant-names : goal.invariant-names
invariant-names l = (q : List ℕ) → has l.names q ≡ true →
    (or_else (at l.firsts.declared q) (first_some (one Declares l.path l.exports.tags q) l.rest) ≡ or_else (at l.fn.firsts.declared q) (first_some (one Declares l.path l.exports.tags q) l.exports.names))
    × (or_else (at l.firsts.defined q) (first_some (one Defines l.path l.exports.tags q) l.rest) ≡ or_else (at l.fn.firsts.defined q) (first_some (one Defines l.path l.exports.tags q) l.exports.names))

abbrev pub decreases-names : goal.decreases-names
decreases-names l = length l.rest
