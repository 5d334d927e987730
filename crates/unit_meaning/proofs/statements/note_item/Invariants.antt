use Rattle.std.proofs.Common.{◌≡◌, ℕ, List, length}
use Rattle.std.specs.Option.{option_or}
use Rattle.unit_meaning.specs.Kept.{asks, at}
use Rattle.unit_meaning.specs.Exports.{first_in}
use Rattle.unit_meaning.proofs.statements.note_item.Given as goal

abbrev pub invariant-stated : goal.invariant-stated
invariant-stated l = (q : List ℕ) → option_or (at l.map q) (first_in (asks l.asked) q l.item l.rest) ≡ option_or (at l.fn.map q) (first_in (asks l.asked) q l.item l.list)

abbrev pub decreases-stated : goal.decreases-stated
decreases-stated l = length l.rest
