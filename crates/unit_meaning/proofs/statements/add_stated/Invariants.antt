use Rattle.std.proofs.Common.{◌≡◌, ◌||◌, ℕ, List, is_some, length}
use Rattle.type_data.specs.declared.names.ItemName.{ItemName}
use Rattle.unit_meaning.specs.Kept.{has}
use Rattle.unit_meaning.specs.Exports.{any, first_in}
use Rattle.unit_meaning.proofs.statements.add_stated.Given as goal

abbrev pub invariant-stated : goal.invariant-stated
invariant-stated l = (item : ItemName) (q : List ℕ) → (has l.names q || is_some (first_in any q item l.rest)) ≡ (has l.fn.names q || is_some (first_in any q item l.list))

abbrev pub decreases-stated : goal.decreases-stated
decreases-stated l = length l.rest
