use Rattle.std.proofs.Common.{◌≡◌, false, length}
use Rattle.elab_state.specs.declared.wants.Wanted.{Wanted}
use Rattle.earlier_items.specs.Differences.{IsAmong, has_question}
use Rattle.earlier_items.proofs.differences.Changed.leaves_all.Given as goal

abbrev pub invariant-asked : goal.invariant-asked
invariant-asked l =
    ((q : Wanted) → IsAmong l.rest q → has_question l.self q ≡ false) → (q : Wanted) → IsAmong l.asked q → has_question l.self q ≡ false

abbrev pub decreases-asked : goal.decreases-asked
decreases-asked l = length l.rest
