use Rattle.std.proofs.Common.{◌≡◌, ◌+◌, ◌-◌, length}
use Rattle.place_cases.proofs.show_places.Given as goal

abbrev pub invariant-places : goal.invariant-places
invariant-places l = l.walk.text ≡ l.fn.text

abbrev pub decreases-places : goal.decreases-places
decreases-places l = length l.fn.text + 1 - l.offset
