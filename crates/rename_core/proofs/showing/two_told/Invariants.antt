use Rattle.std.proofs.Common.{◌≡◌, length}
use Rattle.rename_core.specs.Found.{other_told, two_told}
use Rattle.rename_core.proofs.showing.two_told.Given as goal

abbrev pub invariant-told : goal.invariant-told
invariant-told l = other_told l.first l.rest ≡ two_told l.told

abbrev pub decreases-told : goal.decreases-told
decreases-told l = length l.rest
