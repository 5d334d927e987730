use Rattle.std.proofs.Common.{◌≡◌, length}
use Rattle.rename_core.specs.Found.{name_told}
use Rattle.rename_core.proofs.showing.name_told.Given as goal

abbrev pub invariant-told : goal.invariant-told
invariant-told l = name_told l.rest ≡ name_told l.told

abbrev pub decreases-told : goal.decreases-told
decreases-told l = length l.rest
