use Rattle.std.proofs.Common.{◌≡◌, length}
use Rattle.rename_core.specs.Found.{pasted_at}
use Rattle.rename_core.proofs.marks.pasted_at.Given as goal

abbrev pub invariant-occs : goal.invariant-occs
invariant-occs l = pasted_at l.unit l.walk.denoted l.rest ≡ pasted_at l.unit l.walk.denoted l.occs

abbrev pub decreases-occs : goal.decreases-occs
decreases-occs l = length l.rest
