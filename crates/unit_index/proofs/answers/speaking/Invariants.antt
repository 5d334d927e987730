use Rattle.std.proofs.Common.{◌≡◌, length}
use Rattle.unit_index.specs.Speaking.{speaking}
use Rattle.unit_index.proofs.answers.speaking.Given as goal

abbrev pub invariant-units : goal.invariant-units
invariant-units l = speaking l.rest l.tok ≡ speaking l.units l.tok

abbrev pub decreases-units : goal.decreases-units
decreases-units l = length l.rest
