use Rattle.std.proofs.Common.{◌≡◌, [], length}
use Rattle.include_units.specs.declared.heads.Place.TheVariants.{Opened}
use Rattle.include_units.specs.Definitions.{parameters}
use Rattle.include_units.proofs.heads.parameters.Given as goal

abbrev pub invariant-loop-token : goal.invariant-loop-token
invariant-loop-token l = parameters l.place l.before l.rest ≡ parameters Opened [] l.fn.tokens

abbrev pub decreases-loop-token : goal.decreases-loop-token
decreases-loop-token l = length l.rest
