use Rattle.std.proofs.Common.{◌≡◌, length}
use Rattle.init_rules.specs.Parts.{first_part}
use Rattle.init_rules.proofs.parts.first_part.Given as goal

abbrev pub invariant-loop-member : goal.invariant-loop-member
invariant-loop-member l = first_part l.at l.rest ≡ first_part l.number l.members

abbrev pub decreases-loop-member : goal.decreases-loop-member
decreases-loop-member l = length l.rest
