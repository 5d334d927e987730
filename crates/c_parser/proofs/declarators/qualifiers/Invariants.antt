use Rattle.std.proofs.Common.{◌-◌, length}
use Rattle.c_parser.proofs.Types.{Qualifiers}
use Rattle.c_parser.proofs.declarators.qualifiers.Given as goal

abbrev pub invariant-qualifiers : goal.invariant-qualifiers
invariant-qualifiers l = Qualifiers l.kinds l.fn.at l.qualifiers.items l.end

abbrev pub decreases-qualifiers : goal.decreases-qualifiers
decreases-qualifiers l = length l.kinds - l.end
