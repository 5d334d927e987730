use Rattle.std.proofs.Common.{◌-◌, length}
use Rattle.c_parser.proofs.NameLists.{Listing}
use Rattle.c_parser.proofs.declarators.more_identifiers.Given as goal

abbrev pub invariant-identifiers : goal.invariant-identifiers
invariant-identifiers l = Listing l.kinds l.fn.at l.more.items l.end

abbrev pub decreases-identifiers : goal.decreases-identifiers
decreases-identifiers l = length l.kinds - l.end
