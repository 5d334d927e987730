use Rattle.std.proofs.Common.{◌-◌, length}
use Rattle.tree_data.specs.Seen.{pointers_of}
use Rattle.c_parser.proofs.Types.{Pointers}
use Rattle.c_parser.proofs.declarators.pointers.Given as goal

abbrev pub invariant-pointers : goal.invariant-pointers
invariant-pointers l = Pointers l.kinds l.fn.at (pointers_of l.pointers.items) l.end

abbrev pub decreases-pointers : goal.decreases-pointers
decreases-pointers l = length l.kinds - l.end
