use Rattle.std.proofs.Common.{◌-◌, length}
use Rattle.c_parser.proofs.Parsing.{Pieces}
use Rattle.c_parser.proofs.expressions.pieces.Given as goal

abbrev pub invariant-pieces : goal.invariant-pieces
invariant-pieces l = Pieces l.kinds l.fn.at l.pieces.items l.end

abbrev pub decreases-pieces : goal.decreases-pieces
decreases-pieces l = length l.kinds - l.end
