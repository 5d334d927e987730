use Rattle.std.proofs.Common.{◌≡◌, length, map}
use Rattle.c_literals.specs.Strings.{common, common_after, piece_of}
use Rattle.c_literals.proofs.strings.common.Given as goal

abbrev pub invariant-loop-piece : goal.invariant-loop-piece
invariant-loop-piece l = common_after l.prefix (map piece_of l.rest) ≡ common (map piece_of l.pieces)

abbrev pub decreases-loop-piece : goal.decreases-loop-piece
decreases-loop-piece l = length l.rest
