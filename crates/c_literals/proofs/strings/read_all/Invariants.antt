use Rattle.std.proofs.Common.{◌≡◌, length, map}
use Rattle.c_literals.specs.Strings.{followed, outcome, piece_of}
use Rattle.c_literals.specs.Texts.{kept}
use Rattle.c_literals.proofs.strings.read_all.Given as goal

abbrev pub invariant-loop-piece : goal.invariant-loop-piece
invariant-loop-piece l = followed (kept l.text) (outcome l.prefix (map piece_of l.rest)) ≡ followed (kept l.fn.text) (outcome l.prefix (map piece_of l.pieces))

abbrev pub decreases-loop-piece : goal.decreases-loop-piece
decreases-loop-piece l = length l.rest
