-- What was written and the pieces that are left make the whole.
use Rattle.std.proofs.Common.{◌≡◌, ◌++◌, string_bytes, length}
use Rattle.type_print.specs.Pieces.{front_text}
use Rattle.type_print.proofs.declarators.growing.push_front.Given as goal

abbrev pub invariant-loop-piece : goal.invariant-loop-piece
invariant-loop-piece l = string_bytes l.out ++ front_text l.rest ≡ string_bytes l.fn.out ++ front_text l.fn.front

abbrev pub decreases-loop-piece : goal.decreases-loop-piece
decreases-loop-piece l = length l.rest
