-- What was joined and what is still to join make the whole.
use Rattle.std.proofs.Common.{◌≡◌, ◌≤◌, ◌++◌, length, take, IsCharBoundary, string_bytes}
use Rattle.c_tokens.specs.Pieces.{spelling}
use Rattle.c_tokens.specs.Reading.{rest}
use Rattle.c_tokens.proofs.lexing.spelled.Given as goal

abbrev pub invariant-loop-left : goal.invariant-loop-left
invariant-loop-left l = record {
  joined : string_bytes l.out ++ spelling (take l.left (rest l.text l.place)) ≡ spelling (take l.count (rest l.text l.at));
  enough : l.left ≤ length (rest l.text l.place);
  boundary : IsCharBoundary l.text l.place;
}

abbrev pub decreases-loop-left : goal.decreases-loop-left
decreases-loop-left l = l.left
