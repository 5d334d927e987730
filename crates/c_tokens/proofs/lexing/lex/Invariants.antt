-- What was found and what is left give what the whole text gives.
use Rattle.std.proofs.Common.{◌≤◌, ◌-◌, length, IsCharBoundary, false}
use Rattle.c_tokens.specs.declared.pieces.Context.TheVariants.{Fresh}
use Rattle.c_tokens.specs.Laws.{InOrder, ranges}
use Rattle.c_tokens.specs.Pieces.{pieces}
use Rattle.c_tokens.specs.Reading.{rest}
use Rattle.c_tokens.proofs.LexingLemmas.{Goes}
use Rattle.c_tokens.proofs.lexing.lex.Given as goal

abbrev pub invariant-loop-piece : goal.invariant-loop-piece
invariant-loop-piece l = record {
  goes : Goes l.found.tokens.items l.found.places.items l.found.faults.items (pieces l.context l.spaced 0 (rest l.text l.at)) (pieces Fresh false 0 (rest l.text 0));
  within : l.at ≤ length l.text;
  boundary : IsCharBoundary l.text l.at;
  place_order : InOrder l.text 0 l.at l.found.places.items;
  fault_order : InOrder l.text 0 l.at (ranges l.found.faults.items);
  numbered : length l.found.tokens.items ≤ l.at;
}

abbrev pub decreases-loop-piece : goal.decreases-loop-piece
decreases-loop-piece l = length l.text - l.at
