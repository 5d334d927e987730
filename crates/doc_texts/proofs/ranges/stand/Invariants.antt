use Rattle.std.proofs.Common.{◌↔◌, length}
use Rattle.doc_texts.specs.Edited.{Stand}
use Rattle.doc_texts.proofs.ranges.stand.Given as goal

abbrev pub invariant-turn : goal.invariant-turn
invariant-turn l = record {
  same : Stand l.fn.text l.at l.rest ↔ Stand l.fn.text 0 l.fn.ranges;
}

abbrev pub decreases-turn : goal.decreases-turn
decreases-turn l = length l.rest
