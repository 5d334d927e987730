use Rattle.std.proofs.Common.{◌↔◌, length}
use Rattle.doc_texts.specs.Edited.{CanAllBeMade}
use Rattle.doc_texts.proofs.docs.Docs.can_be_edited.Given as goal

abbrev pub invariant-turn : goal.invariant-turn
invariant-turn l = record {
  same : CanAllBeMade l.self l.rest ↔ CanAllBeMade l.self l.edits;
}

abbrev pub decreases-turn : goal.decreases-turn
decreases-turn l = length l.rest
