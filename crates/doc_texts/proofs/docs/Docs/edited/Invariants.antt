use Rattle.std.proofs.Common.{◌≡◌, length}
use Rattle.doc_texts.specs.Edited.{all_made, edited, CanAllBeMade}
use Rattle.doc_texts.proofs.docs.Docs.edited.Given as goal

abbrev pub invariant-turn : goal.invariant-turn
invariant-turn l = record {
  same : all_made l.self l.made l.rest l.new_name ≡ edited l.self l.edits l.new_name;
  can : CanAllBeMade l.self l.rest;
}

abbrev pub decreases-turn : goal.decreases-turn
decreases-turn l = length l.rest
