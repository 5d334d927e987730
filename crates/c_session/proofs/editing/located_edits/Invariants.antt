use Rattle.std.proofs.Common.{◌≡◌, ◌++◌, length, map, flat_map}
use Rattle.std.specs.List.{AllByRecursion}
use Rattle.doc_texts.specs.Edited.{Stand}
use Rattle.plain_mean.specs.Given.{text_in}
use Rattle.plain_mean.specs.Ranges.{plain}
use Rattle.c_session.specs.Renames.{located_in}
use Rattle.c_session.proofs.editing.located_edits.Given as goal

abbrev pub invariant-turn : goal.invariant-turn
invariant-turn l = record {
  made : l.out.items ++ flat_map (located_in l.docs l.encoding) (map plain l.rest) ≡ flat_map (located_in l.docs l.encoding) (map plain l.edits);
  stand : AllByRecursion (λ e. Stand (text_in l.docs e.path) 0 e.ranges.items) l.rest;
}

abbrev pub decreases-turn : goal.decreases-turn
decreases-turn l = length l.rest
