use Rattle.std.proofs.Common.{◌≡◌, ◌++◌, length, map}
use Rattle.plain_mean.specs.Given.{text_in}
use Rattle.plain_mean.specs.Ranges.{plain}
use Rattle.c_session.specs.Renames.{located_at, located_in}
use Rattle.c_session.proofs.Placing.{Standing}
use Rattle.c_session.proofs.editing.push_located.Given as goal

abbrev pub invariant-turn : goal.invariant-turn
invariant-turn l = record {
  made : l.out.items ++ map (located_at l.docs l.fn.encoding l.edits.path) l.rest ≡ l.fn.out.items ++ located_in l.docs l.fn.encoding (plain l.edits);
  stands : Standing (text_in l.docs l.edits.path) l.rest;
  text : l.walk.text ≡ text_in l.docs l.edits.path;
  encoding : l.walk.encoding ≡ l.fn.encoding;
}

abbrev pub decreases-turn : goal.decreases-turn
decreases-turn l = length l.rest
